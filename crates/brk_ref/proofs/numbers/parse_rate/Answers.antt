use Rattle.std.proofs.Common.{lit≤}
use Rattle.std.specs.Prelude.{Some}
use Rattle.brk_money.specs.Spelling.{decimal_number_of_text}
use Rattle.brk_money.specs.declared.refusal.Refusal.TheVariants.{BadText}
use Rattle.brk_money.proofs.Spellings.{at_most_found}
use Rattle.brk_ref.proofs.Limits.{within_both, from_zero}
use Rattle.brk_ref.proofs.numbers.parse_rate.Goals as goal

pub returns : goal.returns
returns c =
    let found = c.in-Some.ensures.found in
    within_both 0 10000 BadText (decimal_number_of_text c.args.bytes.now) (Some c.in-Some.number) c.new.result
    (at_most_found c.args.bytes.now c.in-Some.number 10000 (lit≤ tt) found.0 found.1) (from_zero 10000 c.in-Some.number c.new.result c.new.ensures)
