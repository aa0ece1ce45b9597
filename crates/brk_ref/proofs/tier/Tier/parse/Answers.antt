use Rattle.std.proofs.Common.{lit≤}
use Rattle.std.specs.Prelude.{Some}
use Rattle.brk_money.specs.Spelling.{decimal_number_of_text}
use Rattle.brk_money.specs.declared.refusal.Refusal.TheVariants.{BadText}
use Rattle.brk_money.proofs.Spellings.{at_most_found}
use Rattle.brk_ref.proofs.Limits.{within_both}
use Rattle.brk_ref.proofs.tier.Tier.parse.Goals as goal

pub returns : goal.returns
returns c =
    let found = c.in-Some.ensures.found in
    within_both 1 3 BadText (decimal_number_of_text c.args.bytes.now) (Some c.in-Some.number) c.new.result
    (at_most_found c.args.bytes.now c.in-Some.number 3 (lit≤ tt) found.0 found.1) c.new.ensures
