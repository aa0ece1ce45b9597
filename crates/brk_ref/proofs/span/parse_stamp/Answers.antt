use Rattle.std.proofs.Common.{lit≤, arith, w64}
use Rattle.std.specs.Prelude.{Some}
use Rattle.std.proofs.lemmas.Int.{to_z_pos}
use Rattle.brk_money.specs.Spelling.{decimal_number_of_text}
use Rattle.brk_money.specs.declared.refusal.Refusal.TheVariants.{BadText}
use Rattle.brk_money.proofs.Spellings.{at_most_found}
use Rattle.brk_ref.proofs.Moments.{stamp_within}
use Rattle.brk_ref.proofs.Limits.{within_both}
use Rattle.brk_ref.proofs.span.parse_stamp.Goals as goal

pub returns : goal.returns
returns c =
    let found = c.in-Some.ensures.found in
    let n = c.in-Some.millis in
    within_both 0 253402300799999 BadText (decimal_number_of_text c.args.bytes.now) (Some n) c.new.result
    (at_most_found c.args.bytes.now n 253402300799999 (lit≤ tt) found.0 found.1)
    (stamp_within n _ c.new.result (to_z_pos w64 n (omega (arith, found.0))) found.0 c.new.ensures.found c.new.ensures.limits)
