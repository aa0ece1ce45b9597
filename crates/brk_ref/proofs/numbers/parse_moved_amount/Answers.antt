use Rattle.std.proofs.Common.{lit≤}
use Rattle.std.specs.Prelude.{Some}
use Rattle.brk_money.specs.Spelling.{cents_of_text}
use Rattle.brk_money.specs.declared.cents.TheConstants.Cents
use Rattle.brk_money.specs.declared.refusal.Refusal.TheVariants.{BadText}
use Rattle.brk_model.specs.Forms.{nonnegative_amount}
use Rattle.brk_ref.proofs.Limits.{within_limits}
use Rattle.brk_ref.proofs.numbers.parse_moved_amount.Goals as goal

pub returns : goal.returns
returns c =
    within_limits 1 100_000_000_000_000_000 Cents.GREATEST BadText (nonnegative_amount (cents_of_text c.args.bytes.now)) (Some c.in-Some.cents) c.new.result (lit≤ tt) c.in-Some.ensures c.new.ensures
