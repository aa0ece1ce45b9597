-- Cancels: the checks of the trade, and the plan of an accepted cancel.
use Rattle.std.specs.Prelude.{◌≡◌, ℕ, true, not, List, [], ◌∷◌, ◌++◌, Option, Some, None}
use Rattle.brk_money.specs.Kinds.{is_same_trade_status}
use Rattle.brk_money.specs.Moments.{stamp_after}
use Rattle.brk_money.specs.declared.refusal.Refusal.TheVariants.{NoTrade, WrongStatus}
use Rattle.brk_money.specs.declared.status.Status.{Status}
use Rattle.brk_money.specs.declared.status.Status.TheVariants.{Pending, Canceled}
use Rattle.brk_model.specs.Tests.{RefusalCheck, first_refusal}
use Rattle.brk_trade_plans.specs.Reference.{later_stamp_check}
use Rattle.brk_trade_plans.specs.Waiting.{row_changes_of_status_after_pending}
use Rattle.brk_trade_rows.specs.declared.change.Change.{Change}
use Rattle.brk_trade_rows.specs.declared.change.Change.TheVariants.{SetLastStamp}
use Rattle.brk_trade_plans.specs.declared.plan.Plan.{Plan}
use Rattle.brk_trade_plans.specs.declared.reply.Reply.TheVariants as reply

-- The check of a cancel against its trade's status: without one there is no such trade (`NoTrade`),
-- and another status than pending is refused with `WrongStatus` and the status.
abbrev pub cancel_checks : Option Status → List RefusalCheck
cancel_checks None = (true, NoTrade) ∷ []
cancel_checks (Some status) = (not (is_same_trade_status status Pending), WrongStatus status) ∷ []

-- The row changes of a cancel: `trade` changes from pending to canceled, the last stamp is set.
abbrev pub row_changes_of_cancel : ℕ → ℕ → List Change
row_changes_of_cancel trade stamp = row_changes_of_status_after_pending trade Canceled stamp ++ SetLastStamp stamp ∷ []

-- `plan` cancels `trade`, whose status is `found`, at the stamp of the command. `last` is the last
-- stamp, `now` the clock reading. The trade passes its check, a later stamp exists, and the reply
-- is `Canceled` with the stamp.
pub record IsCancelPlan (trade : ℕ) (found : Option Status) (last : Option ℕ) (now : ℕ) (plan : Plan) : Type 0 where
  pub stamp : ℕ
  pub accepted : first_refusal (cancel_checks found ++ later_stamp_check last now ∷ []) ≡ None
  pub stamped : stamp_after last now ≡ Some stamp
  pub replied : plan.reply ≡ reply.Canceled stamp
  pub changes : plan.changes.items ≡ row_changes_of_cancel trade stamp
