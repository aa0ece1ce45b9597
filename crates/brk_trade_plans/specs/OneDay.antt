-- The first day of one-day settlement: its checks, and the plan that sets it.
use Rattle.std.specs.Prelude.{◌≡◌, ℕ, false, is_some, nat_le, List, [], ◌∷◌, Option, None, Some}
use Rattle.std.specs.Option.{option_map_or}
use Rattle.brk_money.specs.Moments.{day_of, stamp_after}
use Rattle.brk_money.specs.declared.refusal.Refusal.TheVariants.{TooEarly}
use Rattle.brk_model.specs.Tests.{RefusalCheck, duplicate_check, first_refusal}
use Rattle.brk_trade_rows.specs.declared.change.Change.TheVariants as change
use Rattle.brk_trade_plans.specs.Reference.{later_stamp_check}
use Rattle.brk_trade_plans.specs.declared.plan.Plan.{Plan}
use Rattle.brk_trade_plans.specs.declared.reply.Reply.TheVariants as reply

-- The check that `day`, in days since 1970-01-01, is later than the UTC day of the command's stamp
-- (`TooEarly`). `last` is the last stamp, `now` the clock reading. It passes without a later stamp.
abbrev pub later_one_day_settlement_start_check : ℕ → Option ℕ → ℕ → RefusalCheck
later_one_day_settlement_start_check day last now = (option_map_or (λ stamp. nat_le day (day_of stamp)) (stamp_after last now) false, TooEarly)

-- The checks of `day`, in days since 1970-01-01, as the first day of one-day settlement, in this
-- order: none is set yet (`Exists`), a stamp later than `last` exists (`ClockEnd`), and `day` is
-- later than the UTC day of the command's stamp (`TooEarly`). `now` is the clock reading.
abbrev pub one_day_settlement_checks : ℕ → Option ℕ → Option ℕ → ℕ → List RefusalCheck
one_day_settlement_checks day rule last now = duplicate_check (is_some rule) ∷ later_stamp_check last now ∷ later_one_day_settlement_start_check day last now ∷ []

-- `plan` sets the first day of one-day settlement to `day`, in days since 1970-01-01, and the last
-- stamp. `rule` is the day that is set already, if any, `last` the last stamp, `now` the clock
-- reading. The day passes its checks, and the reply is `Booked` with the stamp.
pub record IsOneDaySettlementPlan (day : ℕ) (rule : Option ℕ) (last : Option ℕ) (now : ℕ) (plan : Plan) : Type 0 where
  pub stamp : ℕ
  pub accepted : first_refusal (one_day_settlement_checks day rule last now) ≡ None
  pub stamped : stamp_after last now ≡ Some stamp
  pub replied : plan.reply ≡ reply.Booked stamp
  pub changes : plan.changes.items ≡ change.SetOneDaySettlementStart day ∷ change.SetLastStamp stamp ∷ []
