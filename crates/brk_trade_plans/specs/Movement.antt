-- Deposits and withdrawals: their checks, and the plan of an accepted one.
use Rattle.std.specs.Prelude.{◌≡◌, ℕ, ℤ, pos, neg_ℤ, ◌+ℤ◌, nat_abs, nat_lt, is_none, unwrap_or, codes, List, [], ◌∷◌, ◌++◌, Option, None, Some}
use Rattle.brk_money.specs.Moments.{stamp_after}
use Rattle.brk_money.specs.Spelling.{Text}
use Rattle.brk_money.specs.declared.refusal.Refusal.TheVariants.{NoAccount, Range}
use Rattle.brk_money.specs.declared.refusal.Limit.TheVariants as limit
use Rattle.brk_model.specs.Limits.{greatest_amount}
use Rattle.brk_model.specs.Tables as tables
use Rattle.brk_model.specs.Tests.{RefusalCheck, first_refusal}
use Rattle.brk_ref_orders.specs.declared.movement.Direction.{Direction}
use Rattle.brk_ref_orders.specs.declared.movement.Direction.TheVariants.{Deposit, Withdrawal}
use Rattle.brk_ref_orders.specs.declared.movement.Movement.{Movement}
use Rattle.brk_ref.specs.Rows.{abstract_cash_row}
use Rattle.brk_trade_rows.specs.declared.change.Change.{Change}
use Rattle.brk_trade_rows.specs.declared.change.Change.TheVariants as change
use Rattle.brk_ref.specs.declared.cash_row.CashRow.{CashRow}
use Rattle.brk_trade_plans.specs.Reference.{later_stamp_check}
use Rattle.brk_trade_plans.specs.declared.movement.MovementPlanFacts.{MovementPlanFacts}
use Rattle.brk_trade_plans.specs.declared.plan.Plan.{Plan}
use Rattle.brk_trade_plans.specs.declared.reply.Reply.TheVariants as reply

-- The `amount` of a movement in cents, negated for a withdrawal.
abbrev pub signed_cash_amount : Direction → ℕ → ℤ
signed_cash_amount Deposit amount = pos amount
signed_cash_amount Withdrawal amount = neg_ℤ (pos amount)

-- The amount of the movement `m` in cents, negated for a withdrawal.
abbrev pub signed_amount_of_movement : Movement → ℤ
signed_amount_of_movement m = signed_cash_amount m.direction m.amount

-- The text of the cash row of a movement (CM_NAME): `Deposit` or `Withdrawal`.
abbrev pub cash_text_of_direction : Direction → Text
cash_text_of_direction Deposit = codes "Deposit"
cash_text_of_direction Withdrawal = codes "Withdrawal"

-- The balance after the movement `m`, in cents, from the facts `found`; a missing account has 0.
abbrev pub balance_after_movement : Movement → MovementPlanFacts → ℤ
balance_after_movement m found = unwrap_or found.balance (pos 0) +ℤ signed_amount_of_movement m

-- The checks of the movement `m` against the facts `found`, in this order: the account exists
-- (`NoAccount`), the absolute value of the balance after the movement is at most 10^17 cents
-- (`Range(Balance)`), and there are fewer than 10^12 deposits and withdrawals (`Range(Moves)`).
abbrev pub movement_checks : Movement → MovementPlanFacts → List RefusalCheck
movement_checks m found =
    (is_none found.balance, NoAccount) ∷ (nat_lt greatest_amount (nat_abs (balance_after_movement m found)), Range limit.Balance)
    ∷ (found.has_all_movements, Range limit.Moves) ∷ []

-- The CASH_MOVE row of `m` with the id `number` and the stamp `stamp`, without a trade.
abbrev pub cash_row_of_movement : Movement → (number stamp : ℕ) → tables.CashRow
cash_row_of_movement m number stamp =
    record { id = number; account = m.account; trade = None; stamp = stamp; amount = signed_amount_of_movement m; name = cash_text_of_direction m.direction }

-- The row changes of a movement: the cash row, the balance of `account` in cents, the last stamp.
abbrev pub row_changes_of_movement : ℕ → CashRow → ℤ → ℕ → List Change
row_changes_of_movement account row balance stamp = change.AddMove row ∷ change.SetBalance account balance ∷ change.SetLastStamp stamp ∷ []

-- `plan` adds the cash row of `m` with the id `number`, sets the balance, in cents, and the last
-- stamp, and replies `Moved` with the stamp, the id and the balance.
pub record AppliesMovement (m : Movement) (number : ℕ) (balance : ℤ) (stamp : ℕ) (plan : Plan) : Type 0 where
  pub row : CashRow
  pub posted : abstract_cash_row row ≡ cash_row_of_movement m number stamp
  pub replied : plan.reply ≡ reply.Moved stamp number balance
  pub changes : plan.changes.items ≡ row_changes_of_movement m.account row balance stamp

-- `plan` applies `m` at the stamp of the command. `found` are the facts in the tables, `last` is
-- the last stamp, `now` the clock reading. The movement passes its checks, a later stamp exists,
-- and `plan` has the next id, `found.next`, and the balance after the movement (`AppliesMovement`).
pub record IsMovementPlan (m : Movement) (found : MovementPlanFacts) (last : Option ℕ) (now : ℕ) (plan : Plan) : Type 0 where
  pub stamp : ℕ
  pub accepted : first_refusal (movement_checks m found ++ later_stamp_check last now ∷ []) ≡ None
  pub stamped : stamp_after last now ≡ Some stamp
  pub moves : AppliesMovement m found.next (balance_after_movement m found) stamp plan
