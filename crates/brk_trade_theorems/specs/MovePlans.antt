-- The preconditions of planning a movement or the first day of one-day settlement.
use Rattle.std.specs.Prelude.{◌≡◌, ◌≤◌, ◌+◌, ℕ, is_none, nat_le, length, filter, Option, option_map}
use Rattle.brk_money.specs.Moments.{greatest_stamp}
use Rattle.brk_model.specs.Base.{Base}
use Rattle.brk_model.specs.Joins.{account_row_with_id}
use Rattle.brk_model.specs.Limits.{greatest_id}
use Rattle.brk_model.specs.Sheets.{sheets}
use Rattle.brk_model.specs.Tables.{Tables}
use Rattle.brk_ref_orders.specs.declared.movement.Movement.{Movement}
use Rattle.brk_trade_plans.specs.declared.movement.MovementPlanFacts.{MovementPlanFacts}
use Rattle.brk_trade_books.specs.Books.{BooksInvariant}
use Rattle.brk_trade_books.specs.TradeReads.{last_cash_row_number_or_zero}

-- ---- a movement

-- The facts `found` about the movement `m` are true of the tables: its account's balance in cents
-- (`None` without the account), whether movements are at their limit, the next cash row's number.
pub record MovementFactsMatchTables (t : Tables) (m : Movement) (found : MovementPlanFacts) : Type 0 where
  pub balance : found.balance ≡ option_map (λ r. r.balance) (account_row_with_id t m.account)
  -- True if and only if there are at least `greatest_id` movements (cash rows without a trade).
  pub counted : found.has_all_movements ≡ nat_le greatest_id (length (filter (λ r. is_none r.trade) t.moves))
  -- The next number follows that of the last cash row.
  pub next : found.next ≡ last_cash_row_number_or_zero t + 1

-- The precondition of planning the movement `m`: the base satisfies the books invariant, `found`
-- and the last stamp are read from its tables, and `now` is within the range of stamps.
pub record PlanMovementPrecondition (base : Base) (m : Movement) (found : MovementPlanFacts) (last : Option ℕ) (now : ℕ) : Type 0 where
  pub books : BooksInvariant base
  pub looked_up : MovementFactsMatchTables (sheets base) m found
  pub last_read : last ≡ (sheets base).last
  pub moment : now ≤ greatest_stamp

-- ---- one-day settlement

-- The precondition of planning the first day of one-day settlement: the base satisfies the books
-- invariant, the current day `rule`, in days since 1970-01-01 (`None` if not set), and the last
-- stamp are read from its tables, and `now` is within the range of stamps.
pub record PlanOneDaySettlementPrecondition (base : Base) (rule : Option ℕ) (last : Option ℕ) (now : ℕ) : Type 0 where
  pub books : BooksInvariant base
  pub rule_read : rule ≡ (sheets base).rule
  pub last_read : last ≡ (sheets base).last
  pub moment : now ≤ greatest_stamp
