-- The effect of a movement on the tables.
use Rattle.std.specs.Prelude.{◌+◌, length, ℤ}
use Rattle.brk_model.specs.Records.{Movement}
use Rattle.brk_model.specs.Base.{Base}
use Rattle.brk_model.specs.Derived.{balance_of_account, posting_of_movement, postings_of_base}
use Rattle.brk_model.specs.Movements.{base_after_movement}
use Rattle.brk_model.specs.Tables.{CashRow, Tables, cash_move_row}
use Rattle.brk_trade_rows.specs.Changes.{tables_with_balance, tables_with_cash_row}

-- The tables `t` with the cash row `row` inserted in key order, and the balance of its account, if
-- there is such an account, set to `balance`, in cents.
abbrev pub tables_with_cash_row_and_balance : CashRow → (balance : ℤ) → Tables → Tables
tables_with_cash_row_and_balance row balance t = tables_with_balance row.account balance (tables_with_cash_row row t)

-- The row of CASH_MOVE of the movement `m`, numbered by the postings of the base plus 1.
abbrev pub numbered_cash_row_of_movement : Base → Movement → CashRow
numbered_cash_row_of_movement base m = cash_move_row (length (postings_of_base base) + 1) (posting_of_movement m)

-- The balance of the account of the movement `m`, in cents, in the base after this movement.
abbrev pub account_balance_after_movement : Base → Movement → ℤ
account_balance_after_movement base m = balance_of_account base.accounts (postings_of_base (base_after_movement base m)) m.account

-- The tables `t` with the cash row of the movement `m` inserted in key order and the balance of its
-- account, if it exists, set, both computed from `base`, the base before the movement.
abbrev pub tables_after_movement : Base → Movement → Tables → Tables
tables_after_movement base m t = tables_with_cash_row_and_balance (numbered_cash_row_of_movement base m) (account_balance_after_movement base m) t
