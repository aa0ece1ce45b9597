-- Sums over the completed trades and the movements of the tables.
use Rattle.std.specs.Prelude.{ℕ, Option, Some, None, if◌then◌else◌, is_none, ℤ}
use Rattle.brk_money.specs.declared.tax_status.TaxStatus.{TaxStatus}
use Rattle.brk_model.specs.Tables.{CashRow, TradeRow}
use Rattle.brk_audit_sums.specs.Completed.{is_completed_trade_row}
use Rattle.brk_audit_sums.specs.Settling.{settlement_amount_at_tax_status, is_completed_cash_trade}
use Rattle.brk_audit_sums.specs.declared.tally.KeyedAmount.{KeyedAmount}

-- The amount at the broker (`brokers`) of the trade's account; `None` if it is not completed.
abbrev pub broker_posting_of_trade_row : (ℕ → ℕ) → TradeRow → ℤ → Option (KeyedAmount ℕ)
broker_posting_of_trade_row brokers r amount = if is_completed_trade_row r then Some (record { key = brokers r.account; amount = amount }) else None

-- The trade's settlement amount, in cents, as a posting at its account, where `statuses` returns
-- the tax status of an account, or `None` if the trade is not a completed cash trade.
abbrev pub cash_posting_of_trade_row : (ℕ → TaxStatus) → TradeRow → Option (KeyedAmount ℕ)
cash_posting_of_trade_row statuses r =
    if is_completed_cash_trade r then Some (record { key = r.account; amount = settlement_amount_at_tax_status (statuses r.account) r }) else None

-- The amount of a row of CASH_MOVE, in cents, at its account, or `None` if it belongs to a trade.
abbrev pub movement_posting_of_row : CashRow → Option (KeyedAmount ℕ)
movement_posting_of_row r = if is_none r.trade then Some (record { key = r.account; amount = r.amount }) else None
