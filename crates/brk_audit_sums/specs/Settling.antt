-- The requests, settlements and cash rows that follow from the rows of trades and accounts.
use Rattle.std.specs.Prelude.{◌≡◌, ◌↔◌, ℕ, ◌+◌, ◌*◌, ◌==◌, nat_le, Bool, true, ◌&&◌, if◌then◌else◌, List}
use Rattle.std.specs.Prelude.{[], ◌∷◌, map, filter, Option, option_map, unwrap_or, ℤ, pos, ◌-ℤ◌}
use Rattle.brk_money.specs.Kinds.{side_of_trade_type}
use Rattle.brk_money.specs.declared.tax_status.TaxStatus.{TaxStatus}
use Rattle.brk_model.specs.Base.{is_withholding_status}
use Rattle.brk_model.specs.Derived.{due_day_of_completion_stamp, signed_proceeds}
use Rattle.brk_model.specs.Records.{SettleRule}
use Rattle.brk_model.specs.Tables.{OldCashRow, CashRow, RequestRow, SettlementRow, TradeRow}
use Rattle.brk_audit_sums.specs.Completed.{is_completed_trade_row}

-- The row of TRADE_REQUEST of the pending trade `r`; `brokers` returns the broker of an account.
abbrev pub request_row_of_trade : (ℕ → ℕ) → TradeRow → RequestRow
request_row_of_trade brokers r = record { trade = r.id; kind = r.kind; symbol = r.symbol; qty = r.qty; bid = r.bid; broker = brokers r.account }

-- The settlement amount of the trade `r`, in cents, below 0 if the account pays: quantity times
-- price (0 if none), negated for a purchase, minus charge, commission and, if `Withheld`, tax.
abbrev pub settlement_amount_at_tax_status : TaxStatus → TradeRow → ℤ
settlement_amount_at_tax_status status r =
    signed_proceeds (side_of_trade_type r.kind) (r.qty * unwrap_or r.price 0) -ℤ pos (r.charge + r.commission
    + (if is_withholding_status status then r.tax else 0))

-- The trade, the due day, in days since 1970-01-01, and the amount, in cents, of a settlement.
pub record SettlementFigures : Type 0 where
  pub trade : ℕ
  pub due_day : ℕ
  pub amount : ℤ

-- The trade, the due day and the amount in the row of SETTLEMENT.
abbrev pub settlement_figures_of_row : SettlementRow → SettlementFigures
settlement_figures_of_row s = record { trade = s.trade; due_day = s.due_day; amount = s.amount }

-- The trade, the due day and the amount of the settlement of the completed trade `r`. `rule` is the
-- first day of one-day settlement, if set; `statuses` returns the tax status of an account.
abbrev pub settlement_figures_of_trade : SettleRule → (ℕ → TaxStatus) → TradeRow → SettlementFigures
settlement_figures_of_trade rule statuses r =
    record { trade = r.id; due_day = due_day_of_completion_stamp rule r.stamp; amount = settlement_amount_at_tax_status (statuses r.account) r }

-- The trade, the stamp and the amount, in cents, of a row of CASH_TRANSACTION.
pub record CashTransactionFigures : Type 0 where
  pub trade : ℕ
  pub stamp : ℕ
  pub amount : ℤ

-- The trade, the stamp and the amount in the row of CASH_TRANSACTION.
abbrev pub cash_transaction_figures_of_row : OldCashRow → CashTransactionFigures
cash_transaction_figures_of_row c = record { trade = c.trade; stamp = c.stamp; amount = c.amount }

-- The trade, the stamp and the amount of the row of CASH_TRANSACTION of the completed cash trade
-- `r`, where `statuses` returns the tax status of an account.
abbrev pub cash_transaction_figures_of_trade : (ℕ → TaxStatus) → TradeRow → CashTransactionFigures
cash_transaction_figures_of_trade statuses r = record { trade = r.id; stamp = r.stamp; amount = settlement_amount_at_tax_status (statuses r.account) r }

-- The account, trade, stamp and amount, in cents, of a row of CASH_MOVE that belongs to a trade.
pub record CashRowFigures : Type 0 where
  pub account : ℕ
  pub trade : ℕ
  pub stamp : ℕ
  pub amount : ℤ

-- The account, trade, stamp and amount of the row of CASH_MOVE, or `None` if it has no trade.
abbrev pub posted_figures_of_row : CashRow → Option CashRowFigures
posted_figures_of_row r = option_map (λ id. record { account = r.account; trade = id; stamp = r.stamp; amount = r.amount }) r.trade

-- The account, the trade, the stamp and the amount of the row of CASH_MOVE of the completed cash
-- trade `r`, where `statuses` returns the tax status of an account.
abbrev pub posted_figures_of_trade : (ℕ → TaxStatus) → TradeRow → CashRowFigures
posted_figures_of_trade statuses r =
    record { account = r.account; trade = r.id; stamp = r.stamp; amount = settlement_amount_at_tax_status (statuses r.account) r }

-- True if the rows of CASH_MOVE, in the sequence of the list, are numbered `n`, `n` + 1 and so on,
-- and their stamps are at least `stamp` and do not decrease. True for the empty list.
abbrev pub is_numbered_by_stamp : ℕ → ℕ → List CashRow → Bool
is_numbered_by_stamp n stamp [] = true
is_numbered_by_stamp n stamp (r ∷ rs) = (r.id == n) && (nat_le stamp r.stamp && is_numbered_by_stamp (n + 1) r.stamp rs)

-- True if the trade is completed and is a cash trade.
abbrev pub is_completed_cash_trade : TradeRow → Bool
is_completed_cash_trade r = is_completed_trade_row r && r.is_cash

-- For any list of later trades, the rows `rows` match `trade` and the later trades if and only if
-- the rows `others` match the later trades. Rows match trades if the values of `tells` for the rows
-- equal, in order, the values of `gives` for the trades that pass `test`.
abbrev pub RowsMatchTradesIffOthersDo : {Row Told : Type 0} → (Row → Told) → (TradeRow → Told) → (TradeRow → Bool) → List Row → TradeRow → List Row → Type 0
RowsMatchTradesIffOthersDo tells gives test rows trade others =
    (trades : List TradeRow) → (map tells rows ≡ map gives (filter test (trade ∷ trades))) ↔ (map tells others ≡ map gives (filter test trades))

-- For any list of later trades, `rows` do not match `trade` and the later trades; matching is as in
-- `RowsMatchTradesIffOthersDo`.
abbrev pub RowsCannotMatchTrades : {Row Told : Type 0} → (Row → Told) → (TradeRow → Told) → (TradeRow → Bool) → List Row → TradeRow → Type 0
RowsCannotMatchTrades tells gives test rows trade = (trades : List TradeRow) → map tells rows ≡ map gives (filter test (trade ∷ trades)) → ⊥
