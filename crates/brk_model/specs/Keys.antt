-- The key of each table except DESK and SETTLE_RULE (at most one row each), and rows sorted by key.
use Rattle.std.specs.Prelude.{ℕ, Bool, true, false, ◌&&◌, ◌||◌, nat_lt, not, List, [], ◌∷◌}
use Rattle.brk_money.specs.Spelling.{Text}
use Rattle.brk_money.specs.Kinds.{trade_type_code, trade_status_code}
use Rattle.brk_model.specs.Lists.{insert_by, sort_by, is_text_less}
use Rattle.brk_model.specs.Records.{Customer, Permission, Charge, Band, TaxRate, CustomerTax, Kept}
use Rattle.brk_model.specs.Tables.{BrokerRow, AccountRow, SecurityRow, LastTradeRow, TradeRow, HistoryRow, RequestRow, HoldingRow, SummaryRow}
use Rattle.brk_model.specs.Tables.{HoldingHistoryRow, SettlementRow, OldCashRow, CashRow}

-- A part of a key: a number or a text.
pub data KeyPart : Type 0 where
  number : ℕ → KeyPart
  word : Text → KeyPart

-- True if the first part is less: numbers by value, texts by `is_text_less`, numbers before texts.
abbrev pub is_key_part_less : KeyPart → KeyPart → Bool
is_key_part_less (number m) (number n) = nat_lt m n
is_key_part_less (word s) (word t) = is_text_less s t
is_key_part_less (number m) (word t) = true
is_key_part_less (word s) (number n) = false

-- True if the first key is less, part by part; a key is less than a longer one that begins with it.
abbrev pub is_key_less : List KeyPart → List KeyPart → Bool
is_key_less js [] = false
is_key_less [] (k ∷ ks) = true
is_key_less (j ∷ js) (k ∷ ks) = is_key_part_less j k || (not (is_key_part_less k j) && is_key_less js ks)

-- True if the key of row `a` is less than the key of row `b`; `key` returns the key of a row.
abbrev pub is_row_key_less : {Row : Type 0} → (Row → List KeyPart) → Row → Row → Bool
is_row_key_less key a b = is_key_less (key a) (key b)

-- The rows sorted by the key that `key` returns for each, ascending; the sort is stable.
abbrev pub rows_sorted_by_key : {Row : Type 0} → (Row → List KeyPart) → List Row → List Row
rows_sorted_by_key key rows = sort_by (is_row_key_less key) rows

-- The list `rows` with `row` inserted before the first row whose key is not less, or at the end.
abbrev pub insert_row_by_key : {Row : Type 0} → (Row → List KeyPart) → Row → List Row → List Row
insert_row_by_key key row rows = insert_by (is_row_key_less key) row rows

-- ---- the keys

-- The primary key of a row of KEPT: the batch name and the row number.
abbrev pub kept_key : Kept → List KeyPart
kept_key r = word r.key.batch ∷ number r.key.n ∷ []

-- The primary key of a row of BROKER: the id.
abbrev pub broker_key : BrokerRow → List KeyPart
broker_key r = number r.id ∷ []

-- The primary key of a row of CUSTOMER: the id.
abbrev pub customer_key : Customer → List KeyPart
customer_key r = number r.id ∷ []

-- The primary key of a row of CUSTOMER_ACCOUNT: the id.
abbrev pub account_key : AccountRow → List KeyPart
account_key r = number r.id ∷ []

-- The primary key of a row of ACCOUNT_PERMISSION: the account and the tax id.
abbrev pub permission_key : Permission → List KeyPart
permission_key r = number r.account ∷ word r.tax_id ∷ []

-- The primary key of a row of SECURITY: the symbol.
abbrev pub security_key : SecurityRow → List KeyPart
security_key r = word r.symbol ∷ []

-- The primary key of a row of LAST_TRADE: the symbol.
abbrev pub last_trade_key : LastTradeRow → List KeyPart
last_trade_key r = word r.symbol ∷ []

-- The primary key of a row of CHARGE: the code of the trade type and the tier.
abbrev pub charge_key : Charge → List KeyPart
charge_key r = word (trade_type_code r.kind) ∷ number r.tier ∷ []

-- The primary key of a row of COMMISSION_RATE: tier, code of the trade type, exchange, lower bound.
abbrev pub band_key : Band → List KeyPart
band_key r = number r.tier ∷ word (trade_type_code r.kind) ∷ word r.exchange ∷ number r.from_qty ∷ []

-- The primary key of a row of TAXRATE: the id.
abbrev pub tax_rate_key : TaxRate → List KeyPart
tax_rate_key r = number r.id ∷ []

-- The primary key of a row of CUSTOMER_TAXRATE: the customer and the tax rate.
abbrev pub customer_tax_key : CustomerTax → List KeyPart
customer_tax_key r = number r.customer ∷ number r.tax ∷ []

-- The primary key of a row of TRADE: the id.
abbrev pub trade_key : TradeRow → List KeyPart
trade_key r = number r.id ∷ []

-- The primary key of a row of TRADE_HISTORY: the trade and the code of the status.
abbrev pub history_key : HistoryRow → List KeyPart
history_key r = number r.trade ∷ word (trade_status_code r.status) ∷ []

-- The primary key of a row of TRADE_REQUEST: the trade.
abbrev pub request_key : RequestRow → List KeyPart
request_key r = number r.trade ∷ []

-- The primary key of a row of HOLDING: the trade that opened the lot.
abbrev pub holding_key : HoldingRow → List KeyPart
holding_key r = number r.trade ∷ []

-- The primary key of a row of HOLDING_SUMMARY: the account and the symbol.
abbrev pub summary_key : SummaryRow → List KeyPart
summary_key r = number r.account ∷ word r.symbol ∷ []

-- The primary key of a row of HOLDING_HISTORY: the opening and the changing trade of the lot.
abbrev pub holding_history_key : HoldingHistoryRow → List KeyPart
holding_history_key r = number r.lot ∷ number r.trade ∷ []

-- The primary key of a row of SETTLEMENT: the trade.
abbrev pub settlement_key : SettlementRow → List KeyPart
settlement_key r = number r.trade ∷ []

-- The primary key of a row of CASH_TRANSACTION: the trade.
abbrev pub cash_transaction_key : OldCashRow → List KeyPart
cash_transaction_key r = number r.trade ∷ []

-- The primary key of a row of CASH_MOVE: the number.
abbrev pub cash_move_key : CashRow → List KeyPart
cash_move_key r = number r.id ∷ []
