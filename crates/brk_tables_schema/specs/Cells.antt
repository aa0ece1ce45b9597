-- Written by tools/generate/tables.py: the SQL values of the rows of each table.
use Rattle.std.specs.Prelude.{ℕ, pos, Bool, if◌then◌else◌, [], ◌∷◌, Option}
use Rattle.sqlite_value.specs.declared.value.Value.{Value}
use Rattle.sqlite_value.specs.declared.value.Value.TheVariants.{Int, Text as Words}
use Rattle.sqlite_value.specs.Order.{Row}
use Rattle.sqlite.specs.Values.{or_null}
use Rattle.brk_money.specs.Kinds.{trade_type_code, trade_status_code, tax_status_number}
use Rattle.brk_model.specs.Records.{Customer, Permission, Charge, Band, TaxRate, CustomerTax, Kept}
use Rattle.brk_model.specs.Tables.{BrokerRow, AccountRow, SecurityRow, LastTradeRow, TradeRow, HistoryRow, RequestRow, HoldingRow, SummaryRow}
use Rattle.brk_model.specs.Tables.{HoldingHistoryRow, SettlementRow, OldCashRow, CashRow}

-- A row of DESK: its id (D_ID), the number of the schema (D_SCHEMA), and the stamp of the last
-- accepted command in milliseconds since 1970-01-01 UTC, or `None` if there is none (D_LAST).
pub record DeskRow : Type 0 where
  pub id : ℕ
  pub schema : ℕ
  pub last : Option ℕ

-- A row of SETTLE_RULE: its id (SR_ID), and the first day of one-day settlement, in days since
-- 1970-01-01 (SR_DAY).
pub record RuleRow : Type 0 where
  pub id : ℕ
  pub day : ℕ

-- The SQL value of a natural number, an INTEGER.
abbrev pub natural_as_value : ℕ → Value
natural_as_value n = Int (pos n)

-- The SQL value of an optional natural number: an INTEGER, or NULL for `None`.
abbrev pub optional_natural_as_value : Option ℕ → Value
optional_natural_as_value = or_null (λ n. Int (pos n))

-- The SQL value of a Boolean: the INTEGER 1 for true, 0 for false.
abbrev pub flag_as_value : Bool → Value
flag_as_value b = Int (pos (if b then 1 else 0))

-- The SQL values of a row of DESK, in the order of its columns.
abbrev pub desk_row_cells : DeskRow → Row
desk_row_cells r = natural_as_value r.id ∷ natural_as_value r.schema ∷ optional_natural_as_value r.last ∷ []

-- The SQL values of a row of KEPT, in the order of its columns.
abbrev pub kept_cells : Kept → Row
kept_cells r = Words r.key.batch ∷ natural_as_value r.key.n ∷ Words r.row_text ∷ Words r.line ∷ []

-- The SQL values of a row of BROKER, in the order of its columns.
abbrev pub broker_cells : BrokerRow → Row
broker_cells r = natural_as_value r.id ∷ Words r.name ∷ Int r.trades ∷ natural_as_value r.commissions ∷ []

-- The SQL values of a row of CUSTOMER, in the order of its columns.
abbrev pub customer_cells : Customer → Row
customer_cells r = natural_as_value r.id ∷ natural_as_value r.tier ∷ Words r.tax_id ∷ Words r.last_name ∷ Words r.first_name ∷ []

-- The SQL values of a row of CUSTOMER_ACCOUNT, in the order of its columns.
abbrev pub account_cells : AccountRow → Row
account_cells r =
    natural_as_value r.id ∷ natural_as_value r.customer ∷ natural_as_value r.broker ∷ Words r.name ∷ natural_as_value (tax_status_number r.tax_status)
    ∷ Int r.opening ∷ Int r.balance ∷ []

-- The SQL values of a row of ACCOUNT_PERMISSION, in the order of its columns.
abbrev pub permission_cells : Permission → Row
permission_cells r = natural_as_value r.account ∷ Words r.tax_id ∷ Words r.acl ∷ Words r.last_name ∷ Words r.first_name ∷ []

-- The SQL values of a row of SECURITY, in the order of its columns.
abbrev pub security_cells : SecurityRow → Row
security_cells r = Words r.symbol ∷ Words r.name ∷ Words r.exchange ∷ Words r.sector ∷ []

-- The SQL values of a row of LAST_TRADE, in the order of its columns.
abbrev pub last_trade_cells : LastTradeRow → Row
last_trade_cells r = Words r.symbol ∷ natural_as_value r.stamp ∷ natural_as_value r.price ∷ natural_as_value r.volume ∷ []

-- The SQL values of a row of CHARGE, in the order of its columns.
abbrev pub charge_cells : Charge → Row
charge_cells r = Words (trade_type_code r.kind) ∷ natural_as_value r.tier ∷ natural_as_value r.amount ∷ []

-- The SQL values of a row of COMMISSION_RATE, in the order of its columns.
abbrev pub band_cells : Band → Row
band_cells r =
    natural_as_value r.tier ∷ Words (trade_type_code r.kind) ∷ Words r.exchange ∷ natural_as_value r.from_qty ∷ natural_as_value r.to_qty
    ∷ natural_as_value r.rate ∷ []

-- The SQL values of a row of TAXRATE, in the order of its columns.
abbrev pub tax_rate_cells : TaxRate → Row
tax_rate_cells r = natural_as_value r.id ∷ Words r.name ∷ natural_as_value r.rate ∷ []

-- The SQL values of a row of CUSTOMER_TAXRATE, in the order of its columns.
abbrev pub customer_tax_cells : CustomerTax → Row
customer_tax_cells r = natural_as_value r.customer ∷ natural_as_value r.tax ∷ []

-- The SQL values of a row of TRADE, in the order of its columns.
abbrev pub trade_cells : TradeRow → Row
trade_cells r =
    natural_as_value r.id ∷ natural_as_value r.stamp ∷ Words (trade_status_code r.status) ∷ Words (trade_type_code r.kind) ∷ flag_as_value r.is_cash
    ∷ Words r.symbol ∷ natural_as_value r.qty ∷ natural_as_value r.bid ∷ natural_as_value r.account ∷ Words r.executor
    ∷ optional_natural_as_value r.price ∷ natural_as_value r.charge ∷ natural_as_value r.commission ∷ natural_as_value r.tax ∷ flag_as_value r.is_lifo
    ∷ []

-- The SQL values of a row of TRADE_HISTORY, in the order of its columns.
abbrev pub history_cells : HistoryRow → Row
history_cells r = natural_as_value r.trade ∷ Words (trade_status_code r.status) ∷ natural_as_value r.stamp ∷ []

-- The SQL values of a row of TRADE_REQUEST, in the order of its columns.
abbrev pub request_cells : RequestRow → Row
request_cells r =
    natural_as_value r.trade ∷ Words (trade_type_code r.kind) ∷ Words r.symbol ∷ natural_as_value r.qty ∷ natural_as_value r.bid
    ∷ natural_as_value r.broker ∷ []

-- The SQL values of a row of HOLDING, in the order of its columns.
abbrev pub holding_cells : HoldingRow → Row
holding_cells r =
    natural_as_value r.trade ∷ natural_as_value r.account ∷ Words r.symbol ∷ natural_as_value r.stamp ∷ natural_as_value r.price ∷ Int r.qty ∷ []

-- The SQL values of a row of HOLDING_SUMMARY, in the order of its columns.
abbrev pub summary_cells : SummaryRow → Row
summary_cells r = natural_as_value r.account ∷ Words r.symbol ∷ Int r.qty ∷ []

-- The SQL values of a row of HOLDING_HISTORY, in the order of its columns.
abbrev pub holding_history_cells : HoldingHistoryRow → Row
holding_history_cells r = natural_as_value r.lot ∷ natural_as_value r.trade ∷ Int r.before ∷ Int r.after ∷ []

-- The SQL values of a row of SETTLEMENT, in the order of its columns.
abbrev pub settlement_cells : SettlementRow → Row
settlement_cells r = natural_as_value r.trade ∷ Words r.cash_type ∷ natural_as_value r.due_day ∷ Int r.amount ∷ []

-- The SQL values of a row of CASH_TRANSACTION, in the order of its columns.
abbrev pub cash_cells : OldCashRow → Row
cash_cells r = natural_as_value r.trade ∷ natural_as_value r.stamp ∷ Int r.amount ∷ Words r.name ∷ []

-- The SQL values of a row of CASH_MOVE, in the order of its columns.
abbrev pub move_cells : CashRow → Row
move_cells r =
    natural_as_value r.id ∷ natural_as_value r.account ∷ optional_natural_as_value r.trade ∷ natural_as_value r.stamp ∷ Int r.amount ∷ Words r.name
    ∷ []

-- The SQL values of a row of SETTLE_RULE, in the order of its columns.
abbrev pub rule_cells : RuleRow → Row
rule_cells r = natural_as_value r.id ∷ natural_as_value r.day ∷ []
