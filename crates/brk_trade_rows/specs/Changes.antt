-- The effect of each row change on the tables, whose rows are sorted by key. A row that is inserted
-- replaces none: it stands before the first row whose key is not less than its own, or at the end.
-- An update or a deletion of a row that does not exist changes nothing.
use Rattle.std.specs.Prelude.{ℕ, ℤ, ◌==◌, ◌&&◌, not, filter, bytes_eq, pos, List, fold, Some, string_bytes}
use Rattle.brk_money.specs.Spelling.{Text}
use Rattle.brk_money.specs.declared.status.Status.{Status}
use Rattle.brk_money.specs.declared.status.Status.TheVariants.{Completed}
use Rattle.brk_model.specs.Lists.{update_where}
use Rattle.brk_model.specs.Records.{Broker, Customer, Account, Permission, Charge, Band, TaxRate, CustomerTax, Kept}
use Rattle.brk_model.specs.Tables.{Tables, SecurityRow, LastTradeRow, TradeRow, HistoryRow, RequestRow}
use Rattle.brk_model.specs.Tables.{HoldingRow, SummaryRow, HoldingHistoryRow, SettlementRow, CashRow}
use Rattle.brk_model.specs.Keys.{insert_row_by_key, broker_key, customer_key, account_key, permission_key, security_key}
use Rattle.brk_model.specs.Keys.{last_trade_key, charge_key, band_key, tax_rate_key, customer_tax_key, kept_key, trade_key}
use Rattle.brk_model.specs.Keys.{history_key, request_key, holding_key, summary_key, holding_history_key, settlement_key, cash_move_key}
use Rattle.brk_model.specs.LookupView.{is_cash_row_of_trade}
use Rattle.brk_ref.specs.Records.{abstract_broker, abstract_customer, abstract_account, abstract_permission, abstract_security_row}
use Rattle.brk_ref.specs.Records.{abstract_last_trade_row, abstract_charge, abstract_band, abstract_tax_rate, abstract_customer_tax}
use Rattle.brk_ref.specs.Records.{abstract_kept_row}
use Rattle.brk_ref.specs.Rows.{abstract_trade_row, abstract_history_row, abstract_request_row, abstract_holding_row}
use Rattle.brk_ref.specs.Rows.{abstract_summary_row, abstract_lot_change_row, cash_type_text, abstract_settlement_row}
use Rattle.brk_ref.specs.Rows.{abstract_cash_row}
use Rattle.brk_trade_rows.specs.declared.change.Change.{Change}
use Rattle.brk_trade_rows.specs.declared.change.Change.TheVariants.{AddBroker, AddCustomer, AddAccount, AddPermission, AddSecurity, AddLastTrade}
use Rattle.brk_trade_rows.specs.declared.change.Change.TheVariants.{AddCharge, AddBand, AddTaxRate, AddCustomerTax, AddTrade, SetStatus, AddHistory}
use Rattle.brk_trade_rows.specs.declared.change.Change.TheVariants.{AddRequest, RemoveRequest, SetLastTrade, CompleteTrade, AddLot, SetLot, RemoveLot}
use Rattle.brk_trade_rows.specs.declared.change.Change.TheVariants.{AddLotChange, AddSummary, SetSummary, RemoveSummary, AddSettlement, AddMove}
use Rattle.brk_trade_rows.specs.declared.change.Change.TheVariants.{SetBalance, SetBrokerTotals, SetExecutor, SetCashType, SetCashName, SetOneDaySettlementStart}
use Rattle.brk_trade_rows.specs.declared.change.Change.TheVariants.{AddStoredReply, SetLastStamp}

-- The tables `t` with the broker `b` inserted in key order, with 0 trades and commissions.
abbrev pub tables_with_broker : Broker → Tables → Tables
tables_with_broker b t = record t { brokers = insert_row_by_key broker_key (record { id = b.id; name = b.name; trades = pos 0; commissions = 0 }) t.brokers }

-- The tables `t` with the customer `c` inserted in key order.
abbrev pub tables_with_customer : Customer → Tables → Tables
tables_with_customer c t = record t { customers = insert_row_by_key customer_key c t.customers }

-- The tables `t` with the account `a` inserted in key order; its balance is its opening balance.
abbrev pub tables_with_account : Account → Tables → Tables
tables_with_account a t = record t {
  accounts = insert_row_by_key account_key
      (record { id = a.id; customer = a.customer; broker = a.broker; name = a.name; tax_status = a.tax_status; opening = a.opening; balance = a.opening })
      t.accounts;
}

-- The tables `t` with the permission `p` inserted in key order.
abbrev pub tables_with_permission : Permission → Tables → Tables
tables_with_permission p t = record t { permissions = insert_row_by_key permission_key p t.permissions }

-- The tables `t` with the security `s` inserted in key order.
abbrev pub tables_with_security : SecurityRow → Tables → Tables
tables_with_security s t = record t { securities = insert_row_by_key security_key s t.securities }

-- The tables `t` with the LAST_TRADE row `l` inserted in key order.
abbrev pub tables_with_last_trade : LastTradeRow → Tables → Tables
tables_with_last_trade l t = record t { last_trades = insert_row_by_key last_trade_key l t.last_trades }

-- The tables `t` with the charge `c` inserted in key order.
abbrev pub tables_with_charge : Charge → Tables → Tables
tables_with_charge c t = record t { charges = insert_row_by_key charge_key c t.charges }

-- The tables `t` with the commission band `b` inserted in key order.
abbrev pub tables_with_band : Band → Tables → Tables
tables_with_band b t = record t { bands = insert_row_by_key band_key b t.bands }

-- The tables `t` with the tax rate `r` inserted in key order.
abbrev pub tables_with_tax_rate : TaxRate → Tables → Tables
tables_with_tax_rate r t = record t { tax_rates = insert_row_by_key tax_rate_key r t.tax_rates }

-- The tables `t` with the tax `x` of a customer inserted in key order.
abbrev pub tables_with_customer_tax : CustomerTax → Tables → Tables
tables_with_customer_tax x t = record t { customer_taxes = insert_row_by_key customer_tax_key x t.customer_taxes }

-- The tables `t` with the TRADE row `r` inserted in key order.
abbrev pub tables_with_trade : TradeRow → Tables → Tables
tables_with_trade r t = record t { trades = insert_row_by_key trade_key r t.trades }

-- The tables `t` with the status and the stamp of the trade `id` set to `status` and `stamp`.
abbrev pub tables_with_trade_status : ℕ → Status → ℕ → Tables → Tables
tables_with_trade_status id status stamp t = record t { trades = update_where (λ r. r.id == id) (λ r. record r { status = status; stamp = stamp }) t.trades }

-- The tables `t` with the TRADE_HISTORY row `r` inserted in key order.
abbrev pub tables_with_history_row : HistoryRow → Tables → Tables
tables_with_history_row r t = record t { history = insert_row_by_key history_key r t.history }

-- The tables `t` with the TRADE_REQUEST row `r` inserted in key order.
abbrev pub tables_with_request : RequestRow → Tables → Tables
tables_with_request r t = record t { requests = insert_row_by_key request_key r t.requests }

-- The tables `t` without the TRADE_REQUEST row of `trade`.
abbrev pub tables_without_request : ℕ → Tables → Tables
tables_without_request trade t = record t { requests = filter (λ r. not (r.trade == trade)) t.requests }

-- The tables `t` with stamp, price and volume in the LAST_TRADE row of the symbol set as in `l`.
abbrev pub tables_with_last_trade_replaced : LastTradeRow → Tables → Tables
tables_with_last_trade_replaced l t =
    record t
    { last_trades = update_where (λ r. bytes_eq r.symbol l.symbol) (λ r. record r { stamp = l.stamp; price = l.price; volume = l.volume }) t.last_trades }

-- The tables `t` with the trade `id` set to `Completed`, and to its stamp, price, commission and
-- tax, the last three in cents.
abbrev pub tables_with_trade_completed : (id stamp price commission tax : ℕ) → Tables → Tables
tables_with_trade_completed id stamp price commission tax t = record t {
  trades = update_where (λ r. r.id == id)
      (λ r. record r { status = Completed; stamp = stamp; price = Some price; commission = commission; tax = tax }) t.trades;
}

-- The tables `t` with the HOLDING row `r` inserted in key order.
abbrev pub tables_with_lot : HoldingRow → Tables → Tables
tables_with_lot r t = record t { holdings = insert_row_by_key holding_key r t.holdings }

-- The tables `t` with the quantity of the lot of `trade` set to `qty` shares (below 0 if short).
abbrev pub tables_with_lot_quantity : ℕ → ℤ → Tables → Tables
tables_with_lot_quantity trade qty t = record t { holdings = update_where (λ r. r.trade == trade) (λ r. record r { qty = qty }) t.holdings }

-- The tables `t` without the HOLDING row of the lot that `trade` opened.
abbrev pub tables_without_lot : ℕ → Tables → Tables
tables_without_lot trade t = record t { holdings = filter (λ r. not (r.trade == trade)) t.holdings }

-- The tables `t` with the HOLDING_HISTORY row `r` inserted in key order.
abbrev pub tables_with_lot_change : HoldingHistoryRow → Tables → Tables
tables_with_lot_change r t = record t { holding_history = insert_row_by_key holding_history_key r t.holding_history }

-- The tables `t` with the HOLDING_SUMMARY row `r` inserted in key order.
abbrev pub tables_with_summary : SummaryRow → Tables → Tables
tables_with_summary r t = record t { summaries = insert_row_by_key summary_key r t.summaries }

-- The tables `t` with the quantity in the HOLDING_SUMMARY row of the position of `s` set as in `s`.
abbrev pub tables_with_summary_quantity : SummaryRow → Tables → Tables
tables_with_summary_quantity s t =
    record t { summaries = update_where (λ r. (r.account == s.account) && bytes_eq r.symbol s.symbol) (λ r. record r { qty = s.qty }) t.summaries }

-- The tables `t` without the HOLDING_SUMMARY row of `account` and `symbol`.
abbrev pub tables_without_summary : ℕ → Text → Tables → Tables
tables_without_summary account symbol t = record t { summaries = filter (λ r. not ((r.account == account) && bytes_eq r.symbol symbol)) t.summaries }

-- The tables `t` with the SETTLEMENT row `r` inserted in key order.
abbrev pub tables_with_settlement : SettlementRow → Tables → Tables
tables_with_settlement r t = record t { settlements = insert_row_by_key settlement_key r t.settlements }

-- The tables `t` with the CASH_MOVE row `r` inserted in key order.
abbrev pub tables_with_cash_row : CashRow → Tables → Tables
tables_with_cash_row r t = record t { moves = insert_row_by_key cash_move_key r t.moves }

-- The tables `t` with the balance of `account` set to `balance` cents.
abbrev pub tables_with_balance : ℕ → ℤ → Tables → Tables
tables_with_balance account balance t = record t { accounts = update_where (λ r. r.id == account) (λ r. record r { balance = balance }) t.accounts }

-- The tables `t` with the broker's number of completed trades and commissions, in cents, set.
abbrev pub tables_with_broker_totals : ℕ → ℤ → ℕ → Tables → Tables
tables_with_broker_totals broker trades commissions t =
    record t { brokers = update_where (λ r. r.id == broker) (λ r. record r { trades = trades; commissions = commissions }) t.brokers }

-- The tables `t` with the executor's name in the TRADE row of `trade` set to `name`.
abbrev pub tables_with_executor_name : ℕ → Text → Tables → Tables
tables_with_executor_name trade name t = record t { trades = update_where (λ r. r.id == trade) (λ r. record r { executor = name }) t.trades }

-- The tables `t` with the settlement text of `trade` (SE_CASH_TYPE) set to `word`.
abbrev pub tables_with_cash_type : ℕ → Text → Tables → Tables
tables_with_cash_type trade word t = record t { settlements = update_where (λ r. r.trade == trade) (λ r. record r { cash_type = word }) t.settlements }

-- The tables `t` with the text in the CASH_MOVE row of `trade` set to `name`.
abbrev pub tables_with_cash_text : ℕ → Text → Tables → Tables
tables_with_cash_text trade name t = record t { moves = update_where (is_cash_row_of_trade trade) (λ r. record r { name = name }) t.moves }

-- The tables `t` with the first day of one-day settlement set to `day`, in days since 1970-01-01.
abbrev pub tables_with_one_day_settlement_start : ℕ → Tables → Tables
tables_with_one_day_settlement_start day t = record t { rule = Some day }

-- The tables `t` with the KEPT row `k` (stored request and stored reply) inserted in key order.
abbrev pub tables_with_stored_reply : Kept → Tables → Tables
tables_with_stored_reply k t = record t { kept = insert_row_by_key kept_key k t.kept }

-- The tables `t` with the last stamp set to `stamp`, in milliseconds since 1970-01-01 UTC.
abbrev pub tables_with_last_stamp : ℕ → Tables → Tables
tables_with_last_stamp stamp t = record t { last = Some stamp }

-- The function that returns the tables after a typed row change, which inserts, updates or deletes
-- a row, or sets the first day of one-day settlement or the last stamp.
abbrev pub tables_after_change : Change → Tables → Tables
tables_after_change (AddBroker broker) = tables_with_broker (abstract_broker broker)
tables_after_change (AddCustomer customer) = tables_with_customer (abstract_customer customer)
tables_after_change (AddAccount account) = tables_with_account (abstract_account account)
tables_after_change (AddPermission permission) = tables_with_permission (abstract_permission permission)
tables_after_change (AddSecurity security) = tables_with_security (abstract_security_row security)
tables_after_change (AddLastTrade row) = tables_with_last_trade (abstract_last_trade_row row)
tables_after_change (AddCharge charge) = tables_with_charge (abstract_charge charge)
tables_after_change (AddBand band) = tables_with_band (abstract_band band)
tables_after_change (AddTaxRate tax) = tables_with_tax_rate (abstract_tax_rate tax)
tables_after_change (AddCustomerTax pays) = tables_with_customer_tax (abstract_customer_tax pays)
tables_after_change (AddTrade row) = tables_with_trade (abstract_trade_row row)
tables_after_change (SetStatus trade status stamp) = tables_with_trade_status trade status stamp
tables_after_change (AddHistory row) = tables_with_history_row (abstract_history_row row)
tables_after_change (AddRequest row) = tables_with_request (abstract_request_row row)
tables_after_change (RemoveRequest trade) = tables_without_request trade
tables_after_change (SetLastTrade row) = tables_with_last_trade_replaced (abstract_last_trade_row row)
tables_after_change (CompleteTrade trade stamp price commission tax) = tables_with_trade_completed trade stamp price commission tax
tables_after_change (AddLot row) = tables_with_lot (abstract_holding_row row)
tables_after_change (SetLot trade qty) = tables_with_lot_quantity trade qty
tables_after_change (RemoveLot trade) = tables_without_lot trade
tables_after_change (AddLotChange row) = tables_with_lot_change (abstract_lot_change_row row)
tables_after_change (AddSummary row) = tables_with_summary (abstract_summary_row row)
tables_after_change (SetSummary row) = tables_with_summary_quantity (abstract_summary_row row)
tables_after_change (RemoveSummary account symbol) = tables_without_summary account symbol
tables_after_change (AddSettlement row) = tables_with_settlement (abstract_settlement_row row)
tables_after_change (AddMove row) = tables_with_cash_row (abstract_cash_row row)
tables_after_change (SetBalance account balance) = tables_with_balance account balance
tables_after_change (SetBrokerTotals broker trades commissions) = tables_with_broker_totals broker trades commissions
tables_after_change (SetExecutor trade executor) = tables_with_executor_name trade (string_bytes executor)
tables_after_change (SetCashType trade cash_type) = tables_with_cash_type trade (cash_type_text cash_type)
tables_after_change (SetCashName trade name) = tables_with_cash_text trade (string_bytes name)
tables_after_change (SetOneDaySettlementStart day) = tables_with_one_day_settlement_start day
tables_after_change (AddStoredReply kept) = tables_with_stored_reply (abstract_kept_row kept)
tables_after_change (SetLastStamp stamp) = tables_with_last_stamp stamp

-- The tables `t` after the row changes `changes`, applied in sequence.
abbrev pub tables_after_changes : List Change → Tables → Tables
tables_after_changes changes t = fold (λ t change. tables_after_change change t) t changes
