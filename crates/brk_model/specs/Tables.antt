-- The rows of the tables, and the tables of a base.
use Rattle.std.specs.Prelude.{ℕ, ◌+◌, Bool, not, if◌then◌else◌, List, [], ◌∷◌, map, filter, flat_map, Option, None, ℤ, pos}
use Rattle.std.specs.Option.{option_map_or}
use Rattle.brk_money.specs.Spelling.{Text}
use Rattle.brk_money.specs.declared.trade_type.TradeType.{TradeType}
use Rattle.brk_money.specs.declared.status.Status.{Status}
use Rattle.brk_money.specs.declared.tax_status.TaxStatus.{TaxStatus}
use Rattle.brk_money.specs.declared.status.Status.TheVariants.{Canceled}
use Rattle.brk_model.specs.Lists.{is_zero}
use Rattle.brk_model.specs.Records.{Broker, Customer, Account, Permission, Security, Charge, Band, TaxRate, CustomerTax, Trade, SettleRule, Kept}
use Rattle.brk_model.specs.Base.{Base, last_status_change, last_status_stamp_of_trade, broker_id_in_accounts, completed_trades, completion_price}
use Rattle.brk_model.specs.Shares.{Share, Deal, Touch, changes_lot_quantity, lot_quantity, shares_after_deal, touch_of_lot}
use Rattle.brk_model.specs.Schemas.{Schema, third_schema}
use Rattle.brk_model.specs.Derived.{Posting, deals_of_position, shares_of_position, holding_summary_quantity, settlement_amount, due_day, cash_trades, postings}
use Rattle.brk_model.specs.Derived.{postings_sorted_by_stamp, balance_of_account, trade_count_of_broker, commission_total_of_broker, pending_trades}

-- A row of BROKER: id (B_ID), name (B_NAME), number of completed trades of the broker's accounts
-- (B_NUM_TRADES), and the sum of the commissions of these trades, in cents (B_COMM_TOTAL).
pub record BrokerRow : Type 0 where
  pub id : ℕ
  pub name : Text
  pub trades : ℤ
  pub commissions : ℕ

-- A row of CUSTOMER_ACCOUNT: id (CA_ID), customer (CA_C_ID), broker (CA_B_ID), name (CA_NAME), tax
-- status (CA_TAX_ST), opening balance (CA_OPEN) and balance (CA_BAL), both in cents.
pub record AccountRow : Type 0 where
  pub id : ℕ
  pub customer : ℕ
  pub broker : ℕ
  pub name : Text
  pub tax_status : TaxStatus
  pub opening : ℤ
  pub balance : ℤ

-- A row of SECURITY: symbol (S_SYMB), name (S_NAME), exchange (S_EX_ID) and sector (S_SECTOR).
pub record SecurityRow : Type 0 where
  pub symbol : Text
  pub name : Text
  pub exchange : Text
  pub sector : Text

-- A row of LAST_TRADE: symbol (LT_S_SYMB), stamp of the last tick, or of the listing before the
-- first tick (LT_DTS), last price in cents (LT_PRICE), and volume in shares (LT_VOL).
pub record LastTradeRow : Type 0 where
  pub symbol : Text
  pub stamp : ℕ
  pub price : ℕ
  pub volume : ℕ

-- A row of TRADE: T_ID, T_DTS, T_ST_ID, T_TT_ID, T_IS_CASH, T_S_SYMB, T_QTY, T_BID_PRICE, T_CA_ID,
-- T_EXEC_NAME, T_TRADE_PRICE, T_CHRG, T_COMM, T_TAX and T_LIFO, in field order. `status` and
-- `stamp` are of the last status change; amounts are in cents; there is no price before completion.
-- The trade closes the last shares of its position first if `is_lifo`, otherwise the first.
pub record TradeRow : Type 0 where
  pub id : ℕ
  pub stamp : ℕ
  pub status : Status
  pub kind : TradeType
  pub is_cash : Bool
  pub symbol : Text
  pub qty : ℕ
  pub bid : ℕ
  pub account : ℕ
  pub executor : Text
  pub price : Option ℕ
  pub charge : ℕ
  pub commission : ℕ
  pub tax : ℕ
  pub is_lifo : Bool

-- A row of TRADE_HISTORY: trade (TH_T_ID), new status (TH_ST_ID) and stamp (TH_DTS).
pub record HistoryRow : Type 0 where
  pub trade : ℕ
  pub status : Status
  pub stamp : ℕ

-- A row of TRADE_REQUEST, a pending trade: its id (TR_T_ID), type (TR_TT_ID), symbol (TR_S_SYMB),
-- quantity in shares (TR_QTY), requested price in cents (TR_BID_PRICE), and broker (TR_B_ID).
pub record RequestRow : Type 0 where
  pub trade : ℕ
  pub kind : TradeType
  pub symbol : Text
  pub qty : ℕ
  pub bid : ℕ
  pub broker : ℕ

-- A row of HOLDING, a lot: opening trade (H_T_ID), account (H_CA_ID), symbol (H_S_SYMB), stamp
-- (H_DTS) and price in cents (H_PRICE) of that trade, and shares, below 0 if sold short (H_QTY).
pub record HoldingRow : Type 0 where
  pub trade : ℕ
  pub account : ℕ
  pub symbol : Text
  pub stamp : ℕ
  pub price : ℕ
  pub qty : ℤ

-- A row of HOLDING_SUMMARY: account (HS_CA_ID), symbol (HS_S_SYMB), and net shares (HS_QTY).
pub record SummaryRow : Type 0 where
  pub account : ℕ
  pub symbol : Text
  pub qty : ℤ

-- A row of HOLDING_HISTORY, a change of a lot: opening trade (HH_H_T_ID), changing trade (HH_T_ID),
-- and shares before and after, below 0 if sold short (HH_BEFORE_QTY, HH_AFTER_QTY).
pub record HoldingHistoryRow : Type 0 where
  pub lot : ℕ
  pub trade : ℕ
  pub before : ℤ
  pub after : ℤ

-- A row of SETTLEMENT: trade (SE_T_ID), cash type (SE_CASH_TYPE), due day in days since 1970-01-01
-- (SE_CASH_DUE_DATE), and amount in cents, below 0 if the customer pays (SE_AMT).
pub record SettlementRow : Type 0 where
  pub trade : ℕ
  pub cash_type : Text
  pub due_day : ℕ
  pub amount : ℤ

-- A row of CASH_TRANSACTION, the cash row of a trade in the first schema: trade (CT_T_ID), stamp
-- (CT_DTS), amount in cents, below 0 if it reduces the balance (CT_AMT), and name (CT_NAME).
pub record OldCashRow : Type 0 where
  pub trade : ℕ
  pub stamp : ℕ
  pub amount : ℤ
  pub name : Text

-- A row of CASH_MOVE: number (CM_ID), account (CM_CA_ID), trade, or none for a movement (CM_T_ID),
-- stamp (CM_DTS), amount in cents, below 0 if it reduces the balance (CM_AMT), and name (CM_NAME).
pub record CashRow : Type 0 where
  pub id : ℕ
  pub account : ℕ
  pub trade : Option ℕ
  pub stamp : ℕ
  pub amount : ℤ
  pub name : Text

-- The rows of all tables. `last` is D_LAST of DESK, the stamp of the last accepted command, if any;
-- its other columns are left out. `rule` is SR_DAY of SETTLE_RULE, the first day of one-day
-- settlement, if any. Cash rows are in CASH_TRANSACTION (`cash`) in the first schema, in CASH_MOVE
-- (`moves`) in the others.
pub record Tables : Type 0 where
  pub last : Option ℕ
  pub kept : List Kept
  pub brokers : List BrokerRow
  pub customers : List Customer
  pub accounts : List AccountRow
  pub permissions : List Permission
  pub securities : List SecurityRow
  pub last_trades : List LastTradeRow
  pub charges : List Charge
  pub bands : List Band
  pub tax_rates : List TaxRate
  pub customer_taxes : List CustomerTax
  pub trades : List TradeRow
  pub history : List HistoryRow
  pub requests : List RequestRow
  pub holdings : List HoldingRow
  pub summaries : List SummaryRow
  pub holding_history : List HoldingHistoryRow
  pub settlements : List SettlementRow
  pub cash : List OldCashRow
  pub moves : List CashRow
  pub rule : SettleRule

-- The BROKER row of the broker `b`: id, name, and the number and the commission total of its trades
-- in `done` (`trades_of_broker`).
abbrev pub broker_row : List Account → List Trade → Broker → BrokerRow
broker_row accounts done b =
    record { id = b.id; name = b.name; trades = pos (trade_count_of_broker accounts done b.id); commissions = commission_total_of_broker accounts done b.id }

-- The CUSTOMER_ACCOUNT row of the account `a`, with its `balance_of_account` after `posted`.
abbrev pub account_row : List Account → List Posting → Account → AccountRow
account_row accounts posted a = record {
  id = a.id;
  customer = a.customer;
  broker = a.broker;
  name = a.name;
  tax_status = a.tax_status;
  opening = a.opening;
  balance = balance_of_account accounts posted a.id;
}

-- The SECURITY row of the security `s`: its symbol, name, exchange and sector.
abbrev pub security_row : Security → SecurityRow
security_row s = record { symbol = s.symbol; name = s.name; exchange = s.exchange; sector = s.sector }

-- The LAST_TRADE row of the security `s`: its symbol, stamp, last price and volume.
abbrev pub last_trade_row : Security → LastTradeRow
last_trade_row s = record { symbol = s.symbol; stamp = s.moment; price = s.last_price; volume = s.volume }

-- The last status of the trade `t`; `Canceled` if it has no status change.
abbrev pub last_status_of_trade : Trade → Status
last_status_of_trade t = option_map_or (λ m. m.status) (last_status_change t) Canceled

-- The TRADE row of the trade `t`, with its last status and stamp; `Canceled` and 0 if it has none.
abbrev pub trade_row : Trade → TradeRow
trade_row t =
    record {
      id = t.id;
      stamp = last_status_stamp_of_trade t;
      status = last_status_of_trade t;
      kind = t.kind;
      is_cash = t.is_cash;
      symbol = t.symbol;
      qty = t.qty;
      bid = t.bid;
      account = t.account;
      executor = t.executor;
      price = t.price;
      charge = t.charge;
      commission = t.commission;
      tax = t.tax;
      is_lifo = t.is_lifo;
    }

-- The TRADE_HISTORY rows of the trade `t`, one for each status change, in sequence.
abbrev pub history_rows : Trade → List HistoryRow
history_rows t = map (λ m. record { trade = t.id; status = m.status; stamp = m.stamp }) t.marks

-- The TRADE_REQUEST row of the pending trade `t`, with the broker of its account, or 0.
abbrev pub request_row : List Account → Trade → RequestRow
request_row accounts t = record { trade = t.id; kind = t.kind; symbol = t.symbol; qty = t.qty; bid = t.bid; broker = broker_id_in_accounts accounts t.account }

-- The rows of `rows` for each account id and, within it, each symbol of `base`, in sequence.
abbrev pub rows_by_position : {Row : Type 0} → Base → (ℕ → Text → List Row) → List Row
rows_by_position base rows = flat_map (λ a. flat_map (λ s. rows a.id s.symbol) base.securities) base.accounts

-- The HOLDING row of the lot that the completed trade `t` opened; the quantity is 0 if no share of
-- it is left after the completed trades `done`, and the price 0 without a completion price.
abbrev pub holding_row : List Trade → Trade → HoldingRow
holding_row done t = record {
  trade = t.id;
  account = t.account;
  symbol = t.symbol;
  stamp = last_status_stamp_of_trade t;
  price = completion_price t;
  qty = lot_quantity (shares_of_position done t.account t.symbol) t.id;
}

-- The HOLDING_HISTORY row of `touch`, the effect of the trade with the id `trade` on a lot.
abbrev pub holding_history_row : ℕ → Touch → HoldingHistoryRow
holding_history_row trade touch = record { lot = touch.lot; trade = trade; before = touch.before; after = touch.after }

-- `rows` with the row of `touch`, by the trade `trade`, in front if it changes the lot's quantity.
abbrev pub rows_with_lot_touch : ℕ → Touch → List HoldingHistoryRow → List HoldingHistoryRow
rows_with_lot_touch trade touch rows = if changes_lot_quantity touch then holding_history_row trade touch ∷ rows else rows

-- The HOLDING_HISTORY rows of the lot of the trade `lot`: one for each deal that changes the lot's
-- quantity. The deals are applied in sequence, from the position `shares` on.
abbrev pub holding_history_over_deals : ℕ → List Share → List Deal → List HoldingHistoryRow
holding_history_over_deals lot shares [] = []
holding_history_over_deals lot shares (d ∷ deals) =
    rows_with_lot_touch d.trade (touch_of_lot lot d shares) (holding_history_over_deals lot (shares_after_deal shares d) deals)

-- The HOLDING_HISTORY rows of the lot of the completed trade `t`: one for each deal of its position
-- in `done` that changes it, sorted by completion stamp, ascending; none if it opened no share.
abbrev pub holding_history_rows_of_lot : List Trade → Trade → List HoldingHistoryRow
holding_history_rows_of_lot done t = holding_history_over_deals t.id [] (deals_of_position done t.account t.symbol)

-- The HOLDING_SUMMARY row of the account `account` in the symbol `symbol` after the completed
-- trades `done`, as a list of one; the empty list if the quantity is 0.
abbrev pub summary_rows : List Trade → ℕ → Text → List SummaryRow
summary_rows done account symbol =
    filter (λ row. not (is_zero row.qty)) (record { account = account; symbol = symbol; qty = holding_summary_quantity done account symbol } ∷ [])

-- The SETTLEMENT row of the completed trade `t`: its id, cash type, due day and amount.
abbrev pub settlement_row : List Account → SettleRule → Trade → SettlementRow
settlement_row accounts rule t = record { trade = t.id; cash_type = t.cash_type; due_day = due_day rule t; amount = settlement_amount accounts t }

-- The CASH_TRANSACTION row of the completed cash trade `t`: id, completion stamp, amount and name.
abbrev pub cash_transaction_row : List Account → Trade → OldCashRow
cash_transaction_row accounts t = record { trade = t.id; stamp = last_status_stamp_of_trade t; amount = settlement_amount accounts t; name = t.cash_name }

-- The CASH_MOVE row of the posting `p`, with the number `id`.
abbrev pub cash_move_row : ℕ → Posting → CashRow
cash_move_row id p = record { id = id; account = p.account; trade = p.trade; stamp = p.stamp; amount = p.amount; name = p.name }

-- The CASH_MOVE rows of the postings, numbered `n`, `n + 1` and so on in the sequence of the list.
abbrev pub numbered_cash_move_rows : ℕ → List Posting → List CashRow
numbered_cash_move_rows n [] = []
numbered_cash_move_rows n (p ∷ posted) = cash_move_row n p ∷ numbered_cash_move_rows (n + 1) posted

-- The CASH_MOVE rows of the postings `posted`, sorted by stamp, ascending (the sort is stable), and
-- numbered from 1; none if `schema` lacks this table.
abbrev pub cash_move_rows : Schema → List Posting → List CashRow
cash_move_rows schema posted = if schema.has_cash_move_table then numbered_cash_move_rows 1 (postings_sorted_by_stamp posted) else []

-- The CASH_TRANSACTION rows of the cash trades of `done`, in sequence; none with CASH_MOVE.
abbrev pub cash_transaction_rows : Schema → List Account → List Trade → List OldCashRow
cash_transaction_rows schema accounts done = if schema.has_cash_move_table then [] else map (cash_transaction_row accounts) (cash_trades done)

-- The tables without rows, without a last stamp and without a first day of one-day settlement.
abbrev pub tables_without_rows : Tables
tables_without_rows = record {
  last = None;
  kept = [];
  brokers = [];
  customers = [];
  accounts = [];
  permissions = [];
  securities = [];
  last_trades = [];
  charges = [];
  bands = [];
  tax_rates = [];
  customer_taxes = [];
  trades = [];
  history = [];
  requests = [];
  holdings = [];
  summaries = [];
  holding_history = [];
  settlements = [];
  cash = [];
  moves = [];
  rule = None;
}

-- The tables of `base` in the schema `schema`, computed from its completed trades `done`; the
-- balances and the CASH_MOVE rows also from the movements, the requests from the pending trades.
-- Lots and summaries with the quantity 0 have no row. The schema determines only which table has
-- the cash rows; CASH_TRANSACTION has none of movements. The rows need not be sorted by key.
abbrev pub tables_from_completed_trades : Schema → Base → List Trade → Tables
tables_from_completed_trades schema base done = record {
  last = base.last;
  kept = base.kept;
  brokers = map (broker_row base.accounts done) base.brokers;
  customers = base.customers;
  accounts = map (account_row base.accounts (postings base.accounts done base.movements)) base.accounts;
  permissions = base.permissions;
  securities = map security_row base.securities;
  last_trades = map last_trade_row base.securities;
  charges = base.charges;
  bands = base.bands;
  tax_rates = base.tax_rates;
  customer_taxes = base.customer_taxes;
  trades = map trade_row base.trades;
  history = flat_map history_rows base.trades;
  requests = map (request_row base.accounts) (pending_trades base.trades);
  holdings = filter (λ row. not (is_zero row.qty)) (map (holding_row done) done);
  summaries = rows_by_position base (summary_rows done);
  holding_history = flat_map (holding_history_rows_of_lot done) done;
  settlements = map (settlement_row base.accounts base.rule) done;
  cash = cash_transaction_rows schema base.accounts done;
  moves = cash_move_rows schema (postings base.accounts done base.movements);
  rule = base.rule;
}

-- The tables of `base` in the schema `schema`, which are computed from its completed trades.
unfoldable pub tables_of_base_in_schema : Schema → Base → Tables
tables_of_base_in_schema schema base = tables_from_completed_trades schema base (completed_trades base)

-- The tables of `base` in the third schema.
abbrev pub tables_of_base : Base → Tables
tables_of_base base = tables_of_base_in_schema third_schema base
