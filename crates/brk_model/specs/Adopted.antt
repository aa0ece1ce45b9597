-- The base that is read from the rows of a database.
use Rattle.std.specs.Prelude.{ℕ, Bool, ◌==◌, List, [], ◌++◌, map, filter, find, Some, is_none, bytes_eq}
use Rattle.std.specs.Option.{option_map_or}
use Rattle.brk_money.specs.Spelling.{Text}
use Rattle.brk_model.specs.Lists.{sort_by_key}
use Rattle.brk_model.specs.Records.{Account, Security, StatusChange, Trade, Movement}
use Rattle.brk_model.specs.Base.{Base}
use Rattle.brk_model.specs.Derived.{Posting}
use Rattle.brk_model.specs.Tables.{Tables, AccountRow, SecurityRow, LastTradeRow, TradeRow, OldCashRow, CashRow}
use Rattle.brk_model.specs.Joins.{history_rows_with_trade_id, trade_row_with_id, is_id_of_trade}

-- The account that a CUSTOMER_ACCOUNT row describes; the balance of the row is not used.
abbrev pub account_of_row : AccountRow → Account
account_of_row a = record { id = a.id; customer = a.customer; broker = a.broker; name = a.name; tax_status = a.tax_status; opening = a.opening }

-- The status changes of the trade `trade` in TRADE_HISTORY, stably sorted by stamp, ascending.
abbrev pub status_changes_of_trade : Tables → ℕ → List StatusChange
status_changes_of_trade tables trade =
    sort_by_key (λ m. m.stamp) (map (λ h. record { stamp = h.stamp; status = h.status }) (history_rows_with_trade_id tables trade))

-- The posting of a CASH_TRANSACTION row, to the account of its trade (0 if this does not exist).
abbrev pub posting_of_cash_transaction_row : Tables → OldCashRow → Posting
posting_of_cash_transaction_row tables c = record {
  account = option_map_or (λ t. t.account) (trade_row_with_id tables c.trade) 0;
  trade = Some c.trade;
  stamp = c.stamp;
  amount = c.amount;
  name = c.name;
}

-- The posting that a CASH_MOVE row describes: its account, trade, stamp, amount and name.
abbrev pub posting_of_cash_move_row : CashRow → Posting
posting_of_cash_move_row r = record { account = r.account; trade = r.trade; stamp = r.stamp; amount = r.amount; name = r.name }

-- The postings of the rows of CASH_TRANSACTION, followed by those of the rows of CASH_MOVE.
abbrev pub postings_of_tables : Tables → List Posting
postings_of_tables tables = map (posting_of_cash_transaction_row tables) tables.cash ++ map posting_of_cash_move_row tables.moves

-- True if the posting `p` belongs to the trade with the id `trade`; false if it belongs to none.
abbrev pub is_posting_of_trade : ℕ → Posting → Bool
is_posting_of_trade trade p = is_id_of_trade trade p.trade

-- The movement that a CASH_MOVE row without a trade describes: its account, stamp, amount and name.
abbrev pub movement_of_row : CashRow → Movement
movement_of_row r = record { account = r.account; stamp = r.stamp; amount = r.amount; name = r.name }

-- The trade of a TRADE row, whose status and stamp are not used, with its status changes, the cash
-- type of its first SETTLEMENT row and the name of its first cash row, or empty texts.
abbrev pub trade_of_row : Tables → TradeRow → Trade
trade_of_row tables t = record {
  id = t.id;
  account = t.account;
  kind = t.kind;
  symbol = t.symbol;
  qty = t.qty;
  bid = t.bid;
  is_cash = t.is_cash;
  is_lifo = t.is_lifo;
  executor = t.executor;
  charge = t.charge;
  commission = t.commission;
  tax = t.tax;
  price = t.price;
  marks = status_changes_of_trade tables t.id;
  cash_type = option_map_or (λ s. s.cash_type) (find (λ s. s.trade == t.id) tables.settlements) [];
  cash_name = option_map_or (λ p. p.name) (find (is_posting_of_trade t.id) (postings_of_tables tables)) [];
}

-- The security of a SECURITY row and a LAST_TRADE row, whose symbol is not used.
abbrev pub security_of_rows : SecurityRow → LastTradeRow → Security
security_of_rows s l =
    record { symbol = s.symbol; name = s.name; exchange = s.exchange; sector = s.sector; last_price = l.price; volume = l.volume; moment = l.stamp }

-- The LAST_TRADE row of the symbol `symbol` whose stamp, price and volume are 0.
abbrev pub zero_last_trade_row : Text → LastTradeRow
zero_last_trade_row symbol = record { symbol = symbol; stamp = 0; price = 0; volume = 0 }

-- The security of a SECURITY row, with price, volume and stamp of its first LAST_TRADE row, or 0.
abbrev pub security_of_row : Tables → SecurityRow → Security
security_of_row tables s =
    option_map_or (security_of_rows s) (find (λ l. bytes_eq l.symbol s.symbol) tables.last_trades) (security_of_rows s (zero_last_trade_row s.symbol))

-- The base that the tables `t` of any schema describe; lots, sums and balances are not read.
unfoldable pub base_of_tables : Tables → Base
base_of_tables t = record {
  brokers = map (λ b. record { id = b.id; name = b.name }) t.brokers;
  customers = t.customers;
  accounts = map account_of_row t.accounts;
  permissions = t.permissions;
  securities = map (security_of_row t) t.securities;
  charges = t.charges;
  bands = t.bands;
  tax_rates = t.tax_rates;
  customer_taxes = t.customer_taxes;
  trades = map (trade_of_row t) t.trades;
  movements = map movement_of_row (filter (λ r. is_none r.trade) t.moves);
  rule = t.rule;
  kept = t.kept;
  last = t.last;
}
