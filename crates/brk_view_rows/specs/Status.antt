-- The records of an account's parties and trades.
use Rattle.std.specs.Prelude.{List, [], ◌∷◌, ◌++◌, Option, Some, map, decimal, string_bytes}
use Rattle.brk_ref.specs.Rows.{abstract_trade_row}
use Rattle.brk_ref.specs.declared.trade_row.TradeRow.{TradeRow}
use Rattle.brk_model.specs.Joins.{security_row_with_symbol}
use Rattle.brk_model.specs.Queries as model
use Rattle.brk_model.specs.Rows.{nonnegative_cents_text}
use Rattle.brk_model.specs.Tables as tables
use Rattle.brk_model.specs.Tables.{SecurityRow, Tables}
use Rattle.brk_money.specs.Kinds.{trade_status_name, trade_type_name}
use Rattle.brk_money.specs.Spelling.{Text}
use Rattle.brk_ref.specs.Records.{abstract_security_row}
use Rattle.brk_view_rows.specs.declared.statuses.AccountStatus.{AccountStatus}
use Rattle.brk_view_rows.specs.declared.statuses.TradeStatus.{TradeStatus}

-- The record of the parties of an account: last and first name of its customer, name of its broker.
abbrev pub party_names_record : AccountStatus → List Text
party_names_record a = a.last_name ∷ a.first_name ∷ a.broker ∷ []

-- The first five fields of a trade in an account's status: id, stamp, status, type (names), symbol.
abbrev pub first_five_status_fields : TradeRow → List Text
first_five_status_fields t = decimal t.id ∷ decimal t.stamp ∷ trade_status_name t.status ∷ trade_type_name t.kind ∷ t.symbol ∷ []

-- The last five fields of a trade: quantity, executor, charge, its security's name and exchange.
abbrev pub last_five_status_fields : TradeStatus → List Text
last_five_status_fields s =
    decimal s.trade.qty ∷ string_bytes s.trade.executor ∷ nonnegative_cents_text s.trade.charge ∷ s.security.name ∷ s.security.exchange ∷ []

-- The record of a trade with its security, in ten fields: id, stamp, names of status and type,
-- symbol, quantity, executor, charge, and its security's name and exchange.
abbrev pub trade_status_record : TradeStatus → List Text
trade_status_record s = first_five_status_fields s.trade ++ last_five_status_fields s

-- The trade and the security of `s`, as rows of the model's tables; the security is never `None`.
abbrev pub rows_of_trade_status : TradeStatus → tables.TradeRow × Option SecurityRow
rows_of_trade_status s = (abstract_trade_row s.trade, Some (abstract_security_row s.security))

-- The TRADE row `row` with the first SECURITY row of its symbol in the tables `t`, or with `None`.
abbrev pub trade_row_with_security : Tables → tables.TradeRow → tables.TradeRow × Option SecurityRow
trade_row_with_security t row = (row, security_row_with_symbol t row.symbol)

-- The records of an account status: one of its parties' names, then one for each trade, in order.
abbrev pub records_of_account_status : AccountStatus → model.View
records_of_account_status a = party_names_record a ∷ map trade_status_record a.trades.items
