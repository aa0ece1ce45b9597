-- Trades that were read with their settlements, cash rows and histories.
use Rattle.std.specs.Prelude.{◌≡◌, List, map}
use Rattle.brk_model.specs.Base.{Base}
use Rattle.brk_model.specs.Sheets.{sheets}
use Rattle.brk_model.specs.Tables.{Tables, TradeRow}
use Rattle.brk_audit_theorems.specs.Sound.{AuditInvariant}
use Rattle.brk_trade_books.specs.Books.{BooksInvariant}
use Rattle.brk_view_rows.specs.Lookup.{rows_of_looked_up_trade, table_rows_of_trade}
use Rattle.brk_view_rows.specs.declared.lookups.LookedUp.{LookedUp}

-- `found` has exactly the rows that the tables `t` contain for the trade `row`, its statuses sorted
-- by stamp. Vacuous if `t` are not the tables of a base with the books and audit invariants.
abbrev pub HasAllRowsOfTrade : TradeRow → LookedUp → Tables → Type 0
HasAllRowsOfTrade row found t =
    (base : Base) → BooksInvariant base → AuditInvariant base → t ≡ sheets base → rows_of_looked_up_trade found ≡ table_rows_of_trade t row

-- `found` has exactly the rows that the tables `t` contain for the trades `rows`, in the order of
-- `rows`, the statuses of each trade sorted by stamp, ascending. Vacuous if `t` are not the tables
-- of a base with the books and audit invariants.
abbrev pub HaveAllRowsOfTrades : List TradeRow → List LookedUp → Tables → Type 0
HaveAllRowsOfTrades rows found t =
    (base : Base) → BooksInvariant base → AuditInvariant base → t ≡ sheets base → map rows_of_looked_up_trade found ≡ map (table_rows_of_trade t) rows
