-- The lots of a position in the order of closing, and those not yet returned after pages were read.
use Rattle.std.specs.Prelude.{ℕ, List, [], ◌++◌, Bool, if◌then◌else◌, drop, map}
use Rattle.brk_lots.specs.declared.lot.Lot.{Lot}
use Rattle.brk_lots.specs.Lots.{list_reversed_if_lifo}
use Rattle.brk_model.specs.Tables.{Tables, HoldingRow}
use Rattle.brk_money.specs.Spelling.{Text}
use Rattle.brk_ref.specs.Rows.{abstract_holding_row}
use Rattle.brk_ref.specs.declared.holding_row.HoldingRow as row
use Rattle.brk_tables_trading.specs.Pages.{position_lots_by_age}
use Rattle.brk_trade_books.specs.TradeReads.{lot_of_row}

-- The lots of `account` in `symbol`, by opening stamp and trade, the newest first if `lifo`.
abbrev pub lot_rows_in_closing_order : Bool → ℕ → Text → Tables → List HoldingRow
lot_rows_in_closing_order lifo account symbol t = list_reversed_if_lifo lifo (position_lots_by_age account symbol t)

-- The elements of `rows` after the first `read`, or no element if `ended` is true.
abbrev pub unread_rows : Bool → ℕ → List HoldingRow → List HoldingRow
unread_rows ended read rows = if ended then [] else drop read rows

-- The lots that a source of pages still has: those of `pending`, the rows read and not yet
-- returned, then, unless `ended`, those of `rows` from number `read` + 1 on.
abbrev pub remaining_lots : List row.HoldingRow → Bool → ℕ → List HoldingRow → List Lot
remaining_lots pending ended read rows = map lot_of_row (map abstract_holding_row pending ++ unread_rows ended read rows)
