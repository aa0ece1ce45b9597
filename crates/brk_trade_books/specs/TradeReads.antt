-- Lookups in tables before an order, a cancel or a feed, and trades looked up by their ids.
use Rattle.std.specs.Prelude.{◌≡◌, ℕ, ◌==◌, ◌&&◌, nat_le, List, filter, find, map, reverse, slice_get, Option, Some, None, option_map}
use Rattle.std.specs.Prelude.{option_to_list, unwrap_or, if◌then◌else◌, ℤ, pos, bytes_eq, [], ◌∷◌, replicate}
use Rattle.std.specs.Int.RustNames.{unsigned_abs}
use Rattle.std.specs.Option.{option_map_or}
use Rattle.brk_money.specs.Spelling.{Text}
use Rattle.brk_money.specs.declared.trade_type.TradeType.{TradeType}
use Rattle.brk_model.specs.Joins.{trade_row_with_id}
use Rattle.brk_model.specs.Lists.{is_zero}
use Rattle.brk_model.specs.Records.{Band, Permission}
use Rattle.brk_model.specs.Keys.{number, rows_sorted_by_key}
use Rattle.brk_model.specs.Shares.{Share}
use Rattle.brk_ref.specs.Rows.{abstract_trade_row}
use Rattle.brk_ref.specs.declared.trade_row.TradeRow as row
use Rattle.brk_lots.specs.Lots.{side_of_qty}
use Rattle.brk_lots.specs.declared.lot.Lot.{Lot}
use Rattle.brk_model.specs.Tables.{Tables, HoldingRow, LastTradeRow, RequestRow, SummaryRow}
use Rattle.brk_trade_books.specs.Reads.{commission_bands_of_tier_type_and_exchange}

-- The id in the last row of TRADE, in the order of the table, or 0 if there are no trades.
abbrev pub trade_id_in_last_row_or_zero : Tables → ℕ
trade_id_in_last_row_or_zero t = unwrap_or (option_map (λ r. r.id) (slice_get (reverse t.trades) 0)) 0

-- The number in the last row of CASH_MOVE, in the order of the table, or 0 if there is none.
abbrev pub last_cash_row_number_or_zero : Tables → ℕ
last_cash_row_number_or_zero t = unwrap_or (option_map (λ r. r.id) (slice_get (reverse t.moves) 0)) 0

-- The permissions of the account, in the order of the table.
abbrev pub permissions_of_account : Tables → ℕ → List Permission
permissions_of_account t account = filter (λ r. r.account == account) t.permissions

-- The first permission of the account for the tax id `tax_id`, as a list of at most one.
abbrev pub permission_list_for_tax_id : Tables → ℕ → Text → List Permission
permission_list_for_tax_id t account tax_id = option_to_list (find (λ r. (r.account == account) && bytes_eq r.tax_id tax_id) t.permissions)

-- The first commission band of the tier `tier`, the trade type `kind` and the exchange `exchange`
-- that contains the quantity `qty`, in shares, both bounds included, or `None`.
abbrev pub commission_band_of_quantity : Tables → ℕ → TradeType → Text → ℕ → Option Band
commission_band_of_quantity t tier kind exchange qty =
    find (λ r. nat_le r.from_qty qty && nat_le qty r.to_qty) (commission_bands_of_tier_type_and_exchange t tier kind exchange)

-- The volume, in shares, in the first row of LAST_TRADE of the symbol, or 0 without a row.
abbrev pub volume_of_symbol : Tables → Text → ℕ
volume_of_symbol t symbol = option_map_or (λ r. r.volume) (find (λ r. bytes_eq r.symbol symbol) t.last_trades) 0

-- The first row of LAST_TRADE of the symbol, in the order of the table, or `None`.
abbrev pub last_trade_row_of_symbol : Tables → Text → Option LastTradeRow
last_trade_row_of_symbol t symbol = find (λ r. bytes_eq r.symbol symbol) t.last_trades

-- The rows of TRADE_REQUEST of the symbol, in the order of the table.
abbrev pub requests_of_symbol : Tables → Text → List RequestRow
requests_of_symbol t symbol = filter (λ r. bytes_eq r.symbol symbol) t.requests

-- The rows of HOLDING of the account in the symbol, sorted by stamp, then by trade, ascending.
abbrev pub holding_rows_of_position : Tables → ℕ → Text → List HoldingRow
holding_rows_of_position t account symbol =
    rows_sorted_by_key (λ r. number r.stamp ∷ number r.trade ∷ []) (filter (λ r. (r.account == account) && bytes_eq r.symbol symbol) t.holdings)

-- The single shares of the row `r` of HOLDING: as many equal shares as its absolute quantity, with
-- its trade, price and stamp, sold short if the quantity is below 0, otherwise bought.
abbrev pub shares_of_lot_row : HoldingRow → List Share
shares_of_lot_row r = replicate (unsigned_abs r.qty) (record { side = side_of_qty r.qty; trade = r.trade; price = r.price; stamp = r.stamp })

-- The lot of the row `r` of HOLDING: the row without its account and symbol.
abbrev pub lot_of_row : HoldingRow → Lot
lot_of_row r = record { trade = r.trade; price = r.price; qty = r.qty; stamp = r.stamp }

-- The lots of the account in the symbol, sorted by stamp, then by trade, ascending.
abbrev pub lots_of_position : Tables → ℕ → Text → List Lot
lots_of_position t account symbol = map lot_of_row (holding_rows_of_position t account symbol)

-- The first row of HOLDING_SUMMARY of the account in the symbol, or `None`.
abbrev pub summary_row_of_position : Tables → ℕ → Text → Option SummaryRow
summary_row_of_position t account symbol = find (λ r. (r.account == account) && bytes_eq r.symbol symbol) t.summaries

-- The quantity of the summary `row`, in shares, below 0 if sold short; 0 if `row` is `None`.
abbrev pub summary_quantity_or_zero : Option SummaryRow → ℤ
summary_quantity_or_zero row = option_map_or (λ r. r.qty) row (pos 0)

-- The row of HOLDING_SUMMARY with the account, the symbol and `qty`, or `None` if `qty` is 0.
abbrev pub summary_row_if_nonzero : ℕ → Text → ℤ → Option SummaryRow
summary_row_if_nonzero account symbol qty = if is_zero qty then None else Some (record { account = account; symbol = symbol; qty = qty })

-- The typed rows `trades` are the rows in the tables with the ids `ids`, in this order; all exist.
abbrev pub AreTradesWithIds : Tables → List ℕ → List row.TradeRow → Type 0
AreTradesWithIds t ids trades = map (λ r. Some (abstract_trade_row r)) trades ≡ map (trade_row_with_id t) ids
