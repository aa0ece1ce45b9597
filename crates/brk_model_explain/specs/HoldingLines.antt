-- The lines of the explanation of a holding.
use Rattle.std.specs.Prelude.{ℕ, List, [], ◌∷◌, ◌++◌, map, flat_map, length, ℤ, pos, ◌-ℤ◌, ◌*ℤ◌, codes, decimal}
use Rattle.brk_money.specs.Spelling.{Text}
use Rattle.brk_money.specs.Kinds.{trade_type_code}
use Rattle.brk_model.specs.Tables.{Tables, AccountRow, SecurityRow, TradeRow}
use Rattle.brk_model.specs.Joins.{last_price_in_tables}
use Rattle.brk_model_explain.specs.Texts.{labeled_value, timestamp_text, labeled_amount, blank_timestamp_text, leading_row_columns, shares_column, value_column}
use Rattle.brk_model_explain.specs.Texts.{labeled_text}
use Rattle.brk_model_explain.specs.Running.{lines_with_running_total}
use Rattle.brk_model_explain.specs.Trades.{completion_price_or_zero}
use Rattle.brk_model_explain.specs.Holdings.{LotChange, LotDetails, realised_gain_of_change, count_of_lot_changes}
use Rattle.brk_model_explain.specs.Holdings.{remaining_cost_of_lot, remaining_cost_of_lots}
use Rattle.brk_model_explain.specs.Holdings.{completed_trades_in_symbol, realised_gain_of_lots, remaining_quantity, lots_opened_in_symbol}
use Rattle.brk_model_explain.specs.Holdings.{lots_not_fully_closed, total_purchase_value, negated_total_sale_value, signed_quantity_of_trade, signed_value_of_trade}
use Rattle.brk_model_explain.specs.Holdings.{summary_quantity_in_symbol}
use Rattle.std.specs.Fmt.{signed_decimal}

-- The title of the explanation of the holding of `account` in the security `symbol`.
abbrev pub holding_title : ℕ → Text → Text
holding_title account symbol = codes "Holding of account " ++ decimal account ++ codes " in " ++ symbol ++ codes ", times in UTC"

-- The first lines of the explanation of a holding: title, names of account and security, headings.
unfoldable pub holding_header_lines : AccountRow → SecurityRow → List Text
holding_header_lines a s =
    holding_title a.id s.symbol
    ∷ labeled_text (codes "Account name") a.name
    ∷ labeled_text (codes "Security") s.name
    ∷ codes "#      completed                       trade      shares      price            value        held type"
    ∷ []

-- The line of the completed trade `u`: `Trade`, timestamp, id, quantity, price (0 if none), value,
-- `held`, the holding after it, and the code of its type. A sale's quantity and value are negated.
unfoldable pub holding_trade_line : TradeRow → ℤ → Text
holding_trade_line u held =
    leading_row_columns (codes "Trade") (timestamp_text u.stamp) u.id (signed_quantity_of_trade u) (completion_price_or_zero u)
    ++ value_column (signed_value_of_trade u) ++ shares_column held ++ 32
    ∷ trade_type_code u.kind

-- The line of the column headings of lots.
abbrev pub lot_columns_header : Text
lot_columns_header = codes "#      opened or changed               trade      shares      price     cost or gain        left"

-- The line of the opening of `lot`: `Lot`, timestamp and trade, quantity, price and their product.
unfoldable pub lot_opening_line : LotDetails → Text
lot_opening_line lot =
    leading_row_columns (codes "Lot") (timestamp_text lot.trade.stamp) lot.trade.id lot.opened (completion_price_or_zero lot.trade)
    ++ value_column (lot.opened *ℤ pos (completion_price_or_zero lot.trade))

-- The line of the change `c` of a lot that was opened at `price` cents: `Change`, timestamp and id
-- of the changing trade, change of quantity, price of that trade, realised gain, and new quantity.
unfoldable pub lot_change_line : ℕ → LotChange → Text
lot_change_line price c =
    leading_row_columns (codes "Change") (timestamp_text c.stamp) c.trade (c.after -ℤ c.before) c.price ++ value_column (realised_gain_of_change price c)
    ++ shares_column c.after

-- The line of the remaining shares of `lot`: `Left`, a blank timestamp, the opening trade, the
-- remaining quantity (0 if closed), the opening price, and the cost basis, their product.
unfoldable pub lot_remainder_line : LotDetails → Text
lot_remainder_line lot =
    leading_row_columns (codes "Left") blank_timestamp_text lot.trade.id (remaining_quantity lot) (completion_price_or_zero lot.trade)
    ++ value_column (remaining_cost_of_lot lot)

-- A line for each of the `changes`, by other trades, of a lot that was opened at `price` cents.
abbrev pub lot_change_lines : ℕ → List LotChange → List Text
lot_change_lines price changes = map (lot_change_line price) changes

-- The lines of `lot`: its opening, each change by another trade, and what remains, even if nothing.
unfoldable pub lot_history_lines : LotDetails → List Text
lot_history_lines lot = lot_opening_line lot ∷ lot_change_lines (completion_price_or_zero lot.trade) lot.changes ++ lot_remainder_line lot ∷ []

-- The lines of the total purchases `bought`, the negated total sales `sold`, the realised gain
-- `gain` and the cost basis `cost` of a holding, which are all given in cents.
unfoldable pub purchase_sale_gain_and_cost_lines : ℤ → ℤ → ℤ → ℤ → List Text
purchase_sale_gain_and_cost_lines bought sold gain cost =
    labeled_amount (codes "Purchases") bought ∷ labeled_amount (codes "Sales") sold ∷ labeled_amount (codes "Realised gain") gain
    ∷ labeled_amount (codes "Cost basis") cost ∷ []

-- The lines of the quantity `shares` of a holding, the last price `price`, the market value (their
-- product), and the unrealised gain (the market value minus the cost basis `cost`), in cents.
unfoldable pub holding_value_lines : ℤ → ℕ → ℤ → List Text
holding_value_lines shares price cost =
    labeled_value (codes "Shares") (signed_decimal shares)
    ∷ labeled_amount (codes "Last price") (pos price)
    ∷ labeled_amount (codes "Worth") (shares *ℤ pos price)
    ∷ labeled_amount (codes "Unrealised gain") (shares *ℤ pos price -ℤ cost)
    ∷ []

-- The last line of the explanation of a holding: the numbers of completed trades, of lots, of lots
-- not fully closed, and of lot changes by other trades than those that opened them.
abbrev pub holding_counts_line : ℕ → ℕ → ℕ → ℕ → Text
holding_counts_line trades lots open_count changes =
    codes "Trades " ++ decimal trades ++ codes ", lots " ++ decimal lots ++ codes ", open lots " ++ decimal open_count ++ codes ", changes " ++ decimal changes

-- The last lines of the explanation of a holding, from its completed trades `done`, `lots`,
-- quantity `shares` and last price `price` in cents: purchases, negated sales, realised gain, cost
-- basis, shares, last price, market value, unrealised gain, and counts.
unfoldable pub holding_total_lines : List TradeRow → List LotDetails → ℤ → ℕ → List Text
holding_total_lines done lots shares price =
    purchase_sale_gain_and_cost_lines (total_purchase_value done) (negated_total_sale_value done) (realised_gain_of_lots lots) (remaining_cost_of_lots lots)
    ++ holding_value_lines shares price (remaining_cost_of_lots lots)
    ++ holding_counts_line (length done) (length lots) (length (lots_not_fully_closed lots)) (count_of_lot_changes lots)
    ∷ []

-- A line for each of the completed trades `done`, with the quantity of the holding after it.
abbrev pub holding_trade_lines : List TradeRow → List Text
holding_trade_lines done = lines_with_running_total signed_quantity_of_trade holding_trade_line (pos 0) done

-- The explanation of the holding of the account `a` in the security `s`: first lines, completed
-- trades `done`, headings of the lots, `lots`, and last lines, from its quantity `shares` and the
-- last price `price`, in cents.
unfoldable pub holding_lines_from_trades_and_lots : AccountRow → SecurityRow → List TradeRow → List LotDetails → ℤ → ℕ → List Text
holding_lines_from_trades_and_lots a s done lots shares price =
    holding_header_lines a s ++ holding_trade_lines done ++ lot_columns_header ∷ flat_map lot_history_lines lots ++ holding_total_lines done lots shares price

-- The explanation of the holding of `a` in `s`: first lines, completed trades, headings of the
-- lots, lots with their changes, last lines; trades, lots and changes are sorted by stamp,
-- ascending. The quantity (of HOLDING_SUMMARY) and the last price are 0 without a row.
unfoldable pub holding_explanation_lines : Tables → AccountRow → SecurityRow → List Text
holding_explanation_lines tables a s =
    holding_lines_from_trades_and_lots a s (completed_trades_in_symbol tables a.id s.symbol) (lots_opened_in_symbol tables a.id s.symbol)
    (summary_quantity_in_symbol tables a.id s.symbol) (last_price_in_tables tables s.symbol)
