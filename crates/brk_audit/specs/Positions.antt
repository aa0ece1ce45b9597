-- Completed trades by position, and the lots that remain after them.
use Rattle.std.specs.Prelude.{◌≡◌, ◌&&◌, ◌||◌, ◌==◌, Bool, true, false, ⊤, List, [], ◌∷◌, ◌++◌, map, unwrap_or, bytes_eq}
use Rattle.std.specs.List.{AllByRecursion}
use Rattle.brk_money.specs.Kinds.{side_of_trade_type}
use Rattle.brk_model.specs.Keys.{KeyPart, number, word, is_row_key_less}
use Rattle.brk_model.specs.Shares.{Deal, Lot, lots_of_shares, replay}
use Rattle.brk_model.specs.Tables.{HoldingHistoryRow, HoldingRow, TradeRow}
use Rattle.brk_lots.specs.Chains.{lot_changes_of_deals}

-- The deal (`Deal`) of the completed trade `r`, at its price in cents; a missing price counts as 0.
abbrev pub deal_of_completed_row : TradeRow → Deal
deal_of_completed_row r =
    record { trade = r.id; side = side_of_trade_type r.kind; qty = r.qty; price = unwrap_or r.price 0; stamp = r.stamp; is_lifo = r.is_lifo }

-- True if the two trades have the same account and symbol.
abbrev pub has_same_position : TradeRow → TradeRow → Bool
has_same_position r s = (r.account == s.account) && bytes_eq r.symbol s.symbol

-- The sort key of a trade: its account, its symbol, and its stamp.
abbrev pub position_sort_key : TradeRow → List KeyPart
position_sort_key r = number r.account ∷ word r.symbol ∷ number r.stamp ∷ []

-- True if the trade `r` is strictly before `s` by account, then symbol (by bytes), then stamp.
abbrev pub is_before_by_position : TradeRow → TradeRow → Bool
is_before_by_position r s = is_row_key_less position_sort_key r s

-- True if the two trades have the same id or the same stamp.
abbrev pub has_same_id_or_stamp : TradeRow → TradeRow → Bool
has_same_id_or_stamp r s = (r.id == s.id) || (r.stamp == s.stamp)

-- The first element of the list satisfies `P`. Vacuous if the list is empty.
abbrev pub FirstElementSatisfies : {X : Type 0} → (X → Type 0) → List X → Type 0
FirstElementSatisfies P [] = ⊤
FirstElementSatisfies P (x ∷ xs) = P x

-- The row of HOLDING of the lot `l`, with the account and the symbol of the trade `r`.
abbrev pub holding_row_in_position_of_trade : TradeRow → Lot → HoldingRow
holding_row_in_position_of_trade r l = record { trade = l.trade; account = r.account; symbol = r.symbol; stamp = l.stamp; price = l.price; qty = l.qty }

-- The rows of HOLDING of the lots left after the trades `run`, executed in order from no lots, at
-- the account and symbol of `r`, in the order of the lots' first open shares, the oldest first.
abbrev pub holding_rows_left_by_trades : TradeRow → List TradeRow → List HoldingRow
holding_rows_left_by_trades r run = map (holding_row_in_position_of_trade r) (lots_of_shares (replay (map deal_of_completed_row run)))

-- The rows are exactly the rows of HOLDING of the lots that remain after the trades, in the order
-- of the trades. The trades of a position are neighbours, executed in this order from no lots.
pub data AreLotsLeftByTrades : List TradeRow → List HoldingRow → Type 0 where
  nothing : AreLotsLeftByTrades [] []
  position : (r : TradeRow) (run later : List TradeRow) (rows : List HoldingRow) → AllByRecursion (λ s. has_same_position r s ≡ true) run
      → AllByRecursion (λ s. has_same_position r s ≡ false) later
      → AreLotsLeftByTrades later rows → AreLotsLeftByTrades (r ∷ run ++ later) (holding_rows_left_by_trades r (r ∷ run) ++ rows)

-- The rows are exactly the rows of HOLDING_HISTORY of the trades' lot changes, in the order of the
-- trades. The trades of a position are neighbours, executed in this order from no lots.
pub data AreLotChangesOfTrades : List TradeRow → List HoldingHistoryRow → Type 0 where
  untouched : AreLotChangesOfTrades [] []
  moves : (r : TradeRow) (run later : List TradeRow) (rows : List HoldingHistoryRow) → AllByRecursion (λ s. has_same_position r s ≡ true) run
      → AllByRecursion (λ s. has_same_position r s ≡ false) later
      → AreLotChangesOfTrades later rows → AreLotChangesOfTrades (r ∷ run ++ later) (lot_changes_of_deals (map deal_of_completed_row (r ∷ run)) [] ++ rows)
