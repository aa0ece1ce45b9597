-- The lot that a trade opened.
use Rattle.std.proofs.Common.{◌≡◌, ℕ, ◌-◌, ◌==◌, ◌&&◌, Bool, true, false, not, cond, List, [], ◌∷◌, ◌++◌, Some, None, refl, ◌∙◌, ap, map, filter, arith, ℤ, pos, ◌-ℤ◌}
use Rattle.std.specs.Option.{option_map_or}
use Rattle.std.proofs.lemmas.Bool.{eqb-false, eq-eqb}
use Rattle.std.proofs.lemmas.Int.{ints}
use Rattle.brk_money.specs.Kinds.{side_of_trade_type}
use Rattle.brk_model.specs.Base.{Base, completed_trades, is_completed}
use Rattle.brk_model.specs.Derived.{deal_of_trade}
use Rattle.brk_model.specs.Keys.{rows_sorted_by_key, holding_history_key}
use Rattle.brk_model.specs.Lists.{is_zero, sort_by}
use Rattle.brk_model.specs.Records.{Trade}
use Rattle.brk_model.specs.Shares.{Share, closed_share_count_of_deal, lot_quantity, shares_after_deal, signed_by_side}
use Rattle.brk_model.specs.Sheets.{sheets}
use Rattle.brk_model.specs.Tables.{HoldingHistoryRow}
use Rattle.brk_lots.specs.HistoryRows.{has_quantity_change}
use Rattle.brk_lots.proofs.History.{opened_qty}
use Rattle.brk_model_explain.specs.Trades.{opened_lot_row}
use Rattle.brk_trade_books.proofs.Completing.{here_itself, is_here}
use Rattle.brk_trade_books.proofs.Places.{filter-append}
use Rattle.brk_trade_books.proofs.Same.{All-map, filter-none}
use Rattle.brk_trade_books.proofs.Tested.{not_not}
use Rattle.brk_trade_books.proofs.Touching.{Without, lot_without}
use Rattle.brk_view_theorems.proofs.Among.{Among, among}
use Rattle.brk_view_theorems.proofs.Held.{left_by, none_yet}
use Rattle.brk_view_theorems.proofs.LotGains.{zero_is}
use Rattle.brk_view_theorems.proofs.SortedRows.{find_first, first}
use Rattle.brk_view_theorems.proofs.TradeRows.{IsPlaced, passes, placed_order, row_by, rows_found}

-- the row of the lot that the trade opened
abbrev is_own : ℕ → HoldingHistoryRow → Bool
is_own id r = (r.trade == id) && (r.lot == id)

only_own : (id : ℕ) (r : HoldingHistoryRow) → (r.trade == id) ≡ false → is_own id r ≡ false
only_own id r e = ap (λ b. b && (r.lot == id)) e

-- the only trade that can have made it
own_alone : (base : Base) (t : Trade) (front back : List Trade) → IsPlaced base t front back → is_completed t ≡ true
    → filter (λ v. is_here t v && passes (is_own t.id) (left_by front) t v) (completed_trades base) ≡ cond (has_quantity_change (row_by (left_by front) (deal_of_trade t) t)) (t ∷ []) []
own_alone base t front back k c =
    ap (filter Q) a.stands ∙ filter-append Q a.front (t ∷ a.back)
    ∙ (λ i. filter-none Q a.front (All-map a.front (λ v e. other v e) a.ids_before) i
    ++ cond (own i) (t ∷ filter-none Q a.back (All-map a.back (λ v e. other v e) a.ids_after) i) (filter-none Q a.back (All-map a.back (λ v e. other v e) a.ids_after) i))
  where
    row : Trade → HoldingHistoryRow
    row = row_by (left_by front) (deal_of_trade t)

    Q : Trade → Bool
    Q v = is_here t v && passes (is_own t.id) (left_by front) t v

    a : Among base t
    a = among base t k.books k.found c

    and_false : (b : Bool) → b && false ≡ false
    and_false true = refl
    and_false false = refl

    other : (v : Trade) → (v.id == t.id) ≡ false → Q v ≡ false
    other v e = ap (λ b. is_here t v && (((t.id == t.id) && b) && has_quantity_change (row v))) e
        ∙ ap (λ b. is_here t v && (b && has_quantity_change (row v))) (and_false (t.id == t.id)) ∙ and_false (is_here t v)

    own : Q t ≡ has_quantity_change (row t)
    own = (λ i. here_itself t i && ((eq-eqb t.id t.id refl i && eq-eqb t.id t.id refl i) && has_quantity_change (row t)))

pub own_row : (base : Base) (t : Trade) (front back : List Trade) → IsPlaced base t front back → is_completed t ≡ true
    → opened_lot_row (sheets base) t.id ≡ cond (has_quantity_change (row_by (left_by front) (deal_of_trade t) t)) (Some (row_by (left_by front) (deal_of_trade t) t)) None
unfolding sort_by
own_row base t front back k c =
    find_first (is_own t.id) (sheets base).holding_history
    ∙ ap first (rows_found base t front back k (is_own t.id) (only_own t.id)
    ∙ ap (λ vs. rows_sorted_by_key holding_history_key (map (row_by (left_by front) (deal_of_trade t)) vs)) (own_alone base t front back k c))
    ∙ alone (has_quantity_change (row_by (left_by front) (deal_of_trade t) t))
  where
    alone : (b : Bool) → first (rows_sorted_by_key holding_history_key (map (row_by (left_by front) (deal_of_trade t)) (cond b (t ∷ []) [])))
        ≡ cond b (Some (row_by (left_by front) (deal_of_trade t) t)) None
    alone true = refl
    alone false = refl

-- what it opened: nothing, where it has no row
pub own_qty : (base : Base) (t : Trade) (front back : List Trade) → IsPlaced base t front back → is_completed t ≡ true
    → option_map_or (λ (r : HoldingHistoryRow). r.after) (opened_lot_row (sheets base) t.id) (pos 0)
    ≡ signed_by_side (side_of_trade_type t.kind) (t.qty - closed_share_count_of_deal (deal_of_trade t) (left_by front))
own_qty base t front back k c =
    ap (λ o. option_map_or (λ (r : HoldingHistoryRow). r.after) o (pos 0)) (own_row base t front back k c)
    ∙ by_test (has_quantity_change row) refl
    ∙ opened_qty (deal_of_trade t) us (All-map us (λ s e. eqb-false s.trade t.id e) none)
  where
    us : List Share
    us = left_by front

    row : HoldingHistoryRow
    row = row_by us (deal_of_trade t) t

    none : Without t.id us
    none = (none_yet front (t ∷ back) (placed_order base t front back k)).0

    still : not (is_zero (row.before -ℤ row.after)) ≡ false → pos 0 ≡ row.after
    still e =
        let d : row.before -ℤ row.after ≡ pos 0 = zero_is (row.before -ℤ row.after) (not_not (is_zero (row.before -ℤ row.after)) e) in
        let b : row.before ≡ pos 0 = lot_without t.id us none in
        zero_too row.before row.after b d
      where
        zero_too : (x y : ℤ) → x ≡ pos 0 → x -ℤ y ≡ pos 0 → pos 0 ≡ y
        zero_too x y b d = omega (arith, ints, b, d)

    by_test : (b : Bool) → has_quantity_change row ≡ b
        → option_map_or (λ (r : HoldingHistoryRow). r.after) (cond b (Some row) None) (pos 0) ≡ lot_quantity (shares_after_deal us (deal_of_trade t)) t.id
    by_test true e = refl
    by_test false e = still e
