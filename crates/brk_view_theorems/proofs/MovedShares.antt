-- The changes of lots by a trade sum to its signed quantity.
use Rattle.std.proofs.Common.{◌≡◌, ℕ, ◌==◌, ◌&&◌, Bool, true, false, List, [], ◌∷◌, ◌++◌, Some, refl, sym, ◌∙◌, ap, subst, map, filter, arith, ℤ, pos, ◌+ℤ◌, ◌-ℤ◌, ◌*ℤ◌}
use Rattle.std.specs.List.{AllByRecursion}
use Rattle.std.proofs.lemmas.Bool.{eq-eqb}
use Rattle.std.proofs.lemmas.Int.{ints}
use Rattle.brk_model.specs.Base.{Base, completed_trades, is_completed, last_status_stamp_of_trade, trade_with_id}
use Rattle.brk_model.specs.Derived.{deal_of_trade, trades_of_position}
use Rattle.brk_model.specs.Keys.{holding_history_key, is_row_key_less}
use Rattle.brk_model.specs.Lists.{is_zero, total_by}
use Rattle.brk_model.specs.Records.{Trade}
use Rattle.brk_model.specs.Shares.{Deal, Share, lot_quantity, net_share_count, opened_share, shares_after_deal, signed_by_side}
use Rattle.brk_model.specs.Tables.{HoldingHistoryRow}
use Rattle.brk_lots.specs.HistoryRows.{has_quantity_change}
use Rattle.brk_lots.proofs.Deals.{all_after}
use Rattle.brk_trade_books.specs.Books.{BooksInvariant}
use Rattle.brk_trade_books.proofs.Completing.{is_here, of_here}
use Rattle.brk_trade_books.proofs.LotOrder.{held_in_order, trades_held}
use Rattle.brk_trade_books.proofs.LotReading.{IdsApart, filter-both}
use Rattle.brk_trade_books.proofs.Same.{All-map, All-mapped, All-of, total_by-same}
use Rattle.brk_trade_books.proofs.SumReading.{found_each, total-map}
use Rattle.brk_trade_books.proofs.Tested.{All-back, All-front, not_not}
use Rattle.brk_view_theorems.specs.Gains.{LotChangesSumToQuantity}
use Rattle.brk_view_theorems.proofs.GainLaws.{some_of_all}
use Rattle.brk_view_theorems.proofs.Held.{all_replayed, left_by, order_apart, placed}
use Rattle.brk_view_theorems.proofs.LotGains.{IsHeld, at_one, zero_is}
use Rattle.brk_view_theorems.proofs.Products.{times_one, total_less}
use Rattle.brk_view_theorems.proofs.Replays.{net_step}
use Rattle.brk_view_theorems.proofs.SortedRows.{Split, by, total_sorted}
use Rattle.brk_view_theorems.proofs.TradeRows.{IsPlaced, passes, row_by, rows_found}

only_own : (id : ℕ) (r : HoldingHistoryRow) → (r.trade == id) ≡ false → (r.trade == id) ≡ false
only_own id r e = e

-- the shares of the lots of all trades of a position
lots_net : (ts : List Trade) (us : List Share) → IdsApart ts → AllByRecursion (IsHeld ts) us → total_by (λ v. lot_quantity us v.id) ts ≡ net_share_count us
lots_net ts us a h =
    total_by-same (λ v. lot_quantity us v.id) (λ v. lot_quantity us v.id *ℤ pos 1) ts (All-of ts (λ v. sym (times_one (lot_quantity us v.id)))) ∙ at_one ts 1 us a h ∙ times_one (net_share_count us)

of_placed : (base : Base) (t : Trade) (front back : List Trade) → IsPlaced base t front back → LotChangesSumToQuantity base t
of_placed base t front back k =
    ap (total_by moved) (rows_found base t front back k E (only_own t.id))
    ∙ total_sorted moved (is_row_key_less holding_history_key) (map row (filter (λ v. is_here t v && passes E us t v) (completed_trades base)))
    ∙ total-map moved row (filter (λ v. is_here t v && passes E us t v) (completed_trades base))
    ∙ ap (total_by (λ v. moved (row v))) (filter-both (is_here t) (passes E us t) (completed_trades base) ∙ ap (filter (passes E us t)) (of_here t (completed_trades base)))
    ∙ some_of_all (λ v. moved (row v)) (passes E us t) P (All-of P none)
    ∙ sym (total_sorted (λ v. moved (row v)) (by last_status_stamp_of_trade) P)
    ∙ total_less (λ v. lot_quantity vs v.id) (λ v. lot_quantity us v.id) W
    ∙ (λ i. lots_net W vs apart after i -ℤ lots_net W us apart before i)
    ∙ ap (λ z. z -ℤ net_share_count us) (net_step (map deal_of_trade front) d) ∙ difference (net_share_count us) (signed_by_side d.side d.qty)
  where
    d : Deal
    d = deal_of_trade t

    us : List Share
    us = left_by front

    vs : List Share
    vs = shares_after_deal us d

    W : List Trade
    W = trades_held base t.account t.symbol

    P : List Trade
    P = trades_of_position (completed_trades base) t.account t.symbol

    E : HoldingHistoryRow → Bool
    E r = r.trade == t.id

    row : Trade → HoldingHistoryRow
    row = row_by us d

    moved : HoldingHistoryRow → ℤ
    moved r = r.after -ℤ r.before

    apart : IdsApart W
    apart = order_apart W (held_in_order base t.account t.symbol k.books)

    held : AllByRecursion (λ v. IsHeld W (opened_share (deal_of_trade v))) (front ++ t ∷ back)
    held = subst (AllByRecursion (λ v. IsHeld W (opened_share (deal_of_trade v)))) k.stands (All-map W (λ v e. (v, e, refl)) (found_each W apart))

    before : AllByRecursion (IsHeld W) us
    before =
        all_replayed (IsHeld W) (map deal_of_trade front) []
        (All-mapped (λ e. IsHeld W (opened_share e)) deal_of_trade front (All-front (λ v. IsHeld W (opened_share (deal_of_trade v))) front (t ∷ back) held)) tt

    after : AllByRecursion (IsHeld W) vs
    after = all_after (IsHeld W) d us (All-back (λ v. IsHeld W (opened_share (deal_of_trade v))) front (t ∷ back) held).0 before

    still : (x y : ℤ) → x -ℤ y ≡ pos 0 → y -ℤ x ≡ pos 0
    still x y e = omega (arith, ints, e)

    none : (v : Trade) → passes E us t v ≡ false → moved (row v) ≡ pos 0
    none v e =
        let f : has_quantity_change (row v) ≡ false = sym (ap (λ b. b && has_quantity_change (row v)) (eq-eqb t.id t.id refl)) ∙ e in
        still (row v).before (row v).after (zero_is ((row v).before -ℤ (row v).after) (not_not (is_zero ((row v).before -ℤ (row v).after)) f))

    difference : (x y : ℤ) → (x +ℤ y) -ℤ x ≡ y
    difference x y = omega (arith, ints)

pub moves_its_shares : (base : Base) (t : Trade) → BooksInvariant base → trade_with_id base t.id ≡ Some t → is_completed t ≡ true → LotChangesSumToQuantity base t
moves_its_shares base t books found c =
    let s : Split Trade t (trades_held base t.account t.symbol) = placed base t found c in
    of_placed base t s.front s.back (record { books = books; found = found; stands = s.stands })
