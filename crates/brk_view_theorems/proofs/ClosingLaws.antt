-- The closings of a trade add up to the values of its deal.
use Rattle.std.proofs.Common.{◌≡◌, ◌≤◌, ℕ, ◌+◌, ◌*◌, ◌-◌, min, Bool, true, false, List, ◌∷◌, ◌++◌, Some, length, map, nat_abs, sum_by, refl, sym, ◌∙◌, ap, subst, arith, pos, ◌-ℤ◌}
use Rattle.std.specs.Prelude.{option_map}
use Rattle.std.specs.Option.{option_map_or}
use Rattle.std.specs.List.{AllByRecursion}
use Rattle.std.proofs.lemmas.Int.{ints}
use Rattle.std.proofs.lemmas.List.{length-reverse}
use Rattle.brk_money.specs.declared.side.Side.{Side}
use Rattle.brk_money.specs.declared.side.Side.TheVariants.{Buy, Sell}
use Rattle.brk_model.specs.Base.{Base, is_completed, completion_price, trade_with_id}
use Rattle.brk_model.specs.Derived.{deal_of_trade}
use Rattle.brk_model.specs.Records.{Trade}
use Rattle.brk_model.specs.Shares.{Deal, Share, buy_value, closed_share_count_of_deal, sell_value, signed_by_side}
use Rattle.brk_model.specs.Sheets.{sheets}
use Rattle.brk_model.specs.Tables.{HoldingHistoryRow, Tables, trade_row}
use Rattle.brk_lots.specs.Lots.{list_reversed_if_lifo, shares_of_lots}
use Rattle.brk_lots.specs.Position.{IsPositionInAnyOrder}
use Rattle.brk_lots.specs.Values.{closing_values_of_deal}
use Rattle.brk_lots.specs.ClosedValues.{closing_values_by_side, buy_value_by_side, sell_value_by_side}
use Rattle.brk_lots.specs.Walks.{cost_of_first_shares, touches_of_first_shares}
use Rattle.brk_lots.specs.declared.lot.Lot.{Lot}
use Rattle.brk_lots.specs.declared.closed_values.Values.{Values}
use Rattle.brk_lots.proofs.Books.{count_fits}
use Rattle.brk_lots.proofs.Closed.{values_are}
use Rattle.brk_lots.proofs.Ends.{all_end, shares_end, walk_of}
use Rattle.brk_lots.proofs.Upon.{met_closes}
use Rattle.brk_model_explain.specs.Trades.{buy_value_of_closings, closings_of_trade, trade_price_or_zero, opened_lot_row, completion_price_or_zero}
use Rattle.brk_model_explain.specs.Trades.{sell_value_of_closings, shares_of_closing, total_closed_shares}
use Rattle.brk_trade_books.specs.Books.{BooksInvariant}
use Rattle.brk_trade_books.proofs.LotOrder.{InOrder, of_held, trades_held}
use Rattle.brk_trade_books.proofs.Same.{All-map}
use Rattle.brk_trade_books.proofs.Tested.{All-front}
use Rattle.brk_trade_books.proofs.TradeReading.{reads_trade}
use Rattle.brk_view_theorems.specs.Before.{shares_before_trade}
use Rattle.brk_view_theorems.specs.Closings.{HoldsForAllButLast, PrintedClosingsMatchDeal, ClosesWholeLot}
use Rattle.brk_view_theorems.proofs.ClosedLots.{closing_at, closings_are, taken_by}
use Rattle.brk_view_theorems.proofs.Held.{front_in_order, left_all, left_by, lots_by, lots_position, lots_shares, placed, shares_are}
use Rattle.brk_view_theorems.proofs.OwnLots.{own_qty}
use Rattle.brk_view_theorems.proofs.SortedRows.{Split}
use Rattle.brk_view_theorems.proofs.Taken.{all_at, all_paid, all_taken, buys, none_left, sells}
use Rattle.brk_view_theorems.proofs.TradeRows.{IsPlaced, done_found, placed_order}

pub price_is : (base : Base) (t : Trade) → trade_with_id base t.id ≡ Some t → trade_price_or_zero (sheets base) t.id ≡ completion_price t
price_is base t e = ap (λ o. option_map_or completion_price_or_zero o 0) (reads_trade base t.id ∙ ap (option_map trade_row) e)

length_end : {X : Type 0} (lifo : Bool) (xs : List X) → length (list_reversed_if_lifo lifo xs) ≡ length xs
length_end true xs = length-reverse xs
length_end false xs = refl

back_to : (s : Side) (n : ℕ) → nat_abs (signed_by_side s n) ≡ n
back_to Buy n = refl
back_to Sell n = omega (arith, ints)

-- of a trade that stands among those of its position
of_placed : (base : Base) (t : Trade) (front back : List Trade) → IsPlaced base t front back → is_completed t ≡ true → PrintedClosingsMatchDeal base t
of_placed base t front back k c = record {
  bought = buy ∙ ap (buy_value d) (sym before);
  sold = sell ∙ ap (sell_value d) (sym before);
  gained = λ i. pos ((sell ∙ ap (sell_value d) (sym before)) i) -ℤ pos ((buy ∙ ap (buy_value d) (sym before)) i);
  taken = count ∙ ap (closed_share_count_of_deal d) (sym before);
  lot = opens ∙ ap (λ vs. signed_by_side d.side (d.qty - closed_share_count_of_deal d vs)) (sym before);
  quantity = (λ i. count i + (ap nat_abs opens ∙ back_to d.side (d.qty - closed_share_count_of_deal d us)) i) ∙ whole (closed_share_count_of_deal d us) d.qty (count_fits d us).0;
  left = subst (HoldsForAllButLast ClosesWholeLot) (sym closings) (none_left T t.id n walk);
}
  where
    T : Tables
    T = sheets base

    d : Deal
    d = deal_of_trade t

    us : List Share
    us = left_by front

    ls : List Lot
    ls = lots_by front

    walk : List Lot
    walk = list_reversed_if_lifo t.is_lifo ls

    n : ℕ
    n = taken_by t front

    o : InOrder (front ++ t ∷ back)
    o = placed_order base t front back k

    first : InOrder front
    first = front_in_order front (t ∷ back) o

    w : IsPositionInAnyOrder ls
    w = walk_of ls (lots_position front first)

    before : shares_before_trade base t ≡ us
    before = shares_are base t front back k.stands o

    shares : shares_of_lots ls ≡ us
    shares = lots_shares front first

    closings : closings_of_trade T (trade_row t) ≡ map (closing_at T t.id) (touches_of_first_shares n walk)
    closings = closings_are base t front back k

    closed : n ≡ closed_share_count_of_deal d us
    closed = met_closes d ls w ∙ ap (closed_share_count_of_deal d) shares

    lengths : length (shares_of_lots walk) ≡ length us
    lengths = ap length (shares_end t.is_lifo ls) ∙ length_end t.is_lifo (shares_of_lots ls) ∙ ap length shares

    all : total_closed_shares (map (closing_at T t.id) (touches_of_first_shares n walk)) ≡ n
    all = all_taken T t.id n walk ∙ least n (length (shares_of_lots walk)) (fits (count_fits d us).1)
      where
        fits : closed_share_count_of_deal d us ≤ length us → n ≤ length (shares_of_lots walk)
        fits h = omega (arith, h, closed, lengths)

        least : (a b : ℕ) → a ≤ b → min a b ≡ a
        least a b h = omega (arith, h)

    count : total_closed_shares (closings_of_trade T (trade_row t)) ≡ closed_share_count_of_deal d us
    count = ap total_closed_shares closings ∙ all ∙ closed

    prices : AllByRecursion (λ l. trade_price_or_zero T l.trade ≡ l.price) walk
    prices =
        all_end (λ l. trade_price_or_zero T l.trade ≡ l.price) t.is_lifo ls
        (left_all (λ l. trade_price_or_zero T l.trade ≡ l.price) us front
        (All-map front (λ v e. price_is base v e)
        (All-front (λ v. trade_with_id base v.id ≡ Some v) front (t ∷ back)
        (subst (AllByRecursion (λ v. trade_with_id base v.id ≡ Some v)) k.stands (of_held (λ v. trade_with_id base v.id ≡ Some v) base t.account t.symbol (done_found base k.books))))))

    at_price : sum_by (λ x. shares_of_closing x * d.price) (map (closing_at T t.id) (touches_of_first_shares n walk)) ≡ n * d.price
    at_price = all_at d.price (map (closing_at T t.id) (touches_of_first_shares n walk)) ∙ ap (λ m. m * d.price) all

    at_cost : sum_by (λ x. shares_of_closing x * x.price) (map (closing_at T t.id) (touches_of_first_shares n walk)) ≡ cost_of_first_shares n walk
    at_cost = all_paid T t.id n walk prices

    values : closing_values_by_side d.side (n * d.price) (cost_of_first_shares n walk) ≡ closing_values_of_deal d us
    values = values_are d ls w ∙ ap (closing_values_of_deal d) shares

    buy : buy_value_of_closings d.side d.price (closings_of_trade T (trade_row t)) ≡ buy_value d us
    buy = ap (buy_value_of_closings d.side d.price) closings ∙ buys d.side d.price (map (closing_at T t.id) (touches_of_first_shares n walk))
        ∙ (λ i. buy_value_by_side d.side (at_price i) (at_cost i)) ∙ ap (λ (v : Values). v.buy_value) values

    sell : sell_value_of_closings d.side d.price (closings_of_trade T (trade_row t)) ≡ sell_value d us
    sell = ap (sell_value_of_closings d.side d.price) closings ∙ sells d.side d.price (map (closing_at T t.id) (touches_of_first_shares n walk))
        ∙ (λ i. sell_value_by_side d.side (at_price i) (at_cost i)) ∙ ap (λ (v : Values). v.sell_value) values

    opens : option_map_or (λ (r : HoldingHistoryRow). r.after) (opened_lot_row T t.id) (pos 0) ≡ signed_by_side d.side (d.qty - closed_share_count_of_deal d us)
    opens = own_qty base t front back k c

    whole : (m q : ℕ) → m ≤ q → m + (q - m) ≡ q
    whole m q h = omega (arith, h)

pub closes_as_told : (base : Base) (t : Trade) → BooksInvariant base → trade_with_id base t.id ≡ Some t → is_completed t ≡ true → PrintedClosingsMatchDeal base t
closes_as_told base t books found c =
    let s : Split Trade t (trades_held base t.account t.symbol) = placed base t found c in
    of_placed base t s.front s.back (record { books = books; found = found; stands = s.stands }) c
