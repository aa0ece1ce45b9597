-- The rows of a closing are the changes that its deal makes to the shares of the position.
use Rattle.std.proofs.Common.{◌≡◌, ◌≢◌, ℕ, ◌+◌, ◌-◌, eqb, Bool, true, false, not, cond, List, [], ◌∷◌, ◌++◌, Option, drop, map, reverse, replicate, refl, sym, ap, ◌∙◌, append-nil}
use Rattle.std.specs.List.{filter}
use Rattle.std.specs.Option.{option_to_list}
use Rattle.std.proofs.lemmas.List.{map-append}
use Rattle.std.proofs.lemmas.List.Elements.{filter-append}
use Rattle.std.proofs.lemmas.List.Sums.{sum_by-append}
use Rattle.brk_model.specs.Shares as model
use Rattle.brk_model.specs.Shares.{Share, Deal, first_shares_of_lots, lots_of_shares, touches_of_existing_lots, opened_share, closed_share_count_of_deal, shares_after_deal}
use Rattle.brk_lots.specs.declared.closing.Closing.{Closing}
use Rattle.brk_lots.specs.declared.lot.Lot.{Lot}
use Rattle.brk_lots.specs.declared.lot.Touch.{Touch}
use Rattle.brk_lots.specs.Closing.{AreLotsTouchedByDeal, IsClosingOfDeal}
use Rattle.brk_lots.specs.Lots.{share_of_lot, shares_of_lots, list_reversed_if_lifo, abstract_lot, abstract_touch}
use Rattle.brk_lots.specs.Position.{IsPositionInAnyOrder, AreOpenedByOtherTrades}
use Rattle.brk_lots.specs.Walks.{closed_share_count, touches_of_first_shares}
use Rattle.brk_lots.proofs.Runs.{count_of, without, run_lots}
use Rattle.brk_lots.proofs.Changes.{row, changes, firsts_walk, changes_walk}
use Rattle.brk_lots.proofs.Ends.{reverse_first, all_end, walk_end, shares_end, without_end, shares_reverse, met_end}
use Rattle.brk_lots.proofs.Counts.{OneSide, all_shares, walk_side}
use Rattle.brk_lots.proofs.Deals.{all_without}
use Rattle.brk_lots.proofs.Plain.{after_is, touches_are, lots_alike, met_is}

-- True if the number `before` of the trade of the share `u` differs from the number `after`.
abbrev changed : (ℕ → ℕ) → (ℕ → ℕ) → Share → Bool
changed before after u = not (eqb (before u.trade) (after u.trade))

rows_same : (b b' a a' : ℕ → ℕ) → ((t : ℕ) → b t ≡ b' t) → ((t : ℕ) → a t ≡ a' t) → (us : List Share) → map (row b a) (filter (changed b a) us) ≡ map (row b' a') (filter (changed b' a') us)
rows_same b b' a a' e f [] = refl
rows_same b b' a a' e f (u ∷ us) = rw (e u.trade, f u.trade) (step (changed b' a' u) (rows_same b b' a a' e f us)) where
  step : (c : Bool) → map (row b a) (filter (changed b a) us) ≡ map (row b' a') (filter (changed b' a') us)
      → map (row b a) (cond c (u ∷ filter (changed b a) us) (filter (changed b a) us))
      ≡ map (row b' a') (cond c (u ∷ filter (changed b' a') us) (filter (changed b' a') us))
  step true h = let r : row b a u ≡ row b' a' u = rw (e u.trade, f u.trade) refl in rw (r, h) refl
  step false h = h

filter_reverse : (p : Share → Bool) (us : List Share) → filter p (reverse us) ≡ reverse (filter p us)
filter_reverse p [] = refl
filter_reverse p (u ∷ us) =
    ap (filter p) (reverse_first u us) ∙ filter-append p (reverse us) (u ∷ [])
    ∙ ap (λ (vs : List Share). vs ++ filter p (u ∷ [])) (filter_reverse p us) ∙ each (p u) where
      each : (b : Bool) → reverse (filter p us) ++ cond b (u ∷ []) [] ≡ reverse (cond b (u ∷ filter p us) (filter p us))
      each true = sym (reverse_first u (filter p us))
      each false = append-nil (reverse (filter p us))

map_reverse : {X Y : Type 0} (f : X → Y) (us : List X) → map f (reverse us) ≡ reverse (map f us)
map_reverse f [] = refl
map_reverse {X} {Y} f (u ∷ us) =
    ap (map f) (reverse_first u us) ∙ map-append f (reverse us) (u ∷ [])
    ∙ ap (λ (vs : List Y). vs ++ f u ∷ []) (map_reverse f us) ∙ sym (reverse_first (f u) (map f us))

-- a walk from an end has the rows of the position, from that end
pub changes_end : (lifo : Bool) (k r : ℕ) (u : Share) (ls : List Lot) → IsPositionInAnyOrder ls
    → changes (shares_of_lots (list_reversed_if_lifo lifo ls)) (drop k (shares_of_lots (list_reversed_if_lifo lifo ls)) ++ replicate r u)
    ≡ list_reversed_if_lifo lifo (changes (shares_of_lots ls) (without lifo k (shares_of_lots ls) ++ replicate r u))
changes_end false k r u ls w = refl
changes_end true k r u ls w =
    let us = shares_of_lots ls in
    let vs = shares_of_lots (reverse ls) in
    let b = λ (t : ℕ). count_of t vs in
    let a = λ (t : ℕ). count_of t (drop k vs ++ replicate r u) in
    let b' = λ (t : ℕ). count_of t us in
    let a' = λ (t : ℕ). count_of t (without true k us ++ replicate r u) in
    let e : (t : ℕ) → b t ≡ b' t = λ t. ap (count_of t) (shares_end true ls) ∙ shares_reverse t us in
    let d : (t : ℕ) → count_of t (drop k vs) ≡ count_of t (without true k us) = λ t. sym (shares_reverse t (drop k vs))
    ∙ ap (λ (ws : List Share). count_of t (reverse (drop k ws))) (shares_end true ls) ∙ ap (count_of t) (without_end true k us) in
    let f : (t : ℕ) → a t ≡ a' t = λ t.
    sum_by-append (λ (v : Share). cond (eqb v.trade t) 1 0) (drop k vs) (replicate r u)
    ∙ ap (λ n. n + count_of t (replicate r u)) (d t)
    ∙ sym (sum_by-append (λ (v : Share). cond (eqb v.trade t) 1 0) (without true k us) (replicate r u)) in
    ap (λ (ws : List Share). map (row b a) (filter (changed b a) ws)) (firsts_walk (reverse ls) (walk_end true ls w) ∙ map_reverse share_of_lot ls ∙ ap reverse (sym (firsts_walk ls w)))
    ∙ rows_same b b' a a' e f (reverse (first_shares_of_lots us))
    ∙ ap (map (row b' a')) (filter_reverse (changed b' a') (first_shares_of_lots us))
    ∙ map_reverse (row b' a') (filter (changed b' a') (first_shares_of_lots us))

-- ---- what the definitions say of the rows, and back

map_end : {X Y : Type 0} (f : X → Y) (lifo : Bool) (xs : List X) → map f (list_reversed_if_lifo lifo xs) ≡ list_reversed_if_lifo lifo (map f xs)
map_end f true xs = map_reverse f xs
map_end f false xs = refl

touches_same : (xs ys : List Touch) → map abstract_touch xs ≡ map abstract_touch ys → xs ≡ ys
touches_same [] [] e = refl
touches_same [] (y ∷ ys) e = cc
touches_same (x ∷ xs) [] e = cc
touches_same (x ∷ xs) (y ∷ ys) e =
    let here : abstract_touch x ≡ abstract_touch y = cc in
    let rest : map abstract_touch xs ≡ map abstract_touch ys = cc in
    let same : x ≡ y = ap (λ (t : model.Touch). record { lot = t.lot; before = t.before; after = t.after }) here in
    ap (λ (t : Touch). t ∷ xs) same ∙ ap (λ (ts : List Touch). y ∷ ts) (touches_same xs ys rest)

lots_same : (xs ys : List Lot) → map abstract_lot xs ≡ map abstract_lot ys → xs ≡ ys
lots_same [] [] e = refl
lots_same [] (y ∷ ys) e = cc
lots_same (x ∷ xs) [] e = cc
lots_same (x ∷ xs) (y ∷ ys) e =
    let here : abstract_lot x ≡ abstract_lot y = cc in
    let rest : map abstract_lot xs ≡ map abstract_lot ys = cc in
    let same : x ≡ y = ap (λ (l : model.Lot). record { trade = l.trade; price = l.price; qty = l.qty; stamp = l.stamp }) here in
    ap (λ (l : Lot). l ∷ xs) same ∙ ap (λ (ls : List Lot). y ∷ ls) (lots_same xs ys rest)

-- as many shares are met from either end as the deal closes
pub met_closes : (d : Deal) (ls : List Lot) → IsPositionInAnyOrder ls → closed_share_count d.side d.qty (list_reversed_if_lifo d.is_lifo ls) ≡ closed_share_count_of_deal d (shares_of_lots ls)
met_closes d ls w = met_end d.is_lifo d.side d.qty ls w ∙ met_is d ls w

-- the rows that the walk writes are the touches of the deal
pub rows_are : (d : Deal) (ls : List Lot) → IsPositionInAnyOrder ls → AreOpenedByOtherTrades d.trade ls
    → map abstract_touch (touches_of_first_shares (closed_share_count d.side d.qty (list_reversed_if_lifo d.is_lifo ls)) (list_reversed_if_lifo d.is_lifo ls))
    ≡ list_reversed_if_lifo d.is_lifo (touches_of_existing_lots d (shares_of_lots ls))
rows_are d ls w fresh =
    let us = shares_of_lots ls in
    let k = closed_share_count d.side d.qty (list_reversed_if_lifo d.is_lifo ls) in
    let u = opened_share d in
    let same : k ≡ closed_share_count_of_deal d us = met_closes d ls w in
    let side = walk_side ls w in
    let one : OneSide side.0 us = all_shares (λ v. v.side ≡ side.0) ls side.1 in
    let left : OneSide side.0 (without d.is_lifo (closed_share_count_of_deal d us) us) = all_without (λ v. v.side ≡ side.0) d.is_lifo (closed_share_count_of_deal d us) us one in
    let after : without d.is_lifo k us ++ replicate (d.qty - k) u ≡ shares_after_deal us d =
    ap (λ n. without d.is_lifo n us ++ replicate (d.qty - n) u) same ∙ sym (after_is d us) in
    ap (map abstract_touch) (sym (changes_walk k (d.qty - k) u (list_reversed_if_lifo d.is_lifo ls) (walk_end d.is_lifo ls w) (all_end (λ l. l.trade ≢ d.trade) d.is_lifo ls fresh))
    ∙ changes_end d.is_lifo k (d.qty - k) u ls w
    ∙ ap (λ (vs : List Share). list_reversed_if_lifo d.is_lifo (changes us vs)) after)
    ∙ map_end abstract_touch d.is_lifo (changes us (shares_after_deal us d))
    ∙ ap (list_reversed_if_lifo d.is_lifo) (sym (touches_are d side.0 us one left (all_shares (λ v. v.trade ≢ d.trade) ls fresh)))

-- what the loop takes are the lots that the deal touches
pub lots_closed : (d : Deal) (ls : List Lot) (rows : List Touch) (lot : Option Lot) → IsPositionInAnyOrder ls → AreOpenedByOtherTrades d.trade ls
    → let walk = list_reversed_if_lifo d.is_lifo ls in let k = closed_share_count d.side d.qty walk in
    rows ≡ touches_of_first_shares k walk
    → map abstract_lot (option_to_list lot) ≡ lots_of_shares (replicate (d.qty - k) (opened_share d))
    → AreLotsTouchedByDeal d ls rows lot
lots_closed d ls rows lot w fresh taken left = record {
  touched = ap (map abstract_touch) taken ∙ rows_are d ls w fresh;
  opened = left ∙ ap (λ n. lots_of_shares (replicate (d.qty - n) (opened_share d))) (met_closes d ls w);
}

-- and back: the rows and the opened lot of a closing are those that the loop takes
pub rows_back : (d : Deal) (ls : List Lot) (closing : Closing) → IsPositionInAnyOrder ls → AreOpenedByOtherTrades d.trade ls → IsClosingOfDeal d ls closing
    → closing.touched.items ≡ touches_of_first_shares (closed_share_count d.side d.qty (list_reversed_if_lifo d.is_lifo ls)) (list_reversed_if_lifo d.is_lifo ls)
rows_back d ls closing w fresh h = touches_same _ _ (h.lots.touched ∙ sym (rows_are d ls w fresh))

pub opened_back : (d : Deal) (ls : List Lot) (closing : Closing) → IsClosingOfDeal d ls closing
    → option_to_list closing.opened ≡ run_lots (d.qty - closed_share_count_of_deal d (shares_of_lots ls)) (opened_share d)
opened_back d ls closing h = lots_same _ _ (h.lots.opened ∙ lots_alike (d.qty - closed_share_count_of_deal d (shares_of_lots ls)) (opened_share d))
