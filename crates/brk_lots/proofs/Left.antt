-- The lots that the rows of a closing leave of a position, and their shares.
use Rattle.std.proofs.Common.{◌≡◌, ◌≢◌, ℕ, zero, suc, ℤ, pos, ◌-◌, ◌<◌, min, eqb, Bool, true, false, cond, List, [], ◌∷◌, ◌++◌, length, drop, replicate}
use Rattle.std.proofs.Common.{reverse, unsigned_abs, refl, sym, ap, ◌∙◌, subst, arith, append-nil, inl, inr}
use Rattle.std.specs.List.{AllByRecursion}
use Rattle.std.specs.Option.{option_to_list}
use Rattle.std.specs.Ordering.{int_eq}
use Rattle.std.proofs.lemmas.List.{length-take, length-drop, reverse-append, reverse-reverse}
use Rattle.std.proofs.lemmas.List.Concat.{flat_map-append}
use Rattle.std.proofs.lemmas.Bool.{eq-eqb, ne_eqb, cases_Bool}
use Rattle.std.proofs.lemmas.Bool.Decides.{Decides-int_eq}
use Rattle.std.proofs.lemmas.Int.{ints}
use Rattle.brk_money.specs.Kinds.{is_same_side}
use Rattle.brk_money.specs.declared.side.Side.{Side}
use Rattle.brk_money.specs.declared.side.Side.TheVariants.{Buy, Sell}
use Rattle.brk_model.specs.Shares.{Share, Deal, signed_by_side, opened_share, shares_after_deal}
use Rattle.brk_lots.specs.declared.lot.Lot.{Lot}
use Rattle.brk_lots.specs.declared.lot.Touch.{Touch}
use Rattle.brk_lots.specs.declared.closing.Closing.{Closing}
use Rattle.brk_lots.specs.Closing.{IsApplicableClosing}
use Rattle.brk_lots.specs.Lots.{side_of_qty, share_of_lot, shares_of_lots, list_reversed_if_lifo}
use Rattle.brk_lots.specs.Position.{HasSameSideAndOtherTrade, IsPositionInAnyOrder, PrecedesInPosition, IsPosition, AreOpenedByOtherTrades, AreOpenedBeforeStamp}
use Rattle.brk_lots.specs.Walks.{closed_share_count, touches_of_first_shares, quantity_after_touches, lot_with_nonzero_quantity, rest_of_lot_after_touches, lots_after_touches}
use Rattle.brk_lots.proofs.Runs.{without, run_lots, size_positive, signed_back, drop_run, length_run}
use Rattle.brk_lots.proofs.Walks.{touches_none}
use Rattle.brk_lots.proofs.Changes.{all_from}
use Rattle.brk_lots.proofs.Ends.{walk_end, walk_of, shares_end, without_end, all_join, all_reverse, met_end, met_all}
use Rattle.brk_lots.proofs.Plain.{met_is, after_is}
use Rattle.brk_lots.proofs.Upon.{rows_back, opened_back}

-- The lot `l` with the given number of shares, as a list of one element, or the empty list for 0
-- shares.
abbrev pub with_shares : ℕ → Lot → List Lot
with_shares zero l = []
with_shares (suc m) l = record { trade = l.trade; price = l.price; qty = signed_by_side (side_of_qty l.qty) (suc m); stamp = l.stamp } ∷ []

-- The lots without their first `k` shares; a lot without shares is not in the list.
abbrev pub kept : ℕ → List Lot → List Lot
kept k [] = []
kept k (l ∷ ls) = with_shares (unsigned_abs l.qty - k) l ++ kept (k - unsigned_abs l.qty) ls

qty_first : (k : ℕ) (l : Lot) (ls : List Lot) → quantity_after_touches (touches_of_first_shares k (l ∷ ls)) l ≡ signed_by_side (side_of_qty l.qty) (unsigned_abs l.qty - k)
qty_first zero l ls = let e : unsigned_abs l.qty - 0 ≡ unsigned_abs l.qty = omega arith in rw e (sym (signed_back l.qty))
qty_first (suc k) l ls =
    let more : eqb (suc k) 0 ≡ false = ne_eqb (suc k) 0 (λ e. absurd (omega arith)) in
    rw (more, eq-eqb l.trade l.trade refl) refl

qty_rest : (k : ℕ) (l m : Lot) (ls : List Lot) → m.trade ≢ l.trade
    → quantity_after_touches (touches_of_first_shares k (l ∷ ls)) m ≡ quantity_after_touches (touches_of_first_shares (k - unsigned_abs l.qty) ls) m
qty_rest zero l m ls h = let e : 0 - unsigned_abs l.qty ≡ 0 = omega arith in rw (e, touches_none ls) refl
qty_rest (suc k) l m ls h =
    let more : eqb (suc k) 0 ≡ false = ne_eqb (suc k) 0 (λ e. absurd (omega arith)) in
    rw (more, ne_eqb l.trade m.trade (λ e. h (sym e))) refl

pub int_differ : (x y : ℤ) → x ≢ y → int_eq x y ≡ false
int_differ x y h = elim (cases_Bool (int_eq x y)) [ inl e ↦ absurd (h ((Decides-int_eq x y).0 e)) | inr e ↦ e ]

pub smaller_with : (l : Lot) (m : ℕ) → lot_with_nonzero_quantity (signed_by_side (side_of_qty l.qty) m) l ≡ with_shares m l
smaller_with l m = each (side_of_qty l.qty) m refl where
  each : (s : Side) (n : ℕ) → s ≡ side_of_qty l.qty
      → cond (int_eq (signed_by_side s n) (pos 0)) [] (record { trade = l.trade; price = l.price; qty = signed_by_side s n; stamp = l.stamp } ∷ [])
      ≡ with_shares n l
  each Buy zero e = refl
  each Sell zero e = refl
  each Buy (suc n) e = let d : int_eq (pos (suc n)) (pos 0) ≡ false = int_differ (pos (suc n)) (pos 0) (λ z. omega (arith, ints, z)) in rw (d, ← e) refl
  each Sell (suc n) e = rw (← e) refl

left_with : (ts : List Touch) (l : Lot) (m : ℕ) → quantity_after_touches ts l ≡ signed_by_side (side_of_qty l.qty) m → rest_of_lot_after_touches ts l ≡ with_shares m l
left_with ts l m e = ap (λ q. lot_with_nonzero_quantity q l) e ∙ smaller_with l m

-- rows that agree on lots leave the same of them
left_agree : (ts us : List Touch) (ls : List Lot) → AllByRecursion (λ l. quantity_after_touches ts l ≡ quantity_after_touches us l) ls → lots_after_touches ts ls ≡ lots_after_touches us ls
left_agree ts us [] h = refl
left_agree ts us (l ∷ ls) h =
    let one : rest_of_lot_after_touches ts l ≡ rest_of_lot_after_touches us l = ap (λ q. cond (int_eq q (pos 0)) [] (record { trade = l.trade; price = l.price; qty = q; stamp = l.stamp } ∷ [])) h.0 in
    ap (λ (ms : List Lot). ms ++ lots_after_touches ts ls) one ∙ ap (λ (ms : List Lot). rest_of_lot_after_touches us l ++ ms) (left_agree ts us ls h.1)

pub left_kept : (k : ℕ) (ls : List Lot) → IsPositionInAnyOrder ls → lots_after_touches (touches_of_first_shares k ls) ls ≡ kept k ls
left_kept k [] w = refl
left_kept k (l ∷ ls) w =
    ap (λ (ms : List Lot). ms ++ lots_after_touches (touches_of_first_shares k (l ∷ ls)) ls) (left_with (touches_of_first_shares k (l ∷ ls)) l (unsigned_abs l.qty - k) (qty_first k l ls))
    ∙ ap (λ (ms : List Lot). with_shares (unsigned_abs l.qty - k) l ++ ms) (
    left_agree (touches_of_first_shares k (l ∷ ls)) (touches_of_first_shares (k - unsigned_abs l.qty) ls) ls
    (all_from (HasSameSideAndOtherTrade l) (HasSameSideAndOtherTrade l)
    (λ m. quantity_after_touches (touches_of_first_shares k (l ∷ ls)) m ≡ quantity_after_touches (touches_of_first_shares (k - unsigned_abs l.qty) ls) m)
    (λ m b q. qty_rest k l m ls b.1) ls w.1 w.1)
    ∙ left_kept (k - unsigned_abs l.qty) ls w.2)

-- ---- the shares of what is left

shares_with : (m : ℕ) (l : Lot) (ls : List Lot) → shares_of_lots (with_shares m l ++ ls) ≡ replicate m (share_of_lot l) ++ shares_of_lots ls
shares_with zero l ls = refl
shares_with (suc m) l ls = each (side_of_qty l.qty) refl where
  each : (s : Side) → s ≡ side_of_qty l.qty
      → replicate (unsigned_abs (signed_by_side s (suc m)))
      (record { side = side_of_qty (signed_by_side s (suc m)); trade = l.trade; price = l.price; stamp = l.stamp }) ++ shares_of_lots ls
      ≡ replicate (suc m) (record { side = s; trade = l.trade; price = l.price; stamp = l.stamp }) ++ shares_of_lots ls
  each Buy e = refl
  each Sell e = refl

pub shares_kept : (k : ℕ) (ls : List Lot) → shares_of_lots (kept k ls) ≡ drop k (shares_of_lots ls)
shares_kept zero [] = refl
shares_kept (suc k) [] = refl
shares_kept k (l ∷ ls) =
    shares_with (unsigned_abs l.qty - k) l (kept (k - unsigned_abs l.qty) ls)
    ∙ ap (λ (us : List Share). replicate (unsigned_abs l.qty - k) (share_of_lot l) ++ us) (shares_kept (k - unsigned_abs l.qty) ls)
    ∙ sym (drop_run k (unsigned_abs l.qty) (share_of_lot l) (shares_of_lots ls))

left_reverse : (ts : List Touch) (ls : List Lot) → lots_after_touches ts (reverse ls) ≡ reverse (lots_after_touches ts ls)
left_reverse ts [] = refl
left_reverse ts (l ∷ ls) =
    ap (lots_after_touches ts) (reverse-append (l ∷ []) ls)
    ∙ flat_map-append (rest_of_lot_after_touches ts) (reverse ls) (l ∷ [])
    ∙ ap (λ (ms : List Lot). ms ++ (rest_of_lot_after_touches ts l ++ [])) (left_reverse ts ls)
    ∙ ap (λ (ms : List Lot). reverse (lots_after_touches ts ls) ++ ms) (append-nil (rest_of_lot_after_touches ts l) ∙ one (int_eq (quantity_after_touches ts l) (pos 0)))
    ∙ sym (reverse-append (rest_of_lot_after_touches ts l) (lots_after_touches ts ls)) where
      one : (b : Bool) → cond {A = List Lot} b [] (record { trade = l.trade; price = l.price; qty = quantity_after_touches ts l; stamp = l.stamp } ∷ [])
          ≡ reverse (cond {A = List Lot} b [] (record { trade = l.trade; price = l.price; qty = quantity_after_touches ts l; stamp = l.stamp } ∷ []))
      one true = refl
      one false = refl

pub left_end : (lifo : Bool) (ts : List Touch) (ls : List Lot) → lots_after_touches ts ls ≡ list_reversed_if_lifo lifo (lots_after_touches ts (list_reversed_if_lifo lifo ls))
left_end true ts ls = sym (reverse-reverse (lots_after_touches ts ls)) ∙ ap reverse (sym (left_reverse ts ls))
left_end false ts ls = refl

-- the shares of what is left are the shares without those that were closed, from whichever end
pub shares_left : (lifo : Bool) (k : ℕ) (ls : List Lot) → IsPositionInAnyOrder ls
    → shares_of_lots (lots_after_touches (touches_of_first_shares k (list_reversed_if_lifo lifo ls)) ls) ≡ without lifo k (shares_of_lots ls)
shares_left lifo k ls w =
    let walk = list_reversed_if_lifo lifo ls in
    ap shares_of_lots (left_end lifo (touches_of_first_shares k walk) ls ∙ ap (list_reversed_if_lifo lifo) (left_kept k walk (walk_end lifo ls w)))
    ∙ shares_end lifo (kept k walk)
    ∙ ap (list_reversed_if_lifo lifo) (shares_kept k walk ∙ ap (drop k) (shares_end lifo ls))
    ∙ without_end lifo k (shares_of_lots ls)

-- ---- what is left is a position

-- After the touches `ts` the lot `l` has its side, with some number of shares.
abbrev Shrinks : List Touch → Lot → Type 0
Shrinks ts l = (m : ℕ) × (quantity_after_touches ts l ≡ signed_by_side (side_of_qty l.qty) m)

walk_shrinks : (k : ℕ) (ls : List Lot) → IsPositionInAnyOrder ls → AllByRecursion (Shrinks (touches_of_first_shares k ls)) ls
walk_shrinks k [] w = tt
walk_shrinks k (l ∷ ls) w = (
  (unsigned_abs l.qty - k, qty_first k l ls),
  all_from (HasSameSideAndOtherTrade l) (Shrinks (touches_of_first_shares (k - unsigned_abs l.qty) ls)) (Shrinks (touches_of_first_shares k (l ∷ ls)))
      (λ m b s. (s.0, qty_rest k l m ls b.1 ∙ s.1)) ls w.1 (walk_shrinks (k - unsigned_abs l.qty) ls w.2),
)

end_shrinks : (lifo : Bool) (k : ℕ) (ls : List Lot) → IsPositionInAnyOrder ls → AllByRecursion (Shrinks (touches_of_first_shares k (list_reversed_if_lifo lifo ls))) ls
end_shrinks true k ls w =
    subst (AllByRecursion (Shrinks (touches_of_first_shares k (reverse ls)))) (reverse-reverse ls)
    (all_reverse (Shrinks (touches_of_first_shares k (reverse ls))) (reverse ls) (walk_shrinks k (reverse ls) (walk_end true ls w)))
end_shrinks false k ls w = walk_shrinks k ls w

-- `P` holds for the lot `l` with any number of shares above 0.
abbrev OfShares : (Lot → Type 0) → Lot → Type 0
OfShares P l = (m : ℕ) → AllByRecursion P (with_shares m l)

all_left : (P : Lot → Type 0) (ts : List Touch) (ls : List Lot) → AllByRecursion (Shrinks ts) ls → AllByRecursion (OfShares P) ls → AllByRecursion P (lots_after_touches ts ls)
all_left P ts [] s h = tt
all_left P ts (l ∷ ls) s h =
    all_join P (rest_of_lot_after_touches ts l) (lots_after_touches ts ls) (rw (left_with ts l s.0.0 s.0.1) (h.0 s.0.0)) (all_left P ts ls s.1 h.1)

side_signed : (s : Side) (m : ℕ) → side_of_qty (signed_by_side s (suc m)) ≡ s
side_signed Buy m = refl
side_signed Sell m = refl

pub signed_differs : (s : Side) (m : ℕ) → signed_by_side s (suc m) ≢ pos 0
signed_differs Buy m e = omega (arith, ints, e)
signed_differs Sell m e = omega (arith, ints, e)

after_shares : (l m : Lot) → PrecedesInPosition l m → OfShares (PrecedesInPosition l) m
after_shares l m a zero = tt
after_shares l m a (suc n) = (((side_signed (side_of_qty m.qty) n ∙ a.0.0, a.0.1), a.1), tt)

position_with : (n : ℕ) (l : Lot) (ls : List Lot) → AllByRecursion (PrecedesInPosition l) ls → IsPosition ls → IsPosition (with_shares n l ++ ls)
position_with zero l ls a p = p
position_with (suc n) l ls a p =
    let l' : Lot = record { trade = l.trade; price = l.price; qty = signed_by_side (side_of_qty l.qty) (suc n); stamp = l.stamp } in (
      signed_differs (side_of_qty l.qty) n,
      all_from (PrecedesInPosition l) (PrecedesInPosition l) (PrecedesInPosition l') (λ m b c. ((b.0.0 ∙ sym (side_signed (side_of_qty l.qty) n), b.0.1), b.1)) ls a a,
      p,
    )

position_left : (ts : List Touch) (ls : List Lot) → IsPosition ls → AllByRecursion (Shrinks ts) ls → IsPosition (lots_after_touches ts ls)
position_left ts [] p s = tt
position_left ts (l ∷ ls) p s =
    rw (left_with ts l s.0.0 s.0.1)
    (position_with s.0.0 l (lots_after_touches ts ls)
    (all_left (PrecedesInPosition l) ts ls s.1 (all_from (PrecedesInPosition l) (PrecedesInPosition l) (OfShares (PrecedesInPosition l)) (λ m a b. after_shares l m a) ls p.1 p.1))
    (position_left ts ls p.2 s.1))

position_push : (ls : List Lot) (l : Lot) → IsPosition ls → l.qty ≢ pos 0 → AllByRecursion (λ m. PrecedesInPosition m l) ls → IsPosition (ls ++ l ∷ [])
position_push [] l p n a = (n, tt, tt)
position_push (m ∷ ls) l p n a = (p.0, all_join (PrecedesInPosition m) ls (l ∷ []) p.1 (a.0, tt), position_push ls l p.2 n a.1)

nothing_left : (ls : List Lot) → IsPosition ls → length (shares_of_lots ls) ≡ 0 → ls ≡ []
nothing_left [] p h = refl
nothing_left (l ∷ ls) p h = absurd (omega (arith, size_positive l.qty p.0, length_run (unsigned_abs l.qty) (share_of_lot l) (shares_of_lots ls)))

pub same_is : (a b : Side) → is_same_side a b ≡ true → a ≡ b
same_is Buy Buy e = refl
same_is Buy Sell e = cc
same_is Sell Buy e = cc
same_is Sell Sell e = refl

-- ---- a closing, booked

-- The lot of `n + 1` shares that equal `u`.
abbrev new_lot : Share → ℕ → Lot
new_lot u n = record { trade = u.trade; price = u.price; qty = signed_by_side u.side (suc n); stamp = u.stamp }

shares_opened : (n : ℕ) (u : Share) → shares_of_lots (run_lots n u) ≡ replicate n u
shares_opened zero u = refl
shares_opened (suc n) u = each u.side refl ∙ append-nil (replicate (suc n) u) where
  each : (s : Side) → s ≡ u.side
      → replicate {A = Share} (unsigned_abs (signed_by_side s (suc n)))
      (record { side = side_of_qty (signed_by_side s (suc n)); trade = u.trade; price = u.price; stamp = u.stamp }) ++ []
      ≡ replicate {A = Share} (suc n) (record { side = s; trade = u.trade; price = u.price; stamp = u.stamp }) ++ []
  each Buy e = refl
  each Sell e = refl

pub length_without : (lifo : Bool) (k : ℕ) (us : List Share) → length (without lifo k us) ≡ length us - k
length_without true k us = omega (arith, length-take (length us - k) us)
length_without false k us = length-drop k us

-- where a lot is opened, it may stand after what is left
opened_after : (lifo : Bool) (q n : ℕ) (u : Share) (ls : List Lot) → IsPosition ls → AreOpenedByOtherTrades u.trade ls
    → AllByRecursion (λ l. l.stamp < u.stamp) ls → q - closed_share_count u.side q ls ≡ suc n
    → AllByRecursion (λ m. PrecedesInPosition m (new_lot u n))
    (lots_after_touches (touches_of_first_shares (closed_share_count u.side q ls) (list_reversed_if_lifo lifo ls)) ls)
opened_after lifo q n u [] p f a e = tt
opened_after lifo q n u (l ∷ ls) p f a e = each (is_same_side (side_of_qty l.qty) u.side) refl where
  k : ℕ
  k = closed_share_count u.side q (l ∷ ls)

  w : IsPositionInAnyOrder (l ∷ ls)
  w = walk_of (l ∷ ls) p

  one_side : AllByRecursion (λ m. side_of_qty m.qty ≡ side_of_qty l.qty) (l ∷ ls)
  one_side = (refl, all_from (PrecedesInPosition l) (PrecedesInPosition l) (λ m. side_of_qty m.qty ≡ side_of_qty l.qty) (λ m b c. b.0.0) ls p.1 p.1)

  met_is : k ≡ cond (is_same_side (side_of_qty l.qty) u.side) 0 (min q (length (shares_of_lots (l ∷ ls))))
  met_is = met_all u.side (side_of_qty l.qty) q (l ∷ ls) one_side

  shrinks : AllByRecursion (Shrinks (touches_of_first_shares k (list_reversed_if_lifo lifo (l ∷ ls)))) (l ∷ ls)
  shrinks = end_shrinks lifo k (l ∷ ls) w

  each : (b : Bool) → is_same_side (side_of_qty l.qty) u.side ≡ b
      → AllByRecursion (λ m. PrecedesInPosition m (new_lot u n)) (lots_after_touches (touches_of_first_shares k (list_reversed_if_lifo lifo (l ∷ ls))) (l ∷ ls))
  each true s =
      let side : side_of_qty l.qty ≡ u.side = same_is (side_of_qty l.qty) u.side s in
      let sides : AllByRecursion (λ m. (side_of_qty m.qty ≡ u.side) × (m.stamp < u.stamp)) (l ∷ ls) =
      all_from (λ m. side_of_qty m.qty ≡ side_of_qty l.qty) (λ m. m.stamp < u.stamp) (λ m. (side_of_qty m.qty ≡ u.side) × (m.stamp < u.stamp))
      (λ m b c. (b ∙ side, c)) (l ∷ ls) one_side a in
      all_left (λ m. PrecedesInPosition m (new_lot u n)) (touches_of_first_shares k (list_reversed_if_lifo lifo (l ∷ ls))) (l ∷ ls) shrinks
      (all_from (λ m. (side_of_qty m.qty ≡ u.side) × (m.stamp < u.stamp)) (λ m. m.trade ≢ u.trade) (OfShares (λ m. PrecedesInPosition m (new_lot u n)))
      (λ m b c. before m b.0 b.1 c) (l ∷ ls) sides f) where
        before : (m : Lot) → side_of_qty m.qty ≡ u.side → m.stamp < u.stamp → m.trade ≢ u.trade → OfShares (λ m'. PrecedesInPosition m' (new_lot u n)) m
        before m b c d zero = tt
        before m b c d (suc i) = (((side_signed u.side n ∙ sym (side_signed (side_of_qty m.qty) i ∙ b), λ e. d (sym e)), c), tt)
  each false s =
      let len : length (shares_of_lots (lots_after_touches (touches_of_first_shares k (list_reversed_if_lifo lifo (l ∷ ls))) (l ∷ ls)))
      ≡ length (shares_of_lots (l ∷ ls)) - k = ap length (shares_left lifo k (l ∷ ls) w) ∙ length_without lifo k (shares_of_lots (l ∷ ls)) in
      let all : k ≡ min q (length (shares_of_lots (l ∷ ls))) = met_is ∙ ap (λ b. cond b 0 (min q (length (shares_of_lots (l ∷ ls))))) s in
      let none : lots_after_touches (touches_of_first_shares k (list_reversed_if_lifo lifo (l ∷ ls))) (l ∷ ls) ≡ [] =
      nothing_left (lots_after_touches (touches_of_first_shares k (list_reversed_if_lifo lifo (l ∷ ls))) (l ∷ ls))
      (position_left (touches_of_first_shares k (list_reversed_if_lifo lifo (l ∷ ls))) (l ∷ ls) p shrinks) (omega (arith, len, all, e)) in
      subst (AllByRecursion (λ m. PrecedesInPosition m (new_lot u n))) (sym none) tt

-- ---- a deal upon lots leaves lots

lawful : (lifo : Bool) (q : ℕ) (u : Share) (ls : List Lot) → IsPosition ls → AreOpenedByOtherTrades u.trade ls → AreOpenedBeforeStamp u.stamp ls → (n : ℕ)
    → q - closed_share_count u.side q ls ≡ n
    → IsPosition (lots_after_touches (touches_of_first_shares (closed_share_count u.side q ls) (list_reversed_if_lifo lifo ls)) ls ++ run_lots n u)
lawful lifo q u ls p f a zero e =
    rw (append-nil (lots_after_touches (touches_of_first_shares (closed_share_count u.side q ls) (list_reversed_if_lifo lifo ls)) ls))
    (position_left (touches_of_first_shares (closed_share_count u.side q ls) (list_reversed_if_lifo lifo ls)) ls p
    (end_shrinks lifo (closed_share_count u.side q ls) ls (walk_of ls p)))
lawful lifo q u ls p f a (suc n) e =
    position_push (lots_after_touches (touches_of_first_shares (closed_share_count u.side q ls) (list_reversed_if_lifo lifo ls)) ls) (new_lot u n)
    (position_left (touches_of_first_shares (closed_share_count u.side q ls) (list_reversed_if_lifo lifo ls)) ls p (end_shrinks lifo (closed_share_count u.side q ls) ls (walk_of ls p)))
    (signed_differs u.side n)
    (opened_after lifo q n u ls p f a e)

-- The lots of the position `ls` after the deal `d`, with the lot that the deal opens.
abbrev pub lots_after : Deal → List Lot → List Lot
lots_after d ls = lots_after_touches (touches_of_first_shares (closed_share_count d.side d.qty ls) (list_reversed_if_lifo d.is_lifo ls)) ls
    ++ run_lots (d.qty - closed_share_count d.side d.qty ls) (opened_share d)

-- the lots after a deal are a position, and their shares are the shares before after the deal
pub booked_lots : (d : Deal) (ls : List Lot) → IsPosition ls → AreOpenedByOtherTrades d.trade ls → AreOpenedBeforeStamp d.stamp ls
    → IsPosition (lots_after d ls) × (shares_of_lots (lots_after d ls) ≡ shares_after_deal (shares_of_lots ls) d)
booked_lots d ls p f a =
    let u = opened_share d in
    let k : ℕ = closed_share_count d.side d.qty ls in
    let w = walk_of ls p in (
      lawful d.is_lifo d.qty u ls p f a (d.qty - k) refl,
      flat_map-append (λ m. replicate (unsigned_abs m.qty) (share_of_lot m)) (lots_after_touches (touches_of_first_shares k (list_reversed_if_lifo d.is_lifo ls)) ls) (run_lots (d.qty - k) u)
          ∙ ap (λ (us : List Share). us ++ shares_of_lots (run_lots (d.qty - k) u)) (shares_left d.is_lifo k ls w)
          ∙ ap (λ (us : List Share). without d.is_lifo k (shares_of_lots ls) ++ us) (shares_opened (d.qty - k) u)
          ∙ ap (λ n. without d.is_lifo n (shares_of_lots ls) ++ replicate (d.qty - n) u) (met_is d ls w)
          ∙ sym (after_is d (shares_of_lots ls)),
    )

-- what the rows of a closing leave, with the lot that it opens, are the lots after its deal
pub booked : (d : Deal) (ls : List Lot) (closing : Closing) → IsPosition ls → IsApplicableClosing d ls closing
    → lots_after_touches closing.touched.items ls ++ option_to_list closing.opened ≡ lots_after d ls
booked d ls closing p h =
    let w = walk_of ls p in
    let same : closed_share_count d.side d.qty (list_reversed_if_lifo d.is_lifo ls) ≡ closed_share_count d.side d.qty ls = met_end d.is_lifo d.side d.qty ls w in
    let rows : closing.touched.items ≡ touches_of_first_shares (closed_share_count d.side d.qty ls) (list_reversed_if_lifo d.is_lifo ls) =
    rows_back d ls closing w h.fresh h.closes ∙ ap (λ n. touches_of_first_shares n (list_reversed_if_lifo d.is_lifo ls)) same in
    let opened : option_to_list closing.opened ≡ run_lots (d.qty - closed_share_count d.side d.qty ls) (opened_share d) = opened_back d ls closing h.closes
    ∙ ap (λ n. run_lots (d.qty - n) (opened_share d)) (sym (met_is d ls w)) in
    rw (rows, opened) refl
