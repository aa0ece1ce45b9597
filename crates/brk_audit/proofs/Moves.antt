-- Sums of lot changes, deal by deal and lot by lot.
use Rattle.std.proofs.Common.{◌≡◌, ◌≢◌, ℕ, zero, suc, ◌+◌, ◌*◌, ◌≤◌, ◌==◌, Bool, true, false, not, cond, List, [], ◌∷◌, ◌++◌, refl, sym, ap, ◌∙◌, map, filter, reverse, arith, inl, inr, pos, ◌-ℤ◌}
use Rattle.std.specs.Prelude.{⊤}
use Rattle.std.specs.List.{AllByRecursion, sum_by}
use Rattle.std.proofs.lemmas.Bool.{eq-eqb, eqb-true, eqb-false, ne_eqb}
use Rattle.std.proofs.lemmas.List.Sums.{sum_by-cons}
use Rattle.std.proofs.lemmas.List.Sorted.{IsPermutation-reverse}
use Rattle.brk_model.specs.Lists.{is_zero}
use Rattle.brk_model.specs.Shares.{Share, Deal, Touch, first_shares_of_lots, lot_touches_of_deal, changes_lot_quantity, lot_quantity, lots_of_shares}
use Rattle.brk_model.specs.Shares.{opened_shares, shares_after_deal, touch_of_lot_with_share, touches_of_existing_lots, touch_of_lot}
use Rattle.brk_model.specs.Tables.{HoldingHistoryRow, holding_history_row}
use Rattle.brk_lots.specs.HistoryRows.{has_quantity_change, lot_history_rows_per_deal}
use Rattle.brk_lots.specs.Chains.{lot_changes_of_deal, opening_touch, lot_changes_of_deals}
use Rattle.brk_lots.specs.Deals.{AreDistinctAscendingDeals, PrecedesDealOfOtherTrade}
use Rattle.brk_lots.specs.Lots.{list_reversed_if_lifo}
use Rattle.brk_lots.proofs.Changes.{all_firsts}
use Rattle.brk_lots.proofs.Deals.{IsOlder, all_after, older_after}
use Rattle.brk_lots.proofs.History.{history_rows}
use Rattle.brk_trade_books.proofs.Same.{All-append, All-map, All-of}
use Rattle.brk_trade_books.proofs.Touching.{Without, lot_without}
use Rattle.brk_audit_theorems.proofs.Climbs.{In, each_in}
use Rattle.brk_audit_theorems.proofs.Marks.{filtered}
use Rattle.brk_audit_theorems.proofs.Members.{in_map}
use Rattle.brk_trade_books.proofs.Orders.{permuted, sum_append, sum_both, sum_filter, sum_map, sum_none, sum_same}
use Rattle.brk_audit.proofs.Places.{all_back, all_front}

-- ---- a sum over elements with a number, as one over the numbers

-- how many have a number
abbrev pub count : {X : Type 0} → (X → ℕ) → ℕ → List X → ℕ
count n k xs = sum_by (λ x. cond (n x == k) 1 0) xs

-- no number occurs twice
abbrev pub Unique : List ℕ → Type 0
Unique [] = ⊤
Unique (k ∷ ks) = AllByRecursion (λ j. k ≢ j) ks × Unique ks

sum_le : {X : Type 0} (f : X → ℕ) (p : X → Bool) (xs : List X) → sum_by f (filter p xs) ≤ sum_by f xs
sum_le f p [] = omega arith
sum_le {X = X} f p (x ∷ xs) = by_test (p x) (sum_le f p xs)
  where
    by_test : (b : Bool) → sum_by f (filter p xs) ≤ sum_by f xs → sum_by f (cond b (x ∷ filter p xs) (filter p xs)) ≤ sum_by f (x ∷ xs)
    by_test true h = omega (arith, h, sum_by-cons f x (filter p xs), sum_by-cons f x xs)
    by_test false h = omega (arith, h, sum_by-cons f x xs)

-- those with a number, and the others
pick : {X : Type 0} (n : X → ℕ) (k g : ℕ) (xs : List X) → sum_by (λ x. cond (n x == k) g 0) xs ≡ count n k xs * g
pick n k g [] = omega arith
pick {X = X} n k g (x ∷ xs) = by_test (n x == k) (pick n k g xs) (sum_by-cons (λ y. cond (n y == k) g 0) x xs) (sum_by-cons (λ y. cond (n y == k) 1 0) x xs)
  where
    by_test : (b : Bool) → sum_by (λ y. cond (n y == k) g 0) xs ≡ count n k xs * g → sum_by (λ y. cond (n y == k) g 0) (x ∷ xs) ≡ cond b g 0 + sum_by (λ y. cond (n y == k) g 0) xs
        → count n k (x ∷ xs) ≡ cond b 1 0 + count n k xs → sum_by (λ y. cond (n y == k) g 0) (x ∷ xs) ≡ count n k (x ∷ xs) * g
    by_test true h c d = c ∙ ap (λ m. g + m) h ∙ more (count n k xs) ∙ ap (λ m. m * g) (sym d)
      where
        more : (m : ℕ) → g + m * g ≡ (1 + m) * g
        more m = omega arith
    by_test false h c d =
        let e : count n k (x ∷ xs) ≡ count n k xs = omega (arith, d) in
        let s : sum_by (λ y. cond (n y == k) g 0) (x ∷ xs) ≡ sum_by (λ y. cond (n y == k) g 0) xs = omega (arith, c) in
        s ∙ h ∙ ap (λ m. m * g) (sym e)

parted : {X : Type 0} (n : X → ℕ) (G : ℕ → ℕ) (k : ℕ) (xs : List X) → sum_by (λ x. G (n x)) xs ≡ count n k xs * G k + sum_by (λ x. G (n x)) (filter (λ x. not (n x == k)) xs)
parted {X = X} n G k xs =
    sum_same (λ x. G (n x)) (λ x. cond (n x == k) (G k) 0 + cond (not (n x == k)) (G (n x)) 0) xs (All-of xs (λ x. one x (n x == k) refl))
    ∙ sum_both (λ x. cond (n x == k) (G k) 0) (λ x. cond (not (n x == k)) (G (n x)) 0) xs
    ∙ (λ i. pick n k (G k) xs i + sym (sum_filter (λ x. G (n x)) (λ x. not (n x == k)) xs) i)
  where
    one : (x : X) (b : Bool) → (n x == k) ≡ b → G (n x) ≡ cond (n x == k) (G k) 0 + cond (not (n x == k)) (G (n x)) 0
    one x true e = let g : G (n x) ≡ G k = ap G (eqb-true (n x) k e) in rw e (omega (arith, g))
    one x false e = rw e (omega arith)

-- those that stay have every other number as often
others_count : {X : Type 0} (n : X → ℕ) (k j : ℕ) (xs : List X) → k ≢ j → count n j (filter (λ x. not (n x == k)) xs) ≡ count n j xs
others_count {X = X} n k j xs h = sum_filter (λ x. cond (n x == j) 1 0) (λ x. not (n x == k)) xs
    ∙ sum_same (λ x. cond (not (n x == k)) (cond (n x == j) 1 0) 0) (λ x. cond (n x == j) 1 0) xs (All-of xs (λ x. one x (n x == k) refl))
  where
    one : (x : X) (b : Bool) → (n x == k) ≡ b → cond {A = ℕ} (not (n x == k)) (cond (n x == j) 1 0) 0 ≡ cond {A = ℕ} (n x == j) 1 0
    one x true e = let d : (n x == j) ≡ false = ne_eqb (n x) j (λ p. h (sym (eqb-true (n x) k e) ∙ p)) in rw (e, d) refl
    one x false e = rw e refl

pub reindex : {X : Type 0} (n : X → ℕ) (G : ℕ → ℕ) (ks : List ℕ) (xs : List X) → Unique ks → ((k : ℕ) → count n k xs ≤ 1) → AllByRecursion (λ x. In (n x) ks) xs
    → AllByRecursion (λ k. count n k xs ≡ 0 → G k ≡ 0) ks → sum_by (λ x. G (n x)) xs ≡ sum_by G ks
reindex n G [] [] u c m z = refl
reindex n G [] (x ∷ xs) u c m z = absurd m.0
reindex {X = X} n G (k ∷ ks) xs u c m z =
    let rest : List X = filter (λ x. not (n x == k)) xs in
    let ih : sum_by (λ x. G (n x)) rest ≡ sum_by G ks =
    reindex n G ks rest u.1 (λ j. let a = sum_le (λ x. cond (n x == j) 1 0) (λ x. not (n x == k)) xs in let b = c j in omega (arith, a, b))
    (All-map rest (λ x h. behind x h.0 (eqb-no (n x) k h.1)) (filtered (λ x. In (n x) (k ∷ ks)) (λ x. not (n x == k)) xs m))
    (both ks u.0 z.1) in
    parted n G k xs ∙ (λ i. once (count n k xs) refl i + ih i) ∙ sym (sum_by-cons G k ks)
  where
    eqb-no : (a b : ℕ) → not (a == b) ≡ true → a ≢ b
    eqb-no a b e p = let q : (a == b) ≡ true = eq-eqb a b p in let r : false ≡ true = sym (ap not q) ∙ e in absurd (cc)

    behind : (x : X) → In (n x) (k ∷ ks) → n x ≢ k → In (n x) ks
    behind x (inl e) d = absurd (d e)
    behind x (inr i) d = i

    both : (js : List ℕ) → AllByRecursion (λ j. k ≢ j) js → AllByRecursion (λ j. count n j xs ≡ 0 → G j ≡ 0) js
        → AllByRecursion (λ j. count n j (filter (λ x. not (n x == k)) xs) ≡ 0 → G j ≡ 0) js
    both [] a b = tt
    both (j ∷ js) a b = ((λ e. b.0 (sym (others_count n k j xs a.0) ∙ e)), both js a.1 b.1)

    once : (m : ℕ) → count n k xs ≡ m → count n k xs * G k ≡ G k
    once zero e = let g : G k ≡ 0 = z.0 e in (λ i. e i * G k) ∙ omega (arith, g)
    once (suc zero) e = (λ i. e i * G k) ∙ omega arith
    once (suc (suc m)) e = let b = c k in absurd (omega (arith, b, e))

-- ---- the lots of shares

abbrev of_trade : Share → ℕ
of_trade v = v.trade

firsts_once : (us : List Share) (t : ℕ) → count of_trade t (first_shares_of_lots us) ≤ 1
firsts_once [] t = omega arith
firsts_once (u ∷ us) t = by_test (u.trade == t) refl (firsts_once us t)
  where
    rest : List Share
    rest = filter (λ v. not (v.trade == u.trade)) (first_shares_of_lots us)

    cons : count of_trade t (u ∷ rest) ≡ cond (u.trade == t) 1 0 + count of_trade t rest
    cons = sum_by-cons (λ (v : Share). cond (v.trade == t) 1 0) u rest

    none : u.trade ≡ t → count of_trade t rest ≡ 0
    none e = sum_none (λ (v : Share). cond (v.trade == t) 1 0) rest
        (All-map rest (λ v h. one v h.1)
        (filtered (λ v. ⊤) (λ v. not (v.trade == u.trade)) (first_shares_of_lots us) (All-of (first_shares_of_lots us) (λ v. tt))))
      where
        one : (v : Share) → not (v.trade == u.trade) ≡ true → cond {A = ℕ} (v.trade == t) 1 0 ≡ 0
        one v h = ap (λ (b : Bool). cond {A = ℕ} b 1 0) (ap (λ k. v.trade == k) (sym e) ∙ untrue (v.trade == u.trade) h)
          where
            untrue : (b : Bool) → not b ≡ true → b ≡ false
            untrue true k = cc
            untrue false k = refl

    by_test : (b : Bool) → (u.trade == t) ≡ b → count of_trade t (first_shares_of_lots us) ≤ 1 → count of_trade t (u ∷ rest) ≤ 1
    by_test true e h = let z = none (eqb-true u.trade t e) in let o : cond {A = ℕ} (u.trade == t) 1 0 ≡ 1 = ap (λ (b : Bool). cond {A = ℕ} b 1 0) e in omega (arith, cons, z, o)
    by_test false e h =
        let o : cond {A = ℕ} (u.trade == t) 1 0 ≡ 0 = ap (λ (b : Bool). cond {A = ℕ} b 1 0) e in
        let l = sum_le (λ (v : Share). cond (v.trade == t) 1 0) (λ v. not (v.trade == u.trade)) (first_shares_of_lots us) in
        omega (arith, cons, o, l, h)

without_firsts : (us : List Share) (t : ℕ) → count of_trade t (first_shares_of_lots us) ≡ 0 → Without t us
without_firsts [] t e = tt
without_firsts (u ∷ us) t e = by_test (u.trade == t) refl (without_firsts us t)
  where
    rest : List Share
    rest = filter (λ v. not (v.trade == u.trade)) (first_shares_of_lots us)

    cons : count of_trade t (u ∷ rest) ≡ cond (u.trade == t) 1 0 + count of_trade t rest
    cons = sum_by-cons (λ (v : Share). cond (v.trade == t) 1 0) u rest

    by_test : (b : Bool) → (u.trade == t) ≡ b → (count of_trade t (first_shares_of_lots us) ≡ 0 → Without t us) → Without t (u ∷ us)
    by_test true h ih = let o : cond {A = ℕ} (u.trade == t) 1 0 ≡ 1 = ap (λ (b : Bool). cond {A = ℕ} b 1 0) h in absurd (omega (arith, cons, o, e))
    by_test false h ih =
        let o : cond {A = ℕ} (u.trade == t) 1 0 ≡ 0 = ap (λ (b : Bool). cond {A = ℕ} b 1 0) h in
        let z : count of_trade t rest ≡ 0 = omega (arith, cons, o, e) in
        (h, ih (sym (others_count of_trade u.trade t (first_shares_of_lots us) (eqb-false u.trade t h)) ∙ z))

-- ---- one deal

-- what a deal gives to a sum by the lot of a trade
abbrev pub by_lot : (HoldingHistoryRow → ℕ) → Deal → List Share → ℕ → ℕ
by_lot f d us t = cond (changes_lot_quantity (touch_of_lot t d us)) (f (holding_history_row d.trade (touch_of_lot t d us))) 0

sum_end : {X : Type 0} (f : X → ℕ) (b : Bool) (xs : List X) → sum_by f (list_reversed_if_lifo b xs) ≡ sum_by f xs
sum_end f true xs = permuted xs (reverse xs) (IsPermutation-reverse xs) f
sum_end f false xs = refl

no_lot : (f : HoldingHistoryRow → ℕ) (d : Deal) (us : List Share) (t : ℕ) → count of_trade t (first_shares_of_lots (us ++ shares_after_deal us d)) ≡ 0 → by_lot f d us t ≡ 0
no_lot f d us t e =
    let w : Without t (us ++ shares_after_deal us d) = without_firsts (us ++ shares_after_deal us d) t e in
    let a : lot_quantity us t ≡ pos 0 = lot_without t us (all_front (λ s. (s.trade == t) ≡ false) us (shares_after_deal us d) w) in
    let b : lot_quantity (shares_after_deal us d) t ≡ pos 0 = lot_without t (shares_after_deal us d) (all_back (λ s. (s.trade == t) ≡ false) us (shares_after_deal us d) w) in
    λ i. cond (not (is_zero (a i -ℤ b i))) (f (holding_history_row d.trade (touch_of_lot t d us))) 0

deal_sum : (ks : List ℕ) → Unique ks → (d : Deal) (us : List Share) → AllByRecursion (λ v. v.trade ≢ d.trade) us → AllByRecursion (λ v. In v.trade ks) (us ++ shares_after_deal us d)
    → (f : HoldingHistoryRow → ℕ) → sum_by f (lot_changes_of_deal d us) ≡ sum_by (by_lot f d us) ks
unfolding lot_touches_of_deal
deal_sum ks u d us fresh m f =
    let h : Touch → ℕ = λ t. f (holding_history_row d.trade t) in
    let opened : List Touch = map opening_touch (lots_of_shares (opened_shares d us)) in
    let ws : List Share = us ++ shares_after_deal us d in
    sum_map f (holding_history_row d.trade) (list_reversed_if_lifo d.is_lifo (touches_of_existing_lots d us) ++ opened)
    ∙ sum_append h (list_reversed_if_lifo d.is_lifo (touches_of_existing_lots d us)) opened
    ∙ ap (λ n. n + sum_by h opened) (sum_end h d.is_lifo (touches_of_existing_lots d us))
    ∙ sym (sum_append h (touches_of_existing_lots d us) opened)
    ∙ ap (sum_by h) (sym (history_rows d us fresh))
    ∙ sum_filter h changes_lot_quantity (map (touch_of_lot_with_share d us) (first_shares_of_lots ws))
    ∙ sum_map (λ t. cond (changes_lot_quantity t) (h t) 0) (touch_of_lot_with_share d us) (first_shares_of_lots ws)
    ∙ reindex of_trade (by_lot f d us) ks (first_shares_of_lots ws) u (firsts_once ws) (all_firsts (λ v. In v.trade ks) ws m) (All-of ks (no_lot f d us))

-- ---- deals one after another

replay_sums : (ks : List ℕ) → Unique ks → (ds : List Deal) (us : List Share) → AreDistinctAscendingDeals ds → AllByRecursion (λ d. AllByRecursion (IsOlder d) us) ds
    → AllByRecursion (λ v. In v.trade ks) us → AllByRecursion (λ d. In d.trade ks) ds
    → (f : HoldingHistoryRow → ℕ) → sum_by f (lot_changes_of_deals ds us) ≡ sum_by (λ t. sum_by f (filter has_quantity_change (lot_history_rows_per_deal t us ds))) ks
replay_sums ks u [] us a o m n f = sym (sum_none (λ t. 0) ks (All-of ks (λ t. refl)))
replay_sums ks u (d ∷ ds) us a o m n f =
    let after : List Share = shares_after_deal us d in
    let there : AllByRecursion (λ v. In v.trade ks) after = all_after (λ v. In v.trade ks) d us n.0 m in
    let here : sum_by f (lot_changes_of_deal d us) ≡ sum_by (by_lot f d us) ks = deal_sum ks u d us (All-map us (λ v k. k.0) o.0) (All-append (λ v. In v.trade ks) us after m there) f in
    let ih : sum_by f (lot_changes_of_deals ds after) ≡ sum_by (λ t. sum_by f (filter has_quantity_change (lot_history_rows_per_deal t after ds))) ks =
    replay_sums ks u ds after a.1 (older_after d ds us a.0 o.1) there n.1 f in
    sum_append f (lot_changes_of_deal d us) (lot_changes_of_deals ds after) ∙ (λ i. here i + ih i)
    ∙ sym (sum_both (by_lot f d us) (λ t. sum_by f (filter has_quantity_change (lot_history_rows_per_deal t after ds))) ks)
    ∙ sym (sum_same (λ t. sum_by f (filter has_quantity_change (lot_history_rows_per_deal t us (d ∷ ds))))
    (λ t. by_lot f d us t + sum_by f (filter has_quantity_change (lot_history_rows_per_deal t after ds))) ks
    (All-of ks (λ t. first t (changes_lot_quantity (touch_of_lot t d us)))))
  where
    first : (t : ℕ) (b : Bool)
        → sum_by f (cond b (holding_history_row d.trade (touch_of_lot t d us)
        ∷ filter has_quantity_change (lot_history_rows_per_deal t (shares_after_deal us d) ds))
        (filter has_quantity_change (lot_history_rows_per_deal t (shares_after_deal us d) ds)))
        ≡ cond b (f (holding_history_row d.trade (touch_of_lot t d us))) 0 + sum_by f (filter has_quantity_change (lot_history_rows_per_deal t (shares_after_deal us d) ds))
    first t true = sum_by-cons f (holding_history_row d.trade (touch_of_lot t d us)) (filter has_quantity_change (lot_history_rows_per_deal t (shares_after_deal us d) ds))
    first t false = omega arith

trades_unique : (ds : List Deal) → AreDistinctAscendingDeals ds → Unique (map (λ d. d.trade) ds)
trades_unique [] a = tt
trades_unique (d ∷ ds) a = (ahead ds a.0, trades_unique ds a.1)
  where
    ahead : (es : List Deal) → AllByRecursion (PrecedesDealOfOtherTrade d) es → AllByRecursion (λ t. d.trade ≢ t) (map (λ d. d.trade) es)
    ahead [] h = tt
    ahead (e ∷ es) h = (h.0.0, ahead es h.1)

pub run_sums : (ds : List Deal) → AreDistinctAscendingDeals ds → (f : HoldingHistoryRow → ℕ)
    → sum_by f (lot_changes_of_deals ds []) ≡ sum_by (λ d. sum_by f (filter has_quantity_change (lot_history_rows_per_deal d.trade [] ds))) ds
run_sums ds a f =
    replay_sums (map (λ d. d.trade) ds) (trades_unique ds a) ds [] a (All-of ds (λ d. tt)) tt (All-map ds (λ d m. in_map (λ (e : Deal). e.trade) ds d m) (each_in ds)) f
    ∙ sum_map (λ t. sum_by f (filter has_quantity_change (lot_history_rows_per_deal t [] ds))) (λ d. d.trade) ds
