-- The order of completed trades by position and stamp.
use Rattle.std.proofs.Common.{◌≡◌, ◌≢◌, ℕ, zero, suc, ◌≤◌, List, [], ◌∷◌, ◌++◌, Bool, true, false, not, ◌&&◌, ◌||◌, ◌==◌, Ordering, Less, Equal, Greater}
use Rattle.std.proofs.Common.{nat_cmp, map, drop, refl, sym, ◌∙◌, arith, eq-eqb, eqb-true}
use Rattle.std.specs.Prelude.{nat_lt, bytes_eq}
use Rattle.std.specs.Cmp.{IsStrictWeakOrder}
use Rattle.std.specs.Cmp.Lexicographic.{slice_cmp}
use Rattle.std.specs.List.{AllByRecursion, IsDistinct}
use Rattle.std.specs.Ordering.{is_gt, is_lt, ordering_then}
use Rattle.std.proofs.lemmas.Bool.{eqb-false, le-ltb, ltb-false, and_from, and_parts}
use Rattle.std.proofs.lemmas.Cmp.{nat_cmp_total, nat_list_cmp_total}
use Rattle.std.proofs.lemmas.Slice.Eq.{bytes_eq-Decides}
use Rattle.brk_money.specs.Spelling.{Text}
use Rattle.brk_model.specs.Keys.{KeyPart, number, word, is_key_less}
use Rattle.brk_model.specs.Lists.{is_text_less}
use Rattle.brk_model.specs.Tables.{TradeRow}
use Rattle.brk_lots.specs.Deals.{AreDistinctAscendingDeals, PrecedesDealOfOtherTrade}
use Rattle.brk_trade_books.proofs.Order.{NoneBefore, Sorted, key_one_way, key_splits, key_total}
use Rattle.brk_trade_books.proofs.Same.{All-map}
use Rattle.brk_audit_form.proofs.KeyOrders.{gt_lt, numbers_before, texts_before}
use Rattle.brk_audit.specs.Positions.{FirstElementSatisfies, has_same_id_or_stamp, is_before_by_position, position_sort_key, deal_of_completed_row, has_same_position}

-- ---- a comparison tells it

numbers_behind : (m n : ℕ) → nat_lt n m ≡ is_gt (nat_cmp m n)
numbers_behind m n = numbers_before n m ∙ sym (gt_lt (nat_cmp m n) (nat_cmp n m) (nat_cmp_total.antisymm m n))

texts_ahead : (s t : List ℕ) → is_text_less s t ≡ is_lt (slice_cmp nat_cmp s t)
texts_ahead s t = texts_before s t ∙ gt_lt (slice_cmp nat_cmp t s) (slice_cmp nat_cmp s t) (nat_list_cmp_total.antisymm t s)

decided : (o rest : Ordering) (a b c : Bool) → a ≡ is_lt o → b ≡ is_gt o → c ≡ is_lt rest → is_lt (ordering_then o rest) ≡ (a || (not b && c))
decided o rest a b c p q r = by_cases o ∙ sym (λ i. p i || (not (q i) && r i))
  where
    by_cases : (o : Ordering) → is_lt (ordering_then o rest) ≡ (is_lt o || (not (is_gt o) && is_lt rest))
    by_cases Less = refl
    by_cases Equal = refl
    by_cases Greater = refl

alone : (a b : Bool) → a ≡ (a || (not b && false))
alone true b = refl
alone false true = refl
alone false false = refl

pub places_compare : (a b : ℕ) (s t : Text) (m n : ℕ)
    → is_lt (ordering_then (nat_cmp a b) (ordering_then (slice_cmp nat_cmp s t) (nat_cmp m n))) ≡ is_key_less (number a ∷ word s ∷ number m ∷ []) (number b ∷ word t ∷ number n ∷ [])
places_compare a b s t m n =
    decided (nat_cmp a b) (ordering_then (slice_cmp nat_cmp s t) (nat_cmp m n)) _ _ _ (numbers_before a b) (numbers_behind a b)
    (sym (decided (slice_cmp nat_cmp s t) (nat_cmp m n) _ _ _ (texts_ahead s t) (texts_before t s) (sym (alone (nat_lt m n) (nat_lt n m)) ∙ numbers_before m n)))

pub pairs_compare : (a b m n : ℕ) → is_lt (ordering_then (nat_cmp a b) (nat_cmp m n)) ≡ is_key_less (number a ∷ number m ∷ []) (number b ∷ number n ∷ [])
pairs_compare a b m n = decided (nat_cmp a b) (nat_cmp m n) _ _ _ (numbers_before a b) (numbers_behind a b) (sym (alone (nat_lt m n) (nat_lt n m)) ∙ numbers_before m n)

-- the order by a key
pub key_order : {X : Type 0} (key : X → List KeyPart) → IsStrictWeakOrder (λ x y. is_key_less (key x) (key y))
key_order {X = X} key = record {
  one_way = λ x y e. key_one_way (key x) (key y) e;
  chain = λ x y z e f. chained x y z e f (is_key_less (key x) (key z)) refl;
}
  where
    chained : (x y z : X) → is_key_less (key x) (key y) ≡ false → is_key_less (key y) (key z) ≡ false → (b : Bool) → is_key_less (key x) (key z) ≡ b → is_key_less (key x) (key z) ≡ false
    chained x y z e f false h = h
    chained x y z e f true h =
        let k : is_key_less (key y) (key z) ≡ true = key_splits (key z) (key y) (key x) h e in
        absurd (cc)

pub place_order : {X : Type 0} (g : X → TradeRow) → IsStrictWeakOrder (λ x y. is_before_by_position (g x) (g y))
place_order g = key_order (λ x. position_sort_key (g x))

-- ---- trades of one position

pub record AtOne (r s : TradeRow) : Type 0 where
  pub account : r.account ≡ s.account
  pub symbol : r.symbol ≡ s.symbol

pub at_one : (r s : TradeRow) → has_same_position r s ≡ true → AtOne r s
at_one r s e =
    let h = and_parts (r.account == s.account) (bytes_eq r.symbol s.symbol) e in
    record { account = eqb-true r.account s.account h.0; symbol = (bytes_eq-Decides r.symbol s.symbol).0 h.1 }

pub one_place : (r s : TradeRow) → AtOne r s → has_same_position r s ≡ true
one_place r s e = and_from (r.account == s.account) (bytes_eq r.symbol s.symbol) (eq-eqb r.account s.account e.account) ((bytes_eq-Decides r.symbol s.symbol).1 e.symbol)

text_self : (s : List ℕ) → is_text_less s s ≡ false
text_self [] = refl
text_self (x ∷ s) = let e : nat_lt x x ≡ false = le-ltb x x (omega arith) in rw e (text_self s)

-- of two of one position the later one stands behind
moments_told : (a : ℕ) (s : Text) (m n : ℕ) → is_key_less (number a ∷ word s ∷ number m ∷ []) (number a ∷ word s ∷ number n ∷ []) ≡ nat_lt m n
moments_told a s m n = let e : nat_lt a a ≡ false = le-ltb a a (omega arith) in rw (e, text_self s) (sym (alone (nat_lt m n) (nat_lt n m)))

pub moment_order : (r s : TradeRow) → AtOne r s → is_before_by_position s r ≡ false → r.stamp ≤ s.stamp
moment_order r s e h =
    let k : is_key_less (number r.account ∷ word r.symbol ∷ number s.stamp ∷ []) (position_sort_key r) ≡ false =
    (λ i. is_key_less (number (e.account i) ∷ word (e.symbol i) ∷ number s.stamp ∷ []) (position_sort_key r)) ∙ h in
    ltb-false s.stamp r.stamp (sym (moments_told r.account r.symbol s.stamp r.stamp) ∙ k)

or_none : (a b : Bool) → (a || b) ≡ false → (a ≡ false) × (b ≡ false)
or_none true b e = absurd (cc)
or_none false b e = (refl, e)

and_then : (a b : Bool) → a ≡ true → (a && b) ≡ false → b ≡ false
and_then true b e f = f
and_then false b e f = absurd (cc)

-- what stands between two of one position is of that position
between_numbers : (m n : ℕ) → nat_lt n m ≡ false → nat_lt m n ≡ false → m ≡ n
between_numbers m n e f = omega (arith, ltb-false n m e, ltb-false m n f)

between_texts : (s t : List ℕ) → is_text_less t s ≡ false → is_text_less s t ≡ false → s ≡ t
between_texts s t e f =
    let k : word s ∷ [] ≡ word t ∷ [] = key_total (word s ∷ []) (word t ∷ []) (sym (alone (is_text_less s t) (is_text_less t s)) ∙ f) (sym (alone (is_text_less t s) (is_text_less s t)) ∙ e) in
    cc

past_account : (a : ℕ) (ks ls : List KeyPart) → is_key_less (number a ∷ ks) (number a ∷ ls) ≡ is_key_less ks ls
past_account a ks ls = let e : nat_lt a a ≡ false = le-ltb a a (omega arith) in rw e refl

pub between : (r y z : TradeRow) → AtOne r z → is_before_by_position y r ≡ false → is_before_by_position z y ≡ false → AtOne r y
between r y z h e f =
    let low : nat_lt y.account r.account ≡ false = (or_none _ _ e).0 in
    let high : nat_lt z.account y.account ≡ false = (or_none _ _ f).0 in
    let a : r.account ≡ y.account = between_numbers r.account y.account low ((λ i. nat_lt (h.account i) y.account) ∙ high) in
    let ys : List KeyPart = word y.symbol ∷ number y.stamp ∷ [] in
    let rs : List KeyPart = word r.symbol ∷ number r.stamp ∷ [] in
    let zs : List KeyPart = word z.symbol ∷ number z.stamp ∷ [] in
    let e1 : is_key_less ys rs ≡ false = sym (past_account r.account ys rs) ∙ (λ i. is_key_less (number (a i) ∷ ys) (number r.account ∷ rs)) ∙ e in
    let f1 : is_key_less zs ys ≡ false = sym (past_account r.account zs ys) ∙ (λ i. is_key_less (number (h.account i) ∷ zs) (number (a i) ∷ ys)) ∙ f in
    let s1 : is_text_less y.symbol r.symbol ≡ false = (or_none _ _ e1).0 in
    let s2 : is_text_less z.symbol y.symbol ≡ false = (or_none _ _ f1).0 in
    record { account = a; symbol = between_texts r.symbol y.symbol s1 ((λ i. is_text_less (h.symbol i) y.symbol) ∙ s2) }

pub all_front : {X : Type 0} (P : X → Type 0) (xs ys : List X) → AllByRecursion P (xs ++ ys) → AllByRecursion P xs
all_front P [] ys h = tt
all_front P (x ∷ xs) ys h = (h.0, all_front P xs ys h.1)

pub all_back : {X : Type 0} (P : X → Type 0) (xs ys : List X) → AllByRecursion P (xs ++ ys) → AllByRecursion P ys
all_back P [] ys h = h
all_back P (x ∷ xs) ys h = all_back P xs ys h.1

pub sorted_front : {X : Type 0} (before : X → X → Bool) (xs ys : List X) → Sorted before (xs ++ ys) → Sorted before xs
sorted_front before [] ys s = tt
sorted_front before (x ∷ xs) ys s = (all_front (λ y. before y x ≡ false) xs ys s.0, sorted_front before xs ys s.1)

pub sorted_back : {X : Type 0} (before : X → X → Bool) (xs ys : List X) → Sorted before (xs ++ ys) → Sorted before ys
sorted_back before [] ys s = s
sorted_back before (x ∷ xs) ys s = sorted_back before xs ys s.1

pub sorted_drop : {X : Type 0} (before : X → X → Bool) (n : ℕ) (xs : List X) → Sorted before xs → Sorted before (drop n xs)
sorted_drop before zero xs s = s
sorted_drop before (suc n) [] s = tt
sorted_drop before (suc n) (x ∷ xs) s = sorted_drop before n xs s.1

pub distinct_front : {X : Type 0} (same : X → X → Bool) (xs ys : List X) → IsDistinct same (xs ++ ys) → IsDistinct same xs
unfolding IsDistinct
distinct_front same [] ys d = tt
distinct_front same (x ∷ xs) ys d = (all_front (λ y. same x y ≡ false) xs ys d.0, distinct_front same xs ys d.1)

pub distinct_drop : {X : Type 0} (same : X → X → Bool) (n : ℕ) (xs : List X) → IsDistinct same xs → IsDistinct same (drop n xs)
unfolding IsDistinct
distinct_drop same zero xs d = d
distinct_drop same (suc n) [] d = tt
distinct_drop same (suc n) (x ∷ xs) d = distinct_drop same n xs d.1

-- those behind the trades of a position are of others
pub others : (r : TradeRow) (run later : List TradeRow) → Sorted is_before_by_position (r ∷ run ++ later)
    → FirstElementSatisfies (λ s. has_same_position r s ≡ false) later → AllByRecursion (λ s. has_same_position r s ≡ false) later
others r run later s h = by_first later (all_back (λ y. is_before_by_position y r ≡ false) run later s.0) (sorted_back is_before_by_position run later s.1) h
  where
    other : (y z : TradeRow) → is_before_by_position y r ≡ false → has_same_position r y ≡ false → is_before_by_position z y ≡ false → (b : Bool)
        → has_same_position r z ≡ b → has_same_position r z ≡ false
    other y z e n f false k = k
    other y z e n f true k = let p : has_same_position r y ≡ true = one_place r y (between r y z (at_one r z k) e f) in absurd (cc)

    by_first : (ys : List TradeRow) → AllByRecursion (λ y. is_before_by_position y r ≡ false) ys → Sorted is_before_by_position ys
        → FirstElementSatisfies (λ s. has_same_position r s ≡ false) ys → AllByRecursion (λ s. has_same_position r s ≡ false) ys
    by_first [] a t h = tt
    by_first (y ∷ ys) a t h = (h, All-map ys (λ z f. other y z a.0 h f (has_same_position r z) refl) t.0)

-- the trades of a position are deals one after another
follows : (p r s : TradeRow) → has_same_position p r ≡ true → has_same_position p s ≡ true → has_same_id_or_stamp r s ≡ false → is_before_by_position s r ≡ false
    → PrecedesDealOfOtherTrade (deal_of_completed_row r) (deal_of_completed_row s)
follows p r s e f c b =
    let x = at_one p r e in
    let y = at_one p s f in
    let k = or_none (r.id == s.id) (r.stamp == s.stamp) c in
    let low : r.stamp ≤ s.stamp = moment_order r s (record { account = sym x.account ∙ y.account; symbol = sym x.symbol ∙ y.symbol }) b in
    (eqb-false r.id s.id k.0, let n : r.stamp ≢ s.stamp = eqb-false r.stamp s.stamp k.1 in omega (arith, low, n))

pub deals_follow : (p : TradeRow) (run : List TradeRow) → Sorted is_before_by_position run → IsDistinct has_same_id_or_stamp run
    → AllByRecursion (λ s. has_same_position p s ≡ true) run → AreDistinctAscendingDeals (map deal_of_completed_row run)
unfolding IsDistinct
deals_follow p [] s d a = tt
deals_follow p (r ∷ run) s d a = (behind run s.0 d.0 a.1, deals_follow p run s.1 d.1 a.1)
  where
    behind : (ss : List TradeRow) → NoneBefore is_before_by_position r ss → AllByRecursion (λ t. has_same_id_or_stamp r t ≡ false) ss
        → AllByRecursion (λ t. has_same_position p t ≡ true) ss
        → AllByRecursion (PrecedesDealOfOtherTrade (deal_of_completed_row r)) (map deal_of_completed_row ss)
    behind [] h k l = tt
    behind (t ∷ ts) h k l = (follows p r t a.0 l.0 k.0 h.0, behind ts h.1 k.1 l.1)

pub same_self : (r : TradeRow) → has_same_position r r ≡ true
same_self r = one_place r r (record { account = refl; symbol = refl })
