-- The result of a binary search in rows sorted by key.
use Rattle.std.proofs.Common.{◌≡◌, ℕ, zero, suc, ◌<◌, ◌≤◌, Bool, true, false, cond, List, [], ◌∷◌, refl, sym, ◌∙◌, ap, subst, map, length, get_or, Some, Result}
use Rattle.std.proofs.Common.{Ok, Err, Ordering, Less, Equal, Greater, nat_cmp, add-one, arith, inl, inr}
use Rattle.std.specs.Prelude.{⊤, ◌||◌, ◌&&◌, not, ◌==◌, find, is_some, is_ok}
use Rattle.std.specs.List.{AllByRecursion, list_any}
use Rattle.std.specs.List.Sorted.{IsSearchInRange, IsBinarySearchResult, IsNonDecreasingBy}
use Rattle.std.specs.Ordering.{is_eq, is_gt, is_lt, ordering_index, ordering_reverse}
use Rattle.std.specs.Cmp.{IsTotalOrder}
use Rattle.std.specs.Cmp.Lexicographic.{slice_cmp}
use Rattle.std.specs.Str.{bytes_eq}
use Rattle.std.proofs.lemmas.Cmp.{nat_cmp_total, nat_list_cmp_total, ranked, by_ranked}
use Rattle.std.proofs.lemmas.Bool.Decides.{nat_tests}
use Rattle.std.proofs.lemmas.Bool.{cases_lt}
use Rattle.std.proofs.lemmas.Map.Text.{is_eq-slice_cmp}
use Rattle.std.proofs.lemmas.List.Sorted.{searchable_from_sorted}
use Rattle.brk_model.specs.Keys.{KeyPart, number, word, is_key_less}
use Rattle.brk_model.specs.Lists.{is_text_less}
use Rattle.brk_audit_theorems.proofs.Climbs.{Climbs}
use Rattle.brk_audit_form.proofs.KeyOrders.{texts_before}

pub any_found : {X : Type 0} (p : X → Bool) (xs : List X) → list_any p xs ≡ is_some (find p xs)
any_found p [] = refl
any_found {X = X} p (x ∷ xs) = by_test (p x) (any_found p xs)
  where
    by_test : (b : Bool) → list_any p xs ≡ is_some (find p xs) → (b || list_any p xs) ≡ is_some (cond b (Some x) (find p xs))
    by_test true e = refl
    by_test false e = e

pub any_map : {X Y : Type 0} (p : Y → Bool) (f : X → Y) (xs : List X) → list_any (λ x. p (f x)) xs ≡ list_any p (map f xs)
any_map p f [] = refl
any_map p f (x ∷ xs) = ap (λ b. p (f x) || b) (any_map p f xs)

pub find_map : {X Y : Type 0} (p : Y → Bool) (f : X → Y) (xs : List X) → is_some (find (λ x. p (f x)) xs) ≡ is_some (find p (map f xs))
find_map p f xs = sym (any_found (λ x. p (f x)) xs) ∙ any_map p f xs ∙ any_found p (map f xs)

-- each key is below those after it
abbrev pub Climbing : {X K : Type 0} → (K → K → Ordering) → (X → K) → List X → Type 0
Climbing R key [] = ⊤
Climbing R key (x ∷ xs) = AllByRecursion (λ y. R (key x) (key y) ≡ Less) xs × Climbing R key xs

ahead : {X Y K : Type 0} (R : K → K → Ordering) (of : X → Y) (P : Y → Type 0) (key : Y → K) (k : K) → ((y : Y) → P y → R k (key y) ≡ Less) → (xs : List X)
    → AllByRecursion P (map of xs) → AllByRecursion (λ x. R k (key (of x)) ≡ Less) xs
ahead R of P key k less [] a = tt
ahead R of P key k less (x ∷ xs) a = (less (of x) a.0, ahead R of P key k less xs a.1)

pub climbing : {X Y K : Type 0} (R : K → K → Ordering) (of : X → Y) (whole : Y → List KeyPart) (key : Y → K)
    → ((y z : Y) → is_key_less (whole y) (whole z) ≡ true → R (key y) (key z) ≡ Less) → (xs : List X)
    → Climbs whole (map of xs) → Climbing R (λ x. key (of x)) xs
climbing R of whole key less [] c = tt
climbing R of whole key less (x ∷ xs) c = (ahead R of _ key (key (of x)) (λ y h. less (of x) y h) xs c.0, climbing R of whole key less xs c.1)

next : {X K : Type 0} {R : K → K → Ordering} (o : IsTotalOrder R) (key : X → K) (xs : List X) → Climbing R key xs → (k : ℕ) (d : X) → suc k < length xs
    → is_lt (R (key (get_or xs (suc k) d)) (key (get_or xs k d))) ≡ false
next o key [] c k d h = absurd (omega arith)
next o key (x ∷ []) c k d h = absurd (omega arith)
next {R = R} o key (x ∷ y ∷ ys) c zero d h = ap is_lt (o.antisymm (key y) (key x) ∙ ap ordering_reverse c.0.0)
next o key (x ∷ y ∷ ys) c (suc k) d h = next o key (y ∷ ys) c.1 k d (omega arith)

pub rising_keys : {X K : Type 0} {R : K → K → Ordering} (o : IsTotalOrder R) (key : X → K) (xs : List X) → Climbing R key xs → (k : K)
    → IsNonDecreasingBy (λ y. ordering_index (R (key y) k)) xs
rising_keys {R = R} o key xs c k =
    searchable_from_sorted o key xs k (λ i d low h. subst (λ j. is_lt (R (key (get_or xs j d)) (key (get_or xs i d))) ≡ false) (sym (add-one i)) (next o key xs c i d (omega arith)))

any_at : {X : Type 0} (p : X → Bool) (xs : List X) (i : ℕ) → i < length xs → ((d : X) → p (get_or xs i d) ≡ true) → list_any p xs ≡ true
any_at p [] i h t = absurd (omega arith)
any_at p (x ∷ xs) zero h t = ap (λ b. b || list_any p xs) (t x)
any_at p (x ∷ xs) (suc i) h t = ap (λ b. p x || b) (any_at p xs i (omega arith) t) ∙ or_true (p x)
  where
    or_true : (b : Bool) → (b || true) ≡ true
    or_true true = refl
    or_true false = refl

any_none : {X : Type 0} (p : X → Bool) (xs : List X) → ((i : ℕ) (d : X) → i < length xs → p (get_or xs i d) ≡ false) → list_any p xs ≡ false
any_none p [] f = refl
any_none p (x ∷ xs) f = ap (λ b. b || list_any p xs) (f 0 x (omega arith)) ∙ any_none p xs (λ i d h. f (suc i) d (omega arith))

-- a search finds a row just where one passes
pub any_searched : {X : Type 0} (ord : X → Ordering) (p : X → Bool) (xs : List X) (r : Result ℕ ℕ) → ((x : X) → is_eq (ord x) ≡ p x)
    → IsNonDecreasingBy (λ x. ordering_index (ord x)) xs → IsSearchInRange r (length xs) → IsBinarySearchResult ord xs r → is_ok r ≡ list_any p xs
any_searched ord p xs (Ok at) same up within found = sym (any_at p xs at within (λ d. sym (same (get_or xs at d)) ∙ ap is_eq (found d)))
any_searched {X = X} ord p xs (Err at) same up within found = sym (any_none p xs (λ i d h. elim (cases_lt i at) [ inl a ↦ below i d a | inr b ↦ above i d b h ]))
  where
    below : (i : ℕ) (d : X) → i < at → p (get_or xs i d) ≡ false
    below i d a = sym (same (get_or xs i d)) ∙ ap is_eq ((found up).0 i d (omega arith) a)

    above : (i : ℕ) (d : X) → at ≤ i → i < length xs → p (get_or xs i d) ≡ false
    above i d b h = sym (same (get_or xs i d)) ∙ ap is_eq ((found up).1 i d b h)

-- ---- rows by a number, and rows by a text

pub number_less : (m n : ℕ) → is_key_less (number m ∷ []) (number n ∷ []) ≡ true → nat_cmp m n ≡ Less
number_less m n h = by_ranked (m < n) (m ≡ n) (n < m) (nat_cmp m n) (ranked m n (nat_cmp m n) refl)
    (λ e l. e)
    (λ e same. grind (arith, nat_tests))
    (λ e more. grind (arith, nat_tests))

pub eq_number : (m n : ℕ) → is_eq (nat_cmp m n) ≡ (m == n)
eq_number m n = grind (arith, nat_tests)

pub number_searched : {X Y : Type 0} (of : X → Y) (key : Y → ℕ) (xs : List X) (n : ℕ) (r : Result ℕ ℕ) → Climbs (λ y. number (key y) ∷ []) (map of xs)
    → IsSearchInRange r (length xs) → IsBinarySearchResult (λ x. nat_cmp (key (of x)) n) xs r → is_ok r ≡ list_any (λ y. key y == n) (map of xs)
number_searched of key xs n r c within found =
    any_searched (λ x. nat_cmp (key (of x)) n) (λ x. key (of x) == n) xs r (λ x. eq_number (key (of x)) n)
    (rising_keys nat_cmp_total (λ x. key (of x)) xs (climbing nat_cmp of (λ y. number (key y) ∷ []) key (λ y z. number_less (key y) (key z)) xs c) n) within found
    ∙ any_map (λ y. key y == n) of xs

pub word_less : (s t : List ℕ) → is_key_less (word s ∷ []) (word t ∷ []) ≡ true → slice_cmp nat_cmp s t ≡ Less
word_less s t h = by_gt (slice_cmp nat_cmp s t) (slice_cmp nat_cmp t s) (nat_list_cmp_total.antisymm s t) (sym (texts_before s t) ∙ only (is_text_less s t) (is_text_less t s) h)
  where
    only : (b c : Bool) → b || (not c && false) ≡ true → b ≡ true
    only true c h = refl
    only false true h = h
    only false false h = h

    by_gt : (o p : Ordering) → o ≡ ordering_reverse p → is_gt p ≡ true → o ≡ Less
    by_gt o Greater e h = e
    by_gt o Less e h = absurd (cc)
    by_gt o Equal e h = absurd (cc)

pub word_searched : {X Y : Type 0} (of : X → Y) (key : Y → List ℕ) (xs : List X) (t : List ℕ) (r : Result ℕ ℕ) → Climbs (λ y. word (key y) ∷ []) (map of xs)
    → IsSearchInRange r (length xs) → IsBinarySearchResult (λ x. slice_cmp nat_cmp (key (of x)) t) xs r → is_ok r ≡ list_any (λ y. bytes_eq (key y) t) (map of xs)
word_searched of key xs t r c within found =
    any_searched (λ x. slice_cmp nat_cmp (key (of x)) t) (λ x. bytes_eq (key (of x)) t) xs r (λ x. is_eq-slice_cmp (key (of x)) t)
    (rising_keys nat_list_cmp_total (λ x. key (of x)) xs (climbing (slice_cmp nat_cmp) of (λ y. word (key y) ∷ []) key (λ y z. word_less (key y) (key z)) xs c) t) within found
    ∙ any_map (λ y. bytes_eq (key y) t) of xs

-- the same, of a slice of these rows
pub number_found : {X Y : Type 0} (of : X → Y) (key : Y → ℕ) (xs ys : List X) (n : ℕ) (r : Result ℕ ℕ) (b : Bool) → ys ≡ xs → Climbs (λ y. number (key y) ∷ []) (map of xs)
    → IsSearchInRange r (length ys) → IsBinarySearchResult (λ x. nat_cmp (key (of x)) n) ys r → b ≡ is_ok r → b ≡ list_any (λ y. key y == n) (map of xs)
number_found of key xs ys n r b e c within found is =
    is ∙ number_searched of key ys n r (subst (λ l. Climbs (λ y. number (key y) ∷ []) (map of l)) (sym e) c) within found ∙ ap (λ l. list_any (λ y. key y == n) (map of l)) e

pub word_found : {X Y : Type 0} (of : X → Y) (key : Y → List ℕ) (xs ys : List X) (t : List ℕ) (r : Result ℕ ℕ) (b : Bool) → ys ≡ xs → Climbs (λ y. word (key y) ∷ []) (map of xs)
    → IsSearchInRange r (length ys) → IsBinarySearchResult (λ x. slice_cmp nat_cmp (key (of x)) t) ys r → b ≡ is_ok r → b ≡ list_any (λ y. bytes_eq (key y) t) (map of xs)
word_found of key xs ys t r b e c within found is =
    is ∙ word_searched of key ys t r (subst (λ l. Climbs (λ y. word (key y) ∷ []) (map of l)) (sym e) c) within found ∙ ap (λ l. list_any (λ y. bytes_eq (key y) t) (map of l)) e
