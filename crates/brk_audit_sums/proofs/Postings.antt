-- Sums of postings equal sums over the posted rows.
use Rattle.std.proofs.Common.{◌≡◌, ℕ, ◌+◌, ◌<◌, Bool, true, false, cond, List, [], ◌∷◌, ◌++◌, refl, sym, ◌∙◌, ap, map, filter, take, length, get_or, append-nil, Option, Some, None, ℤ}
use Rattle.std.specs.Prelude.{◌&&◌, ◌+ℤ◌}
use Rattle.std.specs.List.{AllByRecursion, cons_option, filter_map}
use Rattle.std.specs.declared.cmp.Ordering.{Ordering}
use Rattle.std.specs.Ordering.{is_eq}
use Rattle.std.proofs.lemmas.List.{take_more}
use Rattle.std.proofs.lemmas.List.Elements.{filter_map-append}
use Rattle.brk_model.specs.Lists.{total_by}
use Rattle.brk_trade_books.proofs.SumReading.{total-map}
use Rattle.brk_trade_books.proofs.Same.{map-last}
use Rattle.brk_audit_theorems.proofs.AdoptedBooks.{filter-map}
use Rattle.brk_audit_sums.specs.declared.tally.KeyedAmount.{KeyedAmount}
use Rattle.brk_audit_sums.specs.Tally.{total_amount_at_key}

pub total_mapped : {X Y : Type 0} (f : Y → ℤ) (p : Y → Bool) (g : X → Y) (xs : List X) → total_by f (filter p (map g xs)) ≡ total_by (λ x. f (g x)) (filter (λ x. p (g x)) xs)
total_mapped f p g xs = ap (total_by f) (filter-map p g xs) ∙ total-map f g (filter (λ x. p (g x)) xs)

pub total_posted : {K X : Type 0} (cmp : K → K → Ordering) (p : X → Bool) (k : X → K) (a : X → ℤ) (xs : List X) (q : K)
    → total_amount_at_key cmp (filter_map {Y = KeyedAmount K} (λ x. cond (p x) (Some (record { key = k x; amount = a x })) None) xs) q ≡ total_by a (filter (λ x. p x && is_eq (cmp (k x) q)) xs)
unfolding total_by
total_posted cmp p k a [] q = refl
total_posted {K = K} {X = X} cmp p k a (x ∷ xs) q = by_tests (p x) (is_eq (cmp (k x) q)) refl (total_posted cmp p k a xs q)
  where
    posting : KeyedAmount K
    posting = record { key = k x; amount = a x }

    rest : List (KeyedAmount K)
    rest = filter_map {Y = KeyedAmount K} (λ x. cond (p x) (Some (record { key = k x; amount = a x })) None) xs

    more : List X
    more = filter (λ x. p x && is_eq (cmp (k x) q)) xs

    by_tests : (b c : Bool) → is_eq (cmp (k x) q) ≡ c → total_amount_at_key cmp rest q ≡ total_by a more
        → total_amount_at_key cmp (cons_option (cond b (Some posting) None) rest) q ≡ total_by a (cond (b && c) (x ∷ more) more)
    by_tests true true e h = ap (λ c. total_by (λ p. p.amount) (cond c (posting ∷ filter (λ p. is_eq (cmp p.key q)) rest) (filter (λ p. is_eq (cmp p.key q)) rest))) e ∙ ap (λ z. a x +ℤ z) h
    by_tests true false e h = ap (λ c. total_by (λ p. p.amount) (cond c (posting ∷ filter (λ p. is_eq (cmp p.key q)) rest) (filter (λ p. is_eq (cmp p.key q)) rest))) e ∙ h
    by_tests false c e h = h

-- ---- postings put together one by one

filter_map_more : {X Y : Type 0} (h : X → Option Y) (xs : List X) (i : ℕ) (x : X) → i < length xs → x ≡ get_or xs i x
    → filter_map h (take (i + 1) xs) ≡ filter_map h (take i xs) ++ cons_option (h x) []
filter_map_more h xs i x l r = ap (filter_map h) (take_more xs i x l ∙ ap (λ y. take i xs ++ y ∷ []) (sym r)) ∙ filter_map-append h (take i xs) (x ∷ [])

pub some_more : {X Y Z : Type 0} (f : Z → Y) (h : X → Option Y) (xs : List X) (i : ℕ) (x : X) (old all : List Z) (z : Z) → i < length xs → x ≡ get_or xs i x
    → map f old ≡ filter_map h (take i xs) → Some (f z) ≡ h x → all ≡ old ++ z ∷ [] → map f all ≡ filter_map h (take (i + 1) xs)
some_more f h xs i x old all z l r e s g =
    ap (map f) g ∙ map-last f old z ∙ ap (λ ys. ys ++ f z ∷ []) e ∙ ap (λ o. filter_map h (take i xs) ++ cons_option o []) s ∙ sym (filter_map_more h xs i x l r)

pub none_more : {X Y Z : Type 0} (f : Z → Y) (h : X → Option Y) (xs : List X) (i : ℕ) (x : X) (old : List Z) → i < length xs → x ≡ get_or xs i x
    → map f old ≡ filter_map h (take i xs) → None ≡ h x → map f old ≡ filter_map h (take (i + 1) xs)
none_more f h xs i x old l r e s =
    e ∙ sym (append-nil (filter_map h (take i xs))) ∙ ap (λ o. filter_map h (take i xs) ++ cons_option o []) s ∙ sym (filter_map_more h xs i x l r)

append_thrice : {X : Type 0} (xs ys zs : List X) → (xs ++ ys) ++ zs ≡ xs ++ (ys ++ zs)
append_thrice [] ys zs = refl
append_thrice (x ∷ xs) ys zs = ap (λ ws. x ∷ ws) (append_thrice xs ys zs)

-- postings put one by one behind others
pub some_added : {X Y : Type 0} (h : X → Option Y) (xs : List X) (i : ℕ) (x : X) (before old all : List Y) (y : Y) → i < length xs → x ≡ get_or xs i x
    → old ≡ before ++ filter_map h (take i xs) → Some y ≡ h x → all ≡ old ++ y ∷ [] → all ≡ before ++ filter_map h (take (i + 1) xs)
some_added h xs i x before old all y l r e s g =
    g ∙ ap (λ ys. ys ++ y ∷ []) e ∙ append_thrice before (filter_map h (take i xs)) (y ∷ [])
    ∙ ap (λ o. before ++ (filter_map h (take i xs) ++ cons_option o [])) s ∙ ap (λ ys. before ++ ys) (sym (filter_map_more h xs i x l r))

pub none_added : {X Y : Type 0} (h : X → Option Y) (xs : List X) (i : ℕ) (x : X) (before old : List Y) → i < length xs → x ≡ get_or xs i x
    → old ≡ before ++ filter_map h (take i xs) → None ≡ h x → old ≡ before ++ filter_map h (take (i + 1) xs)
none_added h xs i x before old l r e s =
    e ∙ ap (λ ys. before ++ ys) (sym (append-nil (filter_map h (take i xs))) ∙ ap (λ o. filter_map h (take i xs) ++ cons_option o []) s ∙ sym (filter_map_more h xs i x l r))

-- what holds of each posting
pub All-filter_map : {X Y : Type 0} (P : Y → Type 0) (p : X → Bool) (f : X → Y) (xs : List X) → AllByRecursion (λ x. P (f x)) xs
    → AllByRecursion P (filter_map (λ x. cond (p x) (Some (f x)) None) xs)
All-filter_map P p f [] h = tt
All-filter_map {Y = Y} P p f (x ∷ xs) h = by_test (p x) (All-filter_map P p f xs h.1)
  where
    by_test : (b : Bool) → AllByRecursion P (filter_map (λ x. cond (p x) (Some (f x)) None) xs)
        → AllByRecursion P (cons_option (cond b (Some (f x)) None) (filter_map (λ x. cond (p x) (Some (f x)) None) xs))
    by_test true k = (h.0, k)
    by_test false k = k
