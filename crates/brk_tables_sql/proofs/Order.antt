-- Lists up to order.
use Rattle.std.proofs.Common.{◌≡◌, ℕ, ◌+◌, ◌<◌, List, [], ◌∷◌, ◌++◌, length, map, filter, get_or, set, Bool, true, false, cond, if◌then◌else◌, Ordering, Less}
use Rattle.std.proofs.Common.{Equal, Greater, is_lt, is_eq, is_gt, refl, sym, ap, ap₂, subst, ◌∙◌, inl, inr, arith, true≢false}
use Rattle.std.specs.Ordering.{ordering_reverse}
use Rattle.std.specs.Cmp.{IsTotalOrder}
use Rattle.std.specs.List.{AllByRecursion, swap}
use Rattle.std.specs.List.Sorted.{IsPermutation, IsSorted}
use Rattle.std.proofs.lemmas.Bool.{cases_Bool}
use Rattle.std.proofs.lemmas.List.{get_or-map, map-set, length-map}
use Rattle.std.proofs.lemmas.List.Sorted.{IsPermutation-refl, IsPermutation-sym, IsPermutation-swap, IsPermutation-trans, IsPermutation-keeps, IsPermutation-cons, IsPermutation-middle}
use Rattle.std.proofs.ByRecursion.{all_shuffled}
use Rattle.sqlite_trees.specs.Tree.{IsAscending}
use Rattle.sqlite_rules.specs.Lists.{Has}
use Rattle.sqlite_rules.proofs.ListLemmas.{all_has, all_from}
use Rattle.sqlite_keyed.specs.Lists.{insert_sorted, update_where, sort_by}
use Rattle.sqlite_keyed.proofs.ListLemmas.{all_weaker}
use Rattle.sqlite_keyed.proofs.SortLemmas.{sorted_is-sort_by}
use Rattle.brk_tables_sql.specs.Rows.{IsStrictlyAscending}

-- ---- permutations of a map

map_swap : {X Y : Type 0} (f : X → Y) (xs : List X) (i j : ℕ) → i < length xs → j < length xs → swap (map f xs) i j ≡ map f (swap xs i j)
map_swap f [] i j p q = refl
map_swap f (d ∷ ys) i j p q =
    let l = d ∷ ys in
    sym (map-set f (set l i (get_or l j d)) j (get_or l i d) ∙ ap (λ t. set t j (f (get_or l i d))) (map-set f l i (get_or l j d))
    ∙ ap₂ (λ a b. set (set (map f l) i a) j b) (sym (get_or-map f l j d (f d) q)) (sym (get_or-map f l i d (f d) p)))

pub unmapped : {X Y : Type 0} (f : X → Y) (xs : List X) (ys : List Y) → IsPermutation (map f xs) ys → (zs : List X) × IsPermutation xs zs × (ys ≡ map f zs)
unmapped f xs ys =
    IsPermutation-keeps (map f xs) (λ l. (zs : List _) × IsPermutation xs zs × (l ≡ map f zs)) (xs, IsPermutation-refl xs, refl)
    (λ l i j p q h.
    let zs = h.0 in
    let long : length l ≡ length zs = ap length h.2 ∙ length-map zs f in
    let pi : i < length zs = omega arith in
    let qj : j < length zs = omega arith in
    (swap zs i j, IsPermutation-trans xs zs (swap zs i j) h.1 (IsPermutation-swap zs (swap zs i j) i j pi qj refl), ap (λ k. swap k i j) h.2 ∙ map_swap f zs i j pi qj)) ys

pub has_permuted : {X : Type 0} (xs ys : List X) (x : X) → IsPermutation xs ys → Has ys x → Has xs x
has_permuted xs ys x s h = all_has (Has xs) ys x (all_shuffled (Has xs) xs ys s (all_from (Has xs) xs (λ e k. k))) h

pub map_twice : {A B C : Type 0} (g : B → C) (f : A → B) (xs : List A) → map g (map f xs) ≡ map (λ x. g (f x)) xs
map_twice g f [] = refl
map_twice g f (x ∷ xs) = ap (λ l. g (f x) ∷ l) (map_twice g f xs)

pub map_on : {A B : Type 0} (f g : A → B) (xs : List A) → ((x : A) → Has xs x → f x ≡ g x) → map f xs ≡ map g xs
map_on f g [] h = refl
map_on f g (x ∷ xs) h = ap₂ ◌∷◌ (h x (inl refl)) (map_on f g xs (λ y k. h y (inr k)))

-- each element of the first list shows as one of the second
pub encoded : {X Y Z : Type 0} (f : X → Z) (g : Y → Z) (xs : List X) (ys : List Y) (x : X) → map f xs ≡ map g ys → Has xs x → (y : Y) × Has ys y × (f x ≡ g y)
encoded f g [] ys x h there = absurd there
encoded f g (a ∷ xs) [] x h there = absurd (let e = h in cc)
encoded f g (a ∷ xs) (b ∷ ys) x h (inl same) = let here : f a ≡ g b = cc in (b, inl refl, ap f same ∙ here)
encoded f g (a ∷ xs) (b ∷ ys) x h (inr later) = let more : map f xs ≡ map g ys = cc in let e = encoded f g xs ys x more later in (e.0, inr e.1, e.2)

-- ---- two lists that show the same

module _ {X Y Z : Type 0} (f : X → Z) (g : Y → Z) where
  pub filtered : (p : X → Bool) (q : Y → Bool) → ((x : X) (y : Y) → f x ≡ g y → p x ≡ q y) → (xs : List X) (ys : List Y) → map f xs ≡ map g ys → map f (filter p xs) ≡ map g (filter q ys)
  filtered p q same [] [] h = refl
  filtered p q same [] (y ∷ ys) h = absurd (let e = h in cc)
  filtered p q same (x ∷ xs) [] h = absurd (let e = h in cc)
  filtered p q same (x ∷ xs) (y ∷ ys) h =
      let here : f x ≡ g y = cc in
      let more : map f xs ≡ map g ys = cc in
      let later = filtered p q same xs ys more in
      elim (cases_Bool (q y)) [ inl e ↦ rw (same x y here, e) (ap₂ ◌∷◌ here later) | inr e ↦ rw (same x y here, e) later ]

  pub mapped : (a : X → X) (b : Y → Y) → ((x : X) (y : Y) → f x ≡ g y → f (a x) ≡ g (b y)) → (xs : List X) (ys : List Y) → map f xs ≡ map g ys → map f (map a xs) ≡ map g (map b ys)
  mapped a b same [] [] h = refl
  mapped a b same [] (y ∷ ys) h = absurd (let e = h in cc)
  mapped a b same (x ∷ xs) [] h = absurd (let e = h in cc)
  mapped a b same (x ∷ xs) (y ∷ ys) h =
      let here : f x ≡ g y = cc in
      let more : map f xs ≡ map g ys = cc in
      ap₂ ◌∷◌ (same x y here) (mapped a b same xs ys more)

  pub ordered : (C : X → X → Ordering) (D : Y → Y → Ordering) → ((a b : X) (c d : Y) → f a ≡ g c → f b ≡ g d → C a b ≡ D c d) → (xs : List X) (ys : List Y)
      → map f xs ≡ map g ys → IsSorted C xs → IsSorted D ys
  ordered C D same [] ys h sorted k d low high = absurd (omega (arith, ap length h, length-map ys g))
  ordered C D same (x ∷ more) ys h sorted k d low high =
      let xs = x ∷ more in
      let long : length xs ≡ length ys = sym (length-map xs f) ∙ ap length h ∙ length-map ys g in
      let at : (i : ℕ) → i < length ys → f (get_or xs i x) ≡ g (get_or ys i d) =
      λ i l. sym (get_or-map f xs i x (f x) (omega arith)) ∙ ap (λ zs. get_or zs i (f x)) h ∙ get_or-map g ys i d (f x) l in
      ap is_lt (sym (same (get_or xs (k + 1) x) (get_or xs k x) (get_or ys (k + 1) d) (get_or ys k d) (at (k + 1) high) (at k (omega arith)))) ∙ sorted k x low (omega arith)

-- ---- a record that comes in by its key

module _ {X : Type 0} {cmp : X → X → Ordering} (total : IsTotalOrder cmp) where
  all-insert_sorted : (P : X → Type 0) (new : X) (xs : List X) → P new → AllByRecursion P xs → AllByRecursion P (insert_sorted cmp new xs)
  all-insert_sorted P new [] h all = (h, tt)
  all-insert_sorted P new (x ∷ xs) h all =
      elim (is_gt (cmp new x)) as (λ b. AllByRecursion P (cond b (x ∷ insert_sorted cmp new xs) (new ∷ x ∷ xs))) [ true ↦ (all.0, all-insert_sorted P new xs h all.1) | false ↦ (h, all) ]

  pub rises-insert_sorted : (new : X) (xs : List X) → AllByRecursion (λ y. is_eq (cmp new y) ≡ false) xs → IsStrictlyAscending cmp xs → IsStrictlyAscending cmp (insert_sorted cmp new xs)
  rises-insert_sorted new [] apart up = (tt, tt)
  rises-insert_sorted new (x ∷ xs) apart up = go (cmp new x) refl (rises-insert_sorted new xs apart.1 up.1)
    where
      go : (o : Ordering) → cmp new x ≡ o → IsStrictlyAscending cmp (insert_sorted cmp new xs) → IsStrictlyAscending cmp (cond (is_gt o) (x ∷ insert_sorted cmp new xs) (new ∷ x ∷ xs))
      go Less e more = ((e, all_weaker _ (λ y. cmp new y ≡ Less) (λ y. total.trans new x y e) xs up.0), up)
      go Equal e more = absurd (true≢false (sym (ap is_eq e) ∙ apart.0))
      go Greater e more = (all-insert_sorted _ new xs (total.antisymm x new ∙ ap ordering_reverse e) up.0, more)

  all-sort_by : (P : X → Type 0) (xs : List X) → AllByRecursion P xs → AllByRecursion P (sort_by cmp xs)
  all-sort_by P [] all = tt
  all-sort_by P (x ∷ xs) all = all-insert_sorted P x _ all.0 (all-sort_by P xs all.1)

  rises-sort_by : (xs : List X) → IsAscending (λ x y. is_eq (cmp x y) ≡ false) xs → IsStrictlyAscending cmp (sort_by cmp xs)
  rises-sort_by [] apart = tt
  rises-sort_by (x ∷ xs) apart = rises-insert_sorted x _ (all-sort_by _ xs apart.0) (rises-sort_by xs apart.1)

  -- a sorted list with no ties rises
  pub rises_from_sorted : (xs : List X) → IsSorted cmp xs → IsAscending (λ x y. is_eq (cmp x y) ≡ false) xs → IsStrictlyAscending cmp xs
  rises_from_sorted xs sorted apart = subst (IsStrictlyAscending cmp) (sym (sorted_is-sort_by cmp total xs xs apart (IsPermutation-refl xs) sorted)) (rises-sort_by xs apart)

pub IsPermutation-insert_sorted : {X : Type 0} (cmp : X → X → Ordering) (new : X) (xs : List X) → IsPermutation (new ∷ xs) (insert_sorted cmp new xs)
IsPermutation-insert_sorted cmp new [] = IsPermutation-refl _
IsPermutation-insert_sorted cmp new (x ∷ xs) =
    elim (is_gt (cmp new x)) as (λ b. IsPermutation (new ∷ x ∷ xs) (cond b (x ∷ insert_sorted cmp new xs) (new ∷ x ∷ xs))) [
      | true ↦ IsPermutation-trans _ _ _ (IsPermutation-sym _ _ (IsPermutation-middle (x ∷ []) new xs)) (IsPermutation-cons x _ _ (IsPermutation-insert_sorted cmp new xs))
      | false ↦ IsPermutation-refl _
    ]

-- a change that keeps each key
pub rises-update_where : {X : Type 0} (cmp : X → X → Ordering) (p : X → Bool) (f : X → X) → ((x y : X) → cmp (f x) y ≡ cmp x y)
    → ((x y : X) → cmp x (f y) ≡ cmp x y) → (xs : List X) → IsStrictlyAscending cmp xs → IsStrictlyAscending cmp (update_where p f xs)
rises-update_where {X} cmp p f left right [] up = tt
rises-update_where {X} cmp p f left right (x ∷ xs) up = (each x xs up.0, rises-update_where cmp p f left right xs up.1)
  where
    put : X → X
    put x = if p x then f x else x

    one : (a b : Bool) (x y : X) → cmp (if a then f x else x) (if b then f y else y) ≡ cmp x y
    one true true x y = left x (f y) ∙ right x y
    one true false x y = left x y
    one false true x y = right x y
    one false false x y = refl

    each : (x : X) (ys : List X) → AllByRecursion (λ y. cmp x y ≡ Less) ys → AllByRecursion (λ y. cmp (if p x then f x else x) y ≡ Less) (update_where p f ys)
    each x [] all = tt
    each x (y ∷ ys) all = (one (p x) (p y) x y ∙ all.0, each x ys all.1)

-- ---- the other way

pub all_pushed : {X : Type 0} (P : X → Type 0) (xs : List X) (x : X) → AllByRecursion P xs → P x → AllByRecursion P (xs ++ x ∷ [])
all_pushed P [] x all h = (h, tt)
all_pushed P (y ∷ xs) x all h = (all.0, all_pushed P xs x all.1 h)
