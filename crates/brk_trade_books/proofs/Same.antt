-- Lists whose elements are mapped to equal values, and lists with one more element.
use Rattle.std.proofs.Common.{◌≡◌, Bool, true, false, cond, List, [], ◌∷◌, ◌++◌, refl, subst, sym, ◌∙◌, ap, map, filter, ℤ, ◌+ℤ◌, Some}
use Rattle.std.specs.Prelude.{flat_map, find, is_some}
use Rattle.std.specs.List.{AllByRecursion, list_any}
use Rattle.brk_model.specs.Lists.{total_by}

-- no element passes a test
abbrev pub NonePass : {X : Type 0} → (X → Bool) → List X → Type 0
NonePass p xs = AllByRecursion (λ x. p x ≡ false) xs

pub All-map : {X : Type 0} {P Q : X → Type 0} (xs : List X) → ((x : X) → P x → Q x) → AllByRecursion P xs → AllByRecursion Q xs
All-map [] f h = tt
All-map (x ∷ xs) f h = (f x h.0, All-map xs f h.1)

pub All-of : {X : Type 0} {P : X → Type 0} (xs : List X) → ((x : X) → P x) → AllByRecursion P xs
All-of [] f = tt
All-of (x ∷ xs) f = (f x, All-of xs f)

pub All-append : {X : Type 0} (P : X → Type 0) (xs ys : List X) → AllByRecursion P xs → AllByRecursion P ys → AllByRecursion P (xs ++ ys)
All-append P [] ys g h = h
All-append P (x ∷ xs) ys g h = (g.0, All-append P xs ys g.1 h)

-- what holds of each, after a map
pub All-mapped : {X Y : Type 0} (P : Y → Type 0) (f : X → Y) (xs : List X) → AllByRecursion (λ x. P (f x)) xs → AllByRecursion P (map f xs)
All-mapped P f [] h = tt
All-mapped P f (x ∷ xs) h = (h.0, All-mapped P f xs h.1)

pub map-same : {X Y : Type 0} (f g : X → Y) (xs : List X) → AllByRecursion (λ x. f x ≡ g x) xs → map f xs ≡ map g xs
map-same f g [] h = refl
map-same f g (x ∷ xs) h = λ i. h.0 i ∷ map-same f g xs h.1 i

pub filter-same : {X : Type 0} (p q : X → Bool) (xs : List X) → AllByRecursion (λ x. p x ≡ q x) xs → filter p xs ≡ filter q xs
filter-same p q [] h = refl
filter-same p q (x ∷ xs) h = λ i. cond (h.0 i) (x ∷ filter-same p q xs h.1 i) (filter-same p q xs h.1 i)

pub filter-none : {X : Type 0} (p : X → Bool) (xs : List X) → NonePass p xs → filter p xs ≡ []
filter-none p [] h = refl
filter-none p (x ∷ xs) h = rw h.0 (filter-none p xs h.1)

pub total_by-same : {X : Type 0} (f g : X → ℤ) (xs : List X) → AllByRecursion (λ x. f x ≡ g x) xs → total_by f xs ≡ total_by g xs
unfolding total_by
total_by-same f g [] h = refl
total_by-same f g (x ∷ xs) h = λ i. h.0 i +ℤ total_by-same f g xs h.1 i

pub flat_map-append : {X Y : Type 0} (f : X → List Y) (xs ys : List X) → flat_map f (xs ++ ys) ≡ flat_map f xs ++ flat_map f ys
flat_map-append f [] ys = refl
flat_map-append f (x ∷ xs) ys = ap (λ zs. f x ++ zs) (flat_map-append f xs ys) ∙ sym (append_thrice (f x) (flat_map f xs) (flat_map f ys))
  where
    append_thrice : {Z : Type 0} (us bs cs : List Z) → (us ++ bs) ++ cs ≡ us ++ (bs ++ cs)
    append_thrice [] bs cs = refl
    append_thrice (a ∷ us) bs cs = ap (λ zs. a ∷ zs) (append_thrice us bs cs)

pub flat_map-same : {X Y : Type 0} (f g : X → List Y) (xs : List X) → AllByRecursion (λ x. f x ≡ g x) xs → flat_map f xs ≡ flat_map g xs
flat_map-same f g [] h = refl
flat_map-same f g (x ∷ xs) h = λ i. h.0 i ++ flat_map-same f g xs h.1 i

pub flat_map-empty : {X Y : Type 0} (f : X → List Y) (xs : List X) → AllByRecursion (λ x. f x ≡ []) xs → flat_map f xs ≡ []
flat_map-empty f [] h = refl
flat_map-empty f (x ∷ xs) h = rw h.0 (flat_map-empty f xs h.1)

pub All-filter : {X : Type 0} (P : X → Type 0) (p : X → Bool) (xs : List X) → AllByRecursion P xs → AllByRecursion P (filter p xs)
All-filter P p [] h = tt
All-filter P p (x ∷ xs) h =
    elim (p x) as (λ b. AllByRecursion P (cond b (x ∷ filter p xs) (filter p xs))) [ true ↦ (h.0, All-filter P p xs h.1) | false ↦ All-filter P p xs h.1 ]

-- what is found among some is found among more
pub find-more : {X : Type 0} (p : X → Bool) (xs ys : List X) → is_some (find p xs) ≡ true → find p (xs ++ ys) ≡ find p xs
find-more p [] ys h = absurd (cc)
find-more p (x ∷ xs) ys h = by_test (find-more p xs ys) (p x) refl
  where
    by_test : (is_some (find p xs) ≡ true → find p (xs ++ ys) ≡ find p xs) → (b : Bool) → p x ≡ b → find p (x ∷ xs ++ ys) ≡ find p (x ∷ xs)
    by_test ih true e = rw e refl
    by_test ih false e = rw e (ih (rw e at h))

pub find-new : {X : Type 0} (p : X → Bool) (xs : List X) (y : X) → is_some (find p xs) ≡ false → p y ≡ true → find p (xs ++ y ∷ []) ≡ Some y
find-new p [] y h e = rw e refl
find-new p (x ∷ xs) y h e = by_test (find-new p xs y) (p x) refl
  where
    by_test : (is_some (find p xs) ≡ false → p y ≡ true → find p (xs ++ y ∷ []) ≡ Some y) → (b : Bool) → p x ≡ b → find p (x ∷ xs ++ y ∷ []) ≡ Some y
    by_test ih true i = let k : true ≡ false = rw i at h in absurd (cc)
    by_test ih false i = rw i (ih (rw i at h) e)

-- none is found
pub find-none : {X : Type 0} (p : X → Bool) (xs : List X) → is_some (find p xs) ≡ false → NonePass p xs
find-none p [] h = tt
find-none p (x ∷ xs) h = by_test (find-none p xs) (p x) refl
  where
    by_test : (is_some (find p xs) ≡ false → NonePass p xs) → (b : Bool) → p x ≡ b → NonePass p (x ∷ xs)
    by_test ih true i = let k : true ≡ false = rw i at h in absurd (cc)
    by_test ih false i = (i, ih (rw i at h))

pub any-none : {X : Type 0} (p : X → Bool) (xs : List X) → list_any p xs ≡ false → NonePass p xs
any-none p [] h = tt
any-none p (x ∷ xs) h = by_test (any-none p xs) (p x) refl
  where
    by_test : (list_any p xs ≡ false → NonePass p xs) → (b : Bool) → p x ≡ b → NonePass p (x ∷ xs)
    by_test ih true i = let k : true ≡ false = rw i at h in absurd (cc)
    by_test ih false i = (i, ih (rw i at h))

-- an element of a list is found in it
pub find-each : {X : Type 0} (same : X → X → Bool) (xs : List X) → ((x : X) → same x x ≡ true) → AllByRecursion (λ x. is_some (find (same x) xs) ≡ true) xs
find-each same [] h = tt
find-each {X = X} same (x ∷ xs) h = (rw (h x) refl, All-map xs (λ y. more y (same y x) refl) (find-each same xs h))
  where
    more : (y : X) (b : Bool) → same y x ≡ b → is_some (find (same y) xs) ≡ true → is_some (find (same y) (x ∷ xs)) ≡ true
    more y true e h = rw e refl
    more y false e h = rw e h

-- what holds of each holds of the one that is found
pub find-All : {X : Type 0} (P : X → Type 0) (p : X → Bool) (xs : List X) (x : X) → AllByRecursion P xs → find p xs ≡ Some x → P x
find-All P p [] x h e = absurd (cc)
find-All P p (y ∷ xs) x h e = by_test (find-All P p xs x h.1) (p y) refl
  where
    by_test : (find p xs ≡ Some x → P x) → (b : Bool) → p y ≡ b → P x
    by_test ih true i = let k : Some y ≡ Some x = rw i at e in let j : y ≡ x = cc in subst P j h.0
    by_test ih false i = ih (rw i at e)

-- a map over a list with one more
pub map-last : {X Y : Type 0} (f : X → Y) (xs : List X) (x : X) → map f (xs ++ x ∷ []) ≡ map f xs ++ f x ∷ []
map-last f [] x = refl
map-last f (y ∷ xs) x = ap (λ zs. f y ∷ zs) (map-last f xs x)
