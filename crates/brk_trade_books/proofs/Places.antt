-- A list around one of its elements, and changes of the elements that pass a test.
use Rattle.std.proofs.Common.{◌≡◌, Bool, true, false, cond, List, [], ◌∷◌, ◌++◌, refl, subst, ◌∙◌, ap, map, filter, Option, Some, None}
use Rattle.std.specs.Prelude.{flat_map, find, is_some}
use Rattle.std.specs.List.{AllByRecursion}
use Rattle.brk_model.specs.Lists.{update_where}
use Rattle.brk_trade_books.proofs.Same.{NonePass}

-- ---- an element among others

pub map-append : {A B : Type 0} (f : A → B) (xs ys : List A) → map f (xs ++ ys) ≡ map f xs ++ map f ys
map-append f [] ys = refl
map-append f (x ∷ xs) ys = ap (λ zs. f x ∷ zs) (map-append f xs ys)

pub append_assoc : {Z : Type 0} (us bs cs : List Z) → (us ++ bs) ++ cs ≡ us ++ (bs ++ cs)
append_assoc [] bs cs = refl
append_assoc (a ∷ us) bs cs = ap (λ zs. a ∷ zs) (append_assoc us bs cs)

-- a change of none leaves the list
update_where-none : {X : Type 0} (p : X → Bool) (f : X → X) (xs : List X) → NonePass p xs → update_where p f xs ≡ xs
update_where-none p f [] h = refl
update_where-none p f (x ∷ xs) h = rw h.0 (ap (λ ys. x ∷ ys) (update_where-none p f xs h.1))

-- a change of one element, and of no other
pub update_where-one : {X : Type 0} (p : X → Bool) (f : X → X) (xs : List X) (x : X) (ys : List X)
    → NonePass p xs → p x ≡ true → NonePass p ys → update_where p f (xs ++ x ∷ ys) ≡ xs ++ f x ∷ ys
update_where-one p f [] x ys g e h = rw e (ap (λ zs. f x ∷ zs) (update_where-none p f ys h))
update_where-one p f (z ∷ xs) x ys g e h = rw g.0 (ap (λ zs. z ∷ zs) (update_where-one p f xs x ys g.1 e h))

pub filter-append : {X : Type 0} (p : X → Bool) (xs ys : List X) → filter p (xs ++ ys) ≡ filter p xs ++ filter p ys
filter-append p [] ys = refl
filter-append p (x ∷ xs) ys =
    elim (p x) as (λ b. cond b (x ∷ filter p (xs ++ ys)) (filter p (xs ++ ys)) ≡ cond b (x ∷ filter p xs) (filter p xs) ++ filter p ys)
    [ true ↦ ap (λ zs. x ∷ zs) (filter-append p xs ys) | false ↦ filter-append p xs ys ]

-- an element that passes, or not, among others
pub filter-one : {X : Type 0} (p : X → Bool) (xs : List X) (x : X) (ys : List X) → p x ≡ true → filter p (xs ++ x ∷ ys) ≡ filter p xs ++ x ∷ filter p ys
filter-one p xs x ys e = filter-append p xs (x ∷ ys) ∙ rw e refl

pub filter-not_one : {X : Type 0} (p : X → Bool) (xs : List X) (x : X) (ys : List X) → p x ≡ false → filter p (xs ++ x ∷ ys) ≡ filter p xs ++ filter p ys
filter-not_one p xs x ys e = filter-append p xs (x ∷ ys) ∙ rw e refl

pub filter-all : {X : Type 0} (p : X → Bool) (xs : List X) → AllByRecursion (λ x. p x ≡ true) xs → filter p xs ≡ xs
filter-all p [] h = refl
filter-all p (x ∷ xs) h = rw h.0 (ap (λ ys. x ∷ ys) (filter-all p xs h.1))

-- where an element was found: those before it do not pass the test
pub record FoundAt (X : Type 0) (p : X → Bool) (x : X) (xs : List X) : Type 0 where
  pub before : List X
  pub after : List X
  pub stands : xs ≡ before ++ x ∷ after
  pub others : NonePass p before
  pub passes : p x ≡ true

pub find-at : {X : Type 0} (p : X → Bool) (xs : List X) (x : X) → find p xs ≡ Some x → FoundAt X p x xs
find-at p [] x e = absurd (cc)
find-at {X = X} p (y ∷ xs) x e = by_test (find-at p xs x) (p y) refl
  where
    by_test : (find p xs ≡ Some x → FoundAt X p x xs) → (b : Bool) → p y ≡ b → FoundAt X p x (y ∷ xs)
    by_test ih true i =
        let k : Some y ≡ Some x = rw i at e in let j : y ≡ x = cc in
        record { before = []; after = xs; stands = ap (λ z. z ∷ xs) j; others = tt; passes = subst (λ z. p z ≡ true) j i }
    by_test ih false i =
        let f : FoundAt X p x xs = ih (rw i at e) in
        record { before = y ∷ f.before; after = f.after; stands = ap (λ zs. y ∷ zs) f.stands; others = (i, f.others); passes = f.passes }

pub some_of : {X : Type 0} (o : Option X) → is_some o ≡ true → (x : X) × (o ≡ Some x)
some_of None h = absurd (cc)
some_of (Some x) h = (x, refl)

-- ---- changes that are not seen

pub map-unseen : {X Y : Type 0} (p : X → Bool) (g : X → X) (f : X → Y) (xs : List X) → ((x : X) → f (g x) ≡ f x) → map f (update_where p g xs) ≡ map f xs
map-unseen p g f [] h = refl
map-unseen p g f (x ∷ xs) h = λ i. unseen (p x) i ∷ map-unseen p g f xs h i
  where
    unseen : (b : Bool) → f (cond b (g x) x) ≡ f x
    unseen true = h x
    unseen false = refl

pub flat_map-unseen : {X Y : Type 0} (p : X → Bool) (g : X → X) (f : X → List Y) (xs : List X) → ((x : X) → f (g x) ≡ f x) → flat_map f (update_where p g xs) ≡ flat_map f xs
flat_map-unseen p g f [] h = refl
flat_map-unseen p g f (x ∷ xs) h = λ i. unseen (p x) i ++ flat_map-unseen p g f xs h i
  where
    unseen : (b : Bool) → f (cond b (g x) x) ≡ f x
    unseen true = h x
    unseen false = refl

pub is_some-unseen : {X : Type 0} (p : X → Bool) (f : X → X) (q : X → Bool) (xs : List X) → ((x : X) → q (f x) ≡ q x) → is_some (find q (update_where p f xs)) ≡ is_some (find q xs)
is_some-unseen p f q [] h = refl
is_some-unseen {X = X} p f q (x ∷ xs) h =
    by_test (p x) ∙ ap (λ b. cond b true (is_some (find q (update_where p f xs)))) (unseen (p x)) ∙ either (q x) (is_some-unseen p f q xs h)
  where
    some_cond : (b : Bool) (y : Option X) (z : X) → is_some (cond b (Some z) y) ≡ cond b true (is_some y)
    some_cond true y z = refl
    some_cond false y z = refl

    by_test : (b : Bool) → is_some (find q (cond b (f x) x ∷ update_where p f xs)) ≡ cond (q (cond b (f x) x)) true (is_some (find q (update_where p f xs)))
    by_test b = some_cond (q (cond b (f x) x)) (find q (update_where p f xs)) (cond b (f x) x)

    either : (b : Bool) → is_some (find q (update_where p f xs)) ≡ is_some (find q xs) → cond b true (is_some (find q (update_where p f xs))) ≡ is_some (cond b (Some x) (find q xs))
    either true e = refl
    either false e = e

    unseen : (b : Bool) → q (cond b (f x) x) ≡ q x
    unseen true = h x
    unseen false = refl

-- what a change keeps of each
pub All-updated : {X : Type 0} (P : X → Type 0) (p : X → Bool) (f : X → X) (xs : List X) → ((x : X) → P x → P (f x)) → AllByRecursion P xs → AllByRecursion P (update_where p f xs)
All-updated P p f [] g h = tt
All-updated P p f (x ∷ xs) g h = (changed (p x), All-updated P p f xs g h.1)
  where
    changed : (b : Bool) → P (cond b (f x) x)
    changed true = g x h.0
    changed false = h.0
