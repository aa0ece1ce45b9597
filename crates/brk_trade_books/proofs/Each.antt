-- Changes made for each element of a list, in any order if they do not affect each other.
use Rattle.std.proofs.Common.{◌≡◌, Bool, true, false, not, cond, List, [], ◌∷◌, ◌++◌, refl, sym, ◌∙◌, ap, map, filter, reverse}
use Rattle.std.specs.Prelude.{⊤, fold}
use Rattle.std.specs.List.{AllByRecursion}
use Rattle.brk_model.specs.Lists.{insert_by, sort_by}
use Rattle.brk_model.specs.Keys.{KeyPart, rows_sorted_by_key, insert_row_by_key}
use Rattle.brk_lots.specs.Lots.{list_reversed_if_lifo}
use Rattle.brk_lots.proofs.Ends.{reverse_first}
use Rattle.brk_trade_books.proofs.Order.{rows_commute}
use Rattle.brk_trade_books.proofs.LotReading.{All-sort, all_pass}

-- the changes of all, that of the first one last
abbrev pub each : {X S : Type 0} → (X → S → S) → List X → S → S
each f [] s = s
each f (x ∷ xs) s = f x (each f xs s)

-- the changes of two may be made either way round
abbrev pub Commute : {X S : Type 0} → (X → S → S) → X → X → Type 0
Commute {S = S} f x y = (s : S) → f x (f y s) ≡ f y (f x s)

abbrev pub AllCommute : {X S : Type 0} → (X → S → S) → List X → Type 0
AllCommute f [] = ⊤
AllCommute f (x ∷ xs) = AllByRecursion (Commute f x) xs × AllCommute f xs

past_all : {X S : Type 0} (f : X → S → S) (x : X) (ys : List X) (s : S) → AllByRecursion (Commute f x) ys → f x (each f ys s) ≡ each f ys (f x s)
past_all f x [] s h = refl
past_all f x (y ∷ ys) s h = h.0 (each f ys s) ∙ ap (f y) (past_all f x ys s h.1)

each_insert : {X S : Type 0} (f : X → S → S) (before : X → X → Bool) (x : X) (ys : List X) (s : S) → AllByRecursion (Commute f x) ys
    → each f (insert_by before x ys) s ≡ f x (each f ys s)
each_insert f before x [] s h = refl
each_insert {X = X} f before x (y ∷ ys) s h = by_test (each_insert f before x ys s h.1) (before y x)
  where
    by_test : each f (insert_by before x ys) s ≡ f x (each f ys s) → (b : Bool) → each f (cond b (y ∷ insert_by before x ys) (x ∷ y ∷ ys)) s ≡ f x (each f (y ∷ ys) s)
    by_test ih true = ap (f y) ih ∙ sym (h.0 (each f ys s))
    by_test ih false = refl

pub each_sort : {X S : Type 0} (f : X → S → S) (before : X → X → Bool) (xs : List X) (s : S) → AllCommute f xs → each f (sort_by before xs) s ≡ each f xs s
unfolding sort_by
each_sort f before [] s h = refl
each_sort f before (x ∷ xs) s h =
    each_insert f before x (sort_by before xs) s (All-sort (Commute f x) before xs h.0) ∙ ap (f x) (each_sort f before xs s h.1)

-- from the first on
fold_front : {X S : Type 0} (f : X → S → S) (xs : List X) (s : S) → AllCommute f xs → fold (λ s x. f x s) s xs ≡ each f xs s
fold_front f [] s h = refl
fold_front f (x ∷ xs) s h = fold_front f xs (f x s) h.1 ∙ sym (past_all f x xs s h.0)

fold_more : {X S : Type 0} (f : X → S → S) (xs : List X) (x : X) (s : S) → fold (λ s x. f x s) s (xs ++ x ∷ []) ≡ f x (fold (λ s x. f x s) s xs)
fold_more f [] x s = refl
fold_more f (y ∷ xs) x s = fold_more f xs x (f y s)

fold_back : {X S : Type 0} (f : X → S → S) (xs : List X) (s : S) → fold (λ s x. f x s) s (reverse xs) ≡ each f xs s
fold_back f [] s = refl
fold_back f (x ∷ xs) s = ap (fold (λ s x. f x s) s) (reverse_first x xs) ∙ fold_more f (reverse xs) x s ∙ ap (f x) (fold_back f xs s)

-- from either end
pub fold_end : {X S : Type 0} (f : X → S → S) (from_back : Bool) (xs : List X) (s : S) → AllCommute f xs → fold (λ s x. f x s) s (list_reversed_if_lifo from_back xs) ≡ each f xs s
fold_end f true xs s h = fold_back f xs s
fold_end f false xs s h = fold_front f xs s h

-- of those that pass a test
pub each_filter : {X S : Type 0} (f : X → S → S) (p : X → Bool) (xs : List X) (s : S) → each f (filter p xs) s ≡ each (λ x s. cond (p x) (f x s) s) xs s
each_filter f p [] s = refl
each_filter {X = X} f p (x ∷ xs) s = by_test (p x) ∙ ap (λ t. cond (p x) (f x t) t) (each_filter f p xs s)
  where
    by_test : (b : Bool) → each f (cond b (x ∷ filter p xs) (filter p xs)) s ≡ cond b (f x (each f (filter p xs) s)) (each f (filter p xs) s)
    by_test true = refl
    by_test false = refl

pub each_map : {X Y S : Type 0} (f : Y → S → S) (g : X → Y) (xs : List X) (s : S) → each f (map g xs) s ≡ each (λ x. f (g x)) xs s
each_map f g [] s = refl
each_map f g (x ∷ xs) s = ap (f (g x)) (each_map f g xs s)

-- changes that are made of some elements alone
pub commute_if : {X S : Type 0} (f : X → S → S) (p : X → Bool) (x y : X) → Commute f x y → Commute (λ x s. cond (p x) (f x s) s) x y
commute_if f p x y h s = by_test (p x) (p y)
  where
    by_test : (b c : Bool) → cond b (f x (cond c (f y s) s)) (cond c (f y s) s) ≡ cond c (f y (cond b (f x s) s)) (cond b (f x s) s)
    by_test true true = h s
    by_test true false = refl
    by_test false true = refl
    by_test false false = refl

-- an element among others
pub each_middle : {X S : Type 0} (f : X → S → S) (xs : List X) (x : X) (ys : List X) (s : S) → AllByRecursion (Commute f x) xs → each f (xs ++ x ∷ ys) s ≡ f x (each f (xs ++ ys) s)
each_middle f [] x ys s h = refl
each_middle f (y ∷ xs) x ys s h = ap (f y) (each_middle f xs x ys s h.1) ∙ sym (h.0 (each f (xs ++ ys) s))

-- rows that pass a test are put in after the others, where they differ from them in their keys
pub by_key-parts : {Row : Type 0} (key : Row → List KeyPart) (p : Row → Bool) (xs : List Row) → ((x y : Row) → p x ≡ false → p y ≡ true → key x ≡ key y → ⊥)
    → rows_sorted_by_key key xs ≡ each (insert_row_by_key key) (filter p xs) (rows_sorted_by_key key (filter (λ x. not (p x)) xs))
unfolding sort_by
by_key-parts key p [] h = refl
by_key-parts {Row = Row} key p (x ∷ xs) h = ap (insert_row_by_key key x) (by_key-parts key p xs h) ∙ by_test (p x) refl
  where
    P : List Row
    P = filter p xs

    N : List Row
    N = filter (λ x. not (p x)) xs

    others : p x ≡ false → (ys : List Row) → AllByRecursion (λ y. p y ≡ true) ys → AllByRecursion (Commute (insert_row_by_key key) x) ys
    others e [] k = tt
    others e (y ∷ ys) k = ((λ s. rows_commute key x y s (h x y e k.0)), others e ys k.1)

    by_test : (b : Bool) → p x ≡ b
        → insert_row_by_key key x (each (insert_row_by_key key) P (rows_sorted_by_key key N))
        ≡ each (insert_row_by_key key) (cond b (x ∷ P) P) (rows_sorted_by_key key (cond (not b) (x ∷ N) N))
    by_test true e = refl
    by_test false e = past_all (insert_row_by_key key) x P (rows_sorted_by_key key N) (others e P (all_pass p xs))
