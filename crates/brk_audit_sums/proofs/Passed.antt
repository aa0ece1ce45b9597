-- Properties of each element that a loop has passed.
use Rattle.std.proofs.Common.{◌≡◌, ℕ, zero, suc, ◌+◌, ◌<◌, ◌≤◌, List, [], ◌∷◌, ◌++◌, sym, ◌∙◌, ap, map, subst, take, length, get_or, arith}
use Rattle.std.specs.List.{AllByRecursion}
use Rattle.std.proofs.lemmas.List.{map-append, take_all, take_more}
use Rattle.brk_trade_books.proofs.Same.{All-append}

all_at : {X : Type 0} (P : X → Type 0) (xs : List X) (i : ℕ) (d : X) → i < length xs → AllByRecursion P xs → P (get_or xs i d)
all_at P [] i d h a = absurd (omega arith)
all_at P (x ∷ xs) zero d h a = a.0
all_at P (x ∷ xs) (suc i) d h a = all_at P xs i d (omega arith) a.1

-- what holds of each element holds of the one at a place
pub holds_of_item : {X : Type 0} (P : X → Type 0) (xs : List X) (i : ℕ) (x : X) → i < length xs → x ≡ get_or xs i x → AllByRecursion P xs → P x
holds_of_item P xs i x h r a = subst P (sym r) (all_at P xs i x h a)

-- it holds of one element more
pub holds_of_more : {X : Type 0} (P : X → Type 0) (xs : List X) (i : ℕ) (x : X) → i < length xs → x ≡ get_or xs i x → AllByRecursion P (take i xs) → P x
    → AllByRecursion P (take (i + 1) xs)
holds_of_more P xs i x h r a p =
    subst (AllByRecursion P) (sym (take_more xs i x h)) (All-append P (take i xs) (get_or xs i x ∷ []) a (subst P r p, tt))

-- at the end it holds of all
pub holds_of_all : {X : Type 0} (P : X → Type 0) (xs : List X) (i : ℕ) → length xs ≤ i → AllByRecursion P (take i xs) → AllByRecursion P xs
holds_of_all P xs i h a = subst (AllByRecursion P) (take_all i xs h) a

-- an element whose image is that of the next row is pushed behind the images of those before
pub pushed_more : {X Y Z : Type 0} (of : X → Z) (to : Y → Z) (rows : List Y) (i : ℕ) (row : Y) (before after : List X) (x : X)
    → i < length rows → row ≡ get_or rows i row → map of before ≡ map to (take i rows) → of x ≡ to row → after ≡ before ++ x ∷ []
    → map of after ≡ map to (take (i + 1) rows)
pushed_more of to rows i row before after x h r e same new =
    ap (map of) new ∙ map-append of before (x ∷ []) ∙ ap (λ zs. zs ++ of x ∷ []) e ∙ ap (λ z. map to (take i rows) ++ z ∷ []) same
    ∙ ap (λ y. map to (take i rows) ++ to y ∷ []) r ∙ sym (map-append to (take i rows) (get_or rows i row ∷ [])) ∙ sym (ap (map to) (take_more rows i row h))
