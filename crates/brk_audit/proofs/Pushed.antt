-- Elements that a loop pushes one after another.
use Rattle.std.proofs.Common.{◌≡◌, ℕ, ◌+◌, ◌<◌, Bool, true, false, cond, List, [], ◌∷◌, ◌++◌, sym, ◌∙◌, ap, map, filter, take, length, get_or, append-nil}
use Rattle.std.proofs.lemmas.List.{append_assoc, map-append, take_more}
use Rattle.std.proofs.lemmas.List.Elements.{filter-append}

-- the images of a first part of a list, and of one element more
pub images_more : {Y Z : Type 0} (to : Y → Z) (rows : List Y) (i : ℕ) (row : Y) → i < length rows → row ≡ get_or rows i row
    → map to (take i rows) ++ to row ∷ [] ≡ map to (take (i + 1) rows)
images_more to rows i row h r =
    ap (λ y. map to (take i rows) ++ to y ∷ []) r ∙ sym (map-append to (take i rows) (get_or rows i row ∷ [])) ∙ sym (ap (map to) (take_more rows i row h))

-- one element more is pushed behind the images of a first part
pub pushed_more : {X Y Z : Type 0} (of : X → Z) (to : Y → Z) (rows : List Y) (i : ℕ) (row : Y) (before after : List X) (x : X)
    → i < length rows → row ≡ get_or rows i row → map of before ≡ map to (take i rows) → of x ≡ to row → after ≡ before ++ x ∷ []
    → map of after ≡ map to (take (i + 1) rows)
pushed_more of to rows i row before after x h r e same new =
    ap (map of) new ∙ map-append of before (x ∷ []) ∙ ap (λ zs. zs ++ of x ∷ []) e ∙ ap (λ z. map to (take i rows) ++ z ∷ []) same ∙ images_more to rows i row h r

-- the same, behind other elements
pub pushed_behind : {X Y Z : Type 0} (of : X → Z) (to : Y → Z) (rows : List Y) (i : ℕ) (row : Y) (first : List Z) (before after : List X) (x : X)
    → i < length rows → row ≡ get_or rows i row → map of before ≡ first ++ map to (take i rows) → of x ≡ to row → after ≡ before ++ x ∷ []
    → map of after ≡ first ++ map to (take (i + 1) rows)
pushed_behind of to rows i row first before after x h r e same new =
    ap (map of) new ∙ map-append of before (x ∷ []) ∙ ap (λ zs. zs ++ of x ∷ []) e ∙ ap (λ z. (first ++ map to (take i rows)) ++ z ∷ []) same
    ∙ append_assoc first (map to (take i rows)) (to row ∷ []) ∙ ap (λ zs. first ++ zs) (images_more to rows i row h r)

-- the images of a first part that pass a test, and those of one element more
images_kept : {Y Z : Type 0} (test : Z → Bool) (to : Y → Z) (rows : List Y) (i : ℕ) (row : Y) (b : Bool) → i < length rows → row ≡ get_or rows i row → test (to row) ≡ b
    → filter test (map to (take i rows)) ++ cond b (to row ∷ []) [] ≡ filter test (map to (take (i + 1) rows))
images_kept test to rows i row b h r e =
    ap (λ t. filter test (map to (take i rows)) ++ cond t (to row ∷ []) []) (sym e) ∙ sym (filter-append test (map to (take i rows)) (to row ∷ []))
    ∙ ap (filter test) (images_more to rows i row h r)

-- an element whose image passes the test is pushed
pub kept_more : {X Y Z : Type 0} (test : Z → Bool) (of : X → Z) (to : Y → Z) (rows : List Y) (i : ℕ) (row : Y) (before after : List X) (x : X)
    → i < length rows → row ≡ get_or rows i row → map of before ≡ filter test (map to (take i rows)) → test (to row) ≡ true → of x ≡ to row → after ≡ before ++ x ∷ []
    → map of after ≡ filter test (map to (take (i + 1) rows))
kept_more test of to rows i row before after x h r e passes same new =
    ap (map of) new ∙ map-append of before (x ∷ []) ∙ ap (λ zs. zs ++ of x ∷ []) e ∙ ap (λ z. filter test (map to (take i rows)) ++ z ∷ []) same
    ∙ images_kept test to rows i row true h r passes

-- an element whose image fails the test is passed over
pub passed_more : {X Y Z : Type 0} (test : Z → Bool) (of : X → Z) (to : Y → Z) (rows : List Y) (i : ℕ) (row : Y) (before : List X)
    → i < length rows → row ≡ get_or rows i row → map of before ≡ filter test (map to (take i rows)) → test (to row) ≡ false
    → map of before ≡ filter test (map to (take (i + 1) rows))
passed_more test of to rows i row before h r e stops =
    e ∙ sym (append-nil (filter test (map to (take i rows)))) ∙ images_kept test to rows i row false h r stops
