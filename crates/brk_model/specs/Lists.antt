-- Functions on lists that std lacks: sorts, a signed sum, updates, and replacement in texts.
use Rattle.std.specs.Prelude.{ℕ, zero, suc, ◌-◌, Bool, true, false, not, ◌&&◌, ◌||◌, ◌==◌, nat_eq, nat_lt, if◌then◌else◌, List, [], ◌∷◌, ◌++◌, length, map}
use Rattle.std.specs.Prelude.{filter, ℤ, pos, negsuc, ◌+ℤ◌, bytes_eq}
use Rattle.std.specs.List.{starts_with, list_any}

-- The list with `x` inserted before the first `y` for which `before y x` is false, or at the end.
abbrev pub insert_by : {X : Type 0} → (X → X → Bool) → X → List X → List X
insert_by before x [] = x ∷ []
insert_by before x (y ∷ ys) = if before y x then y ∷ insert_by before x ys else x ∷ y ∷ ys

-- The elements stably sorted by `before`, a strict weak order, ascending.
unfoldable pub sort_by : {X : Type 0} → (X → X → Bool) → List X → List X
sort_by before [] = []
sort_by before (x ∷ xs) = insert_by before x (sort_by before xs)

-- The elements sorted by the number `key x`, ascending; the sort is stable.
abbrev pub sort_by_key : {X : Type 0} → (X → ℕ) → List X → List X
sort_by_key key xs = sort_by (λ x y. nat_lt (key x) (key y)) xs

-- True if `a` is less than `a'`, or they are equal and `b` is less than `b'`.
abbrev pub is_pair_less : ℕ → ℕ → ℕ → ℕ → Bool
is_pair_less a a' b b' = nat_lt a a' || ((a == a') && nat_lt b b')

-- The sum of the signed numbers `f x` over the elements `x` of a list; 0 for the empty list.
unfoldable pub total_by : {X : Type 0} → (X → ℤ) → List X → ℤ
total_by f [] = pos 0
total_by f (x ∷ xs) = f x +ℤ total_by f xs

-- True if the signed number is 0.
abbrev pub is_zero : ℤ → Bool
is_zero (pos zero) = true
is_zero (pos (suc n)) = false
is_zero (negsuc n) = false

-- The list with `change` applied to each element that passes `test`; the others are unchanged.
abbrev pub update_where : {X : Type 0} → (X → Bool) → (X → X) → List X → List X
update_where test change xs = map (λ x. if test x then change x else x) xs

-- True if the list `ns` contains the number `n`.
abbrev pub contains_number : ℕ → List ℕ → Bool
contains_number n ns = list_any (λ m. m == n) ns

-- True if no number occurs twice in the list.
abbrev pub all_distinct : List ℕ → Bool
all_distinct [] = true
all_distinct (n ∷ ns) = not (contains_number n ns) && all_distinct ns

-- The texts without duplicates, in the sequence of their first occurrences.
abbrev pub distinct_texts : List (List ℕ) → List (List ℕ)
distinct_texts [] = []
distinct_texts (t ∷ ts) = t ∷ filter (λ u. not (bytes_eq u t)) (distinct_texts ts)

-- True if the text contains `part` as a run of adjacent bytes; always true for an empty `part`.
abbrev pub contains_text : List ℕ → List ℕ → Bool
contains_text part [] = starts_with nat_eq [] part
contains_text part (c ∷ text) = starts_with nat_eq (c ∷ text) part || contains_text part text

-- The text without its first `skip` bytes and, in the rest, with each occurrence of `part` (not
-- empty) replaced by `new`, from the left, without overlap.
abbrev pub skip_and_replace_text : ℕ → List ℕ → List ℕ → List ℕ → List ℕ
skip_and_replace_text skip part new [] = []
skip_and_replace_text (suc skip) part new (c ∷ text) = skip_and_replace_text skip part new text
skip_and_replace_text zero part new (c ∷ text) =
    if starts_with nat_eq (c ∷ text) part then new ++ skip_and_replace_text (length part - 1) part new text
    else c ∷ skip_and_replace_text zero part new text

-- The text with each `part` (not empty) replaced by `new`, from the left, without overlap.
unfoldable pub replace_text : List ℕ → List ℕ → List ℕ → List ℕ
replace_text part new text = skip_and_replace_text 0 part new text

-- True if the first text is less by the lexicographic order of bytes, as is any proper prefix.
abbrev pub is_text_less : List ℕ → List ℕ → Bool
is_text_less xs [] = false
is_text_less [] (y ∷ ys) = true
is_text_less (x ∷ xs) (y ∷ ys) = nat_lt x y || (not (nat_lt y x) && is_text_less xs ys)
