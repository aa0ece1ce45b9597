-- The rows of a group whose stamps are in a span.
use Rattle.std.proofs.Common.{◌≡◌, ◌∙◌, ◌&&◌, ℕ, zero, suc, Bool, true, false, cond, List, [], ◌∷◌, map, filter, take, drop, refl, sym, ap, subst, arith}
use Rattle.std.specs.Prelude.{nat_le}
use Rattle.std.specs.List.{AllByRecursion}
use Rattle.std.proofs.lemmas.Bool.Decides.{nat_tests}
use Rattle.std.proofs.lemmas.List.{drop-map, take-map}
use Rattle.brk_model.specs.Lists.{sort_by}
use Rattle.brk_store_index.specs.declared.age.RowAge.{RowAge}
use Rattle.brk_store_index.specs.Ages.{AreAgesOf, IsPlaceOfStamp, is_before}
use Rattle.brk_store_index.proofs.Elements.{has_filtered, has_kept}
use Rattle.brk_store_index.proofs.Ordered.{RisesBy, Sorted, ages_are, all_of, each, filtered_rises, has_sorted, is_row_older, onward, row_age, rows_sorted, same_sorted, sorted_has, total}
use Rattle.brk_store_index.proofs.Rising.{never_older}

-- ---- lists

nothing_dropped : {X : Type 0} (m : ℕ) → drop {A = X} m [] ≡ []
nothing_dropped zero = refl
nothing_dropped (suc m) = refl

nothing_taken : {X : Type 0} (m : ℕ) → take {A = X} m [] ≡ []
nothing_taken zero = refl
nothing_taken (suc m) = refl

-- a list that a test cuts in two
kept_behind : {X : Type 0} (p : X → Bool) (n : ℕ) (xs : List X) → AllByRecursion (λ x. p x ≡ false) (take n xs) → AllByRecursion (λ x. p x ≡ true) (drop n xs) → drop n xs ≡ filter p xs
kept_behind p n [] low high = nothing_dropped n
kept_behind p zero (x ∷ xs) low high = sym (ap (λ b. cond b (x ∷ filter p xs) (filter p xs)) high.0 ∙ ap (λ l. x ∷ l) (sym (kept_behind p zero xs tt high.1)))
kept_behind p (suc n) (x ∷ xs) low high = kept_behind p n xs low.1 high ∙ sym (ap (λ b. cond b (x ∷ filter p xs) (filter p xs)) low.0)

kept_before : {X : Type 0} (p : X → Bool) (n : ℕ) (xs : List X) → AllByRecursion (λ x. p x ≡ true) (take n xs) → AllByRecursion (λ x. p x ≡ false) (drop n xs) → take n xs ≡ filter p xs
kept_before p n [] low high = nothing_taken n
kept_before p zero (x ∷ xs) low high = kept_before p zero xs tt high.1 ∙ sym (ap (λ b. cond b (x ∷ filter p xs) (filter p xs)) high.0)
kept_before p (suc n) (x ∷ xs) low high = ap (λ l. x ∷ l) (kept_before p n xs low.1 high) ∙ sym (ap (λ b. cond b (x ∷ filter p xs) (filter p xs)) low.0)

all_taken : {X : Type 0} (P : X → Type 0) (k j : ℕ) (xs : List X) → AllByRecursion P (take k xs) → AllByRecursion P (take k (take j xs))
all_taken P zero zero xs all = tt
all_taken P zero (suc j) [] all = tt
all_taken P zero (suc j) (x ∷ xs) all = tt
all_taken P (suc k) zero xs all = tt
all_taken P (suc k) (suc j) [] all = tt
all_taken P (suc k) (suc j) (x ∷ xs) all = (all.0, all_taken P k j xs all.1)

all_dropped : {X : Type 0} (P : X → Type 0) (k j : ℕ) (xs : List X) → AllByRecursion P (drop k xs) → AllByRecursion P (drop k (take j xs))
all_dropped P zero zero xs all = tt
all_dropped P zero (suc j) [] all = tt
all_dropped P zero (suc j) (x ∷ xs) all = (all.0, all_dropped P zero j xs all.1)
all_dropped P (suc k) zero xs all = tt
all_dropped P (suc k) (suc j) [] all = tt
all_dropped P (suc k) (suc j) (x ∷ xs) all = all_dropped P k j xs all

all_mapped : {X Y : Type 0} (P : Y → Type 0) (f : X → Y) (xs : List X) → AllByRecursion P (map f xs) → AllByRecursion (λ x. P (f x)) xs
all_mapped P f [] all = tt
all_mapped P f (x ∷ xs) all = (all.0, all_mapped P f xs all.1)

all_changed : {X : Type 0} (P Q : X → Type 0) → ((x : X) → P x → Q x) → (xs : List X) → AllByRecursion P xs → AllByRecursion Q xs
all_changed P Q f [] all = tt
all_changed P Q f (x ∷ xs) all = (f x all.0, all_changed P Q f xs all.1)

pub filter_both : {X : Type 0} (p q : X → Bool) (xs : List X) → filter p (filter q xs) ≡ filter (λ x. q x && p x) xs
filter_both p q [] = refl
filter_both {X} p q (x ∷ xs) = go (q x) (p x) refl (filter_both p q xs)
  where
    go : (a b : Bool) → p x ≡ b → filter p (filter q xs) ≡ filter (λ x. q x && p x) xs
        → filter p (cond a (x ∷ filter q xs) (filter q xs)) ≡ cond (a && b) (x ∷ filter (λ x. q x && p x) xs) (filter (λ x. q x && p x) xs)
    go true true e more = ap (λ b. cond b (x ∷ filter p (filter q xs)) (filter p (filter q xs))) e ∙ ap (λ l. x ∷ l) more
    go true false e more = ap (λ b. cond b (x ∷ filter p (filter q xs)) (filter p (filter q xs))) e ∙ more
    go false b e more = more

filter_sorts : {X : Type 0} (before : X → X → Bool) (p : X → Bool) (xs : List X) → Sorted before xs → Sorted before (filter p xs)
filter_sorts before p [] s = tt
filter_sorts {X} before p (x ∷ xs) s = go (p x) (filter_sorts before p xs s.1)
  where
    go : (b : Bool) → Sorted before (filter p xs) → Sorted before (cond b (x ∷ filter p xs) (filter p xs))
    go true more = (all_of (λ y. before x y ≡ true) (filter p xs) (λ y h. each (λ y. before x y ≡ true) xs y s.0 (has_filtered p xs y h).0), more)
    go false more = more

-- ---- tests of stamps

at_least : (a n : ℕ) → is_before false a n ≡ false → nat_le n a ≡ true
at_least a n p = grind (arith, nat_tests)

less_than : (a n : ℕ) → is_before false a n ≡ true → nat_le n a ≡ false
less_than a n p = grind (arith, nat_tests)

at_most : (a n : ℕ) → is_before true a n ≡ true → nat_le a n ≡ true
at_most a n p = grind (arith, nat_tests)

more_than : (a n : ℕ) → is_before true a n ≡ false → nat_le a n ≡ false
more_than a n p = grind (arith, nat_tests)

-- ---- rows in a span

module _ {Row : Type 0} (id_of stamp_of : Row → ℕ) where
  -- a filter of sorted rows sorts the rows that it keeps
  pub filter_of_sorted : (p : Row → Bool) (rows : List Row) → RisesBy id_of rows → filter p (sort_by (is_row_older id_of stamp_of) rows) ≡ sort_by (is_row_older id_of stamp_of) (filter p rows)
  filter_of_sorted p rows up =
      let older = is_row_older id_of stamp_of in
      let on = onward id_of stamp_of in
      let or = total id_of stamp_of in
      same_sorted older (λ x. never_older (row_age id_of stamp_of x)) on (filter p (sort_by older rows)) (sort_by older (filter p rows))
      (filter_sorts older p (sort_by older rows) (rows_sorted id_of older on or rows up)) (rows_sorted id_of older on or (filter p rows) (filtered_rises id_of p rows up))
      (λ z h.
      let k = has_filtered p (sort_by older rows) z h in
      sorted_has id_of older on or (filter p rows) z (has_kept p rows z (has_sorted id_of older on or rows z k.0) k.1))
      (λ z h.
      let k = has_filtered p rows z (has_sorted id_of older on or (filter p rows) z h) in
      has_kept p (sort_by older rows) z (sorted_has id_of older on or rows z k.0) k.1)

  module _ (rows : List Row) (up : RisesBy id_of rows) (ages : List RowAge) (are : AreAgesOf ages (map (λ r. record { stamp = stamp_of r; id = id_of r }) rows)) where
    abbrev sorted : List Row
    sorted = sort_by (is_row_older id_of stamp_of) rows

    before_place : (i : Bool) (n k : ℕ) → IsPlaceOfStamp ages n i k → AllByRecursion (λ r. is_before i (stamp_of r) n ≡ true) (take k sorted)
    before_place i n k place =
        all_mapped (λ (a : RowAge). is_before i a.stamp n ≡ true) (row_age id_of stamp_of) (take k sorted)
        (subst (AllByRecursion (λ (a : RowAge). is_before i a.stamp n ≡ true)) (ap (take k) (ages_are id_of stamp_of rows up ages are) ∙ take-map (row_age id_of stamp_of) k sorted) (place.before are.rising))

    from_place : (i : Bool) (n k : ℕ) → IsPlaceOfStamp ages n i k → AllByRecursion (λ r. is_before i (stamp_of r) n ≡ false) (drop k sorted)
    from_place i n k place =
        all_mapped (λ (a : RowAge). is_before i a.stamp n ≡ false) (row_age id_of stamp_of) (drop k sorted)
        (subst (AllByRecursion (λ (a : RowAge). is_before i a.stamp n ≡ false)) (ap (drop k) (ages_are id_of stamp_of rows up ages are) ∙ drop-map (row_age id_of stamp_of) k sorted) (place.rest are.rising))

    -- the rows from the place of a stamp on have at least this stamp
    pub rows_since : (first k : ℕ) → IsPlaceOfStamp ages first false k
        → drop k (sort_by (is_row_older id_of stamp_of) rows) ≡ sort_by (is_row_older id_of stamp_of) (filter (λ r. nat_le first (stamp_of r)) rows)
    rows_since first k place =
        kept_behind (λ r. nat_le first (stamp_of r)) k sorted
        (all_changed (λ r. is_before false (stamp_of r) first ≡ true) (λ r. nat_le first (stamp_of r) ≡ false) (λ r p. less_than (stamp_of r) first p) (take k sorted) (before_place false first k place))
        (all_changed (λ r. is_before false (stamp_of r) first ≡ false) (λ r. nat_le first (stamp_of r) ≡ true) (λ r p. at_least (stamp_of r) first p) (drop k sorted) (from_place false first k place))
        ∙ filter_of_sorted (λ r. nat_le first (stamp_of r)) rows up

    -- the rows between two places have a stamp of the span
    pub rows_between : (first last k j : ℕ) → IsPlaceOfStamp ages first false k → IsPlaceOfStamp ages last true j
        → drop k (take j (sort_by (is_row_older id_of stamp_of) rows)) ≡ sort_by (is_row_older id_of stamp_of) (filter (λ r. nat_le first (stamp_of r)) (filter (λ r. nat_le (stamp_of r) last) rows))
    rows_between first last k j from until =
        let early : Row → Bool = λ r. nat_le (stamp_of r) last in
        let late : Row → Bool = λ r. nat_le first (stamp_of r) in
        let until_last : take j sorted ≡ filter early sorted =
        kept_before early j sorted
        (all_changed (λ r. is_before true (stamp_of r) last ≡ true) (λ r. early r ≡ true) (λ r p. at_most (stamp_of r) last p) (take j sorted) (before_place true last j until))
        (all_changed (λ r. is_before true (stamp_of r) last ≡ false) (λ r. early r ≡ false) (λ r p. more_than (stamp_of r) last p) (drop j sorted) (from_place true last j until)) in
        kept_behind late k (take j sorted)
        (all_taken (λ r. late r ≡ false) k j sorted
        (all_changed (λ r. is_before false (stamp_of r) first ≡ true) (λ r. late r ≡ false) (λ r p. less_than (stamp_of r) first p) (take k sorted) (before_place false first k from)))
        (all_dropped (λ r. late r ≡ true) k j sorted
        (all_changed (λ r. is_before false (stamp_of r) first ≡ false) (λ r. late r ≡ true) (λ r p. at_least (stamp_of r) first p) (drop k sorted) (from_place false first k from)))
        ∙ ap (filter late) (until_last ∙ filter_of_sorted early rows up) ∙ filter_of_sorted late (filter early rows) (filtered_rises id_of early rows up)
