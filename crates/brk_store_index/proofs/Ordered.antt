-- The rows of a group, by the ages that an index has and by the table.
use Rattle.std.proofs.Common.{◌≡◌, inl, inr, ◌∙◌, ◌==◌, ◌&&◌, ◌||◌, ℕ, Bool, true, false, cond, List, [], ◌∷◌, ◌++◌, Option, Some, None, map, filter, find, take, drop, reverse, refl, sym, ap, ap₂, subst, arith, nat_lt, eq-eqb}
use Rattle.std.specs.List.{AllByRecursion}
use Rattle.std.proofs.lemmas.Bool.Decides.{nat_tests}
use Rattle.std.proofs.lemmas.List.{drop-map, map-append, take-map}
use mathlib.Core.List.{reverse-cons}
use Rattle.brk_model.specs.Lists.{insert_by, sort_by}
use Rattle.brk_store_index.specs.declared.age.RowAge.{RowAge}
use Rattle.brk_store_index.specs.Ages.{AreAgesOf, Has, IsRising, in_order, is_older}
use Rattle.brk_store_index.specs.Index.{row_of_age, value_if}
use Rattle.brk_store_index.proofs.Rising.{never_older, older_then}
use Rattle.brk_store_index.proofs.Elements.{has_filtered, has_inserted, has_mapped, inserted_has, mapped_has, pushed_has, has_pushed, true_is_false}

-- The ids of the rows ascend.
abbrev pub RisesBy : {Row : Type 0} → (Row → ℕ) → List Row → Type 0
RisesBy id_of [] = Unit {0}
RisesBy id_of (x ∷ xs) = AllByRecursion (λ y. nat_lt (id_of x) (id_of y) ≡ true) xs × RisesBy id_of xs

-- ---- lists that a relation sorts

-- each element is before each later one
abbrev pub Sorted : {X : Type 0} → (X → X → Bool) → List X → Type 0
Sorted before [] = Unit {0}
Sorted before (x ∷ xs) = AllByRecursion (λ y. before x y ≡ true) xs × Sorted before xs

pub each : {X : Type 0} (P : X → Type 0) (xs : List X) (x : X) → AllByRecursion P xs → Has xs x → P x
each P [] x all h = absurd h
each P (y ∷ ys) x all (inl e) = subst P (sym e) all.0
each P (y ∷ ys) x all (inr h) = each P ys x all.1 h

pub all_of : {X : Type 0} (P : X → Type 0) (xs : List X) → ((x : X) → Has xs x → P x) → AllByRecursion P xs
all_of P [] f = tt
all_of P (x ∷ xs) f = (f x (inl refl), all_of P xs (λ y h. f y (inr h)))

module _ {X : Type 0} (before : X → X → Bool) (never : (x : X) → before x x ≡ false) (onward : (x y z : X) → before x y ≡ true → before y z ≡ true → before x z ≡ true) where
  -- sorted lists with the same elements are equal
  pub same_sorted : (xs ys : List X) → Sorted before xs → Sorted before ys → ((z : X) → Has xs z → Has ys z) → ((z : X) → Has ys z → Has xs z) → xs ≡ ys
  same_sorted [] [] p q f g = refl
  same_sorted [] (y ∷ ys) p q f g = absurd (g y (inl refl))
  same_sorted (x ∷ xs) [] p q f g = absurd (f x (inl refl))
  same_sorted (x ∷ xs) (y ∷ ys) p q f g =
      let e : x ≡ y = heads (f x (inl refl)) (g y (inl refl)) in
      ap₂ (λ z zs. z ∷ zs) e
      (same_sorted xs ys p.1 q.1 (λ z h. tails x y ys z e (each (λ w. before x w ≡ true) xs z p.0 h) (f z (inr h)))
      (λ z h. tails y x xs z (sym e) (each (λ w. before y w ≡ true) ys z q.0 h) (g z (inr h))))
    where
      heads : Has (y ∷ ys) x → Has (x ∷ xs) y → x ≡ y
      heads (inl e) h = e
      heads (inr later) (inl e) = sym e
      heads (inr later) (inr after) =
          true_is_false (before x x) (onward x y x (each (λ w. before x w ≡ true) xs y p.0 after) (each (λ w. before y w ≡ true) ys x q.0 later)) (never x)

      tails : (a b : X) (bs : List X) (z : X) → a ≡ b → before a z ≡ true → Has (b ∷ bs) z → Has bs z
      tails a b bs z e k (inl same) = true_is_false (before a a) (subst (λ w. before a w ≡ true) (same ∙ sym e) k) (never a)
      tails a b bs z e k (inr h) = h

rising_sorted : (ages : List RowAge) → IsRising ages → Sorted is_older ages
rising_sorted [] up = tt
rising_sorted (x ∷ xs) up = (up.0, rising_sorted xs up.1)

-- a list that is sorted the other way
pushed_sorted : {X : Type 0} (before : X → X → Bool) (xs : List X) (y : X) → Sorted before xs → ((x : X) → Has xs x → before x y ≡ true) → Sorted before (xs ++ y ∷ [])
pushed_sorted before [] y s last = (tt, tt)
pushed_sorted before (x ∷ xs) y s last = (
  all_of (λ z. before x z ≡ true) (xs ++ y ∷ [])
      (λ z h. elim (has_pushed xs y z h) [
        | inl k ↦ each (λ z. before x z ≡ true) xs z s.0 k
        | inr e ↦ subst (λ w. before x w ≡ true) (sym e) (last x (inl refl))
      ]),
  pushed_sorted before xs y s.1 (λ z h. last z (inr h)),
)

has_reversed : {X : Type 0} (xs : List X) (x : X) → Has (reverse xs) x → Has xs x
has_reversed [] x h = h
has_reversed (y ∷ ys) x h = elim (has_pushed (reverse ys) y x (subst (λ l. Has l x) (reverse-cons y ys) h)) [ inl k ↦ inr (has_reversed ys x k) | inr e ↦ inl e ]

reversed_has : {X : Type 0} (xs : List X) (x : X) → Has xs x → Has (reverse xs) x
reversed_has [] x h = h
reversed_has (y ∷ ys) x (inl e) = subst (λ l. Has l x) (sym (reverse-cons y ys)) (pushed_has (reverse ys) y x (inr e))
reversed_has (y ∷ ys) x (inr h) = subst (λ l. Has l x) (sym (reverse-cons y ys)) (pushed_has (reverse ys) y x (inl (reversed_has ys x h)))

reverse_sorted : {X : Type 0} (before after : X → X → Bool) → ((x y : X) → before x y ≡ true → after y x ≡ true) → (xs : List X) → Sorted before xs → Sorted after (reverse xs)
reverse_sorted before after turn [] s = tt
reverse_sorted before after turn (x ∷ xs) s =
    subst (Sorted after) (sym (reverse-cons x xs))
    (pushed_sorted after (reverse xs) x (reverse_sorted before after turn xs s.1) (λ z h. turn x z (each (λ y. before x y ≡ true) xs z s.0 (has_reversed xs z h))))

-- ---- rows that are sorted by age

apart_numbers : (a b : ℕ) → nat_lt a b ≡ true → (a == b) ≡ false
apart_numbers a b p = grind (arith, nat_tests)

module _ {Row : Type 0} (id_of : Row → ℕ) (less : Row → Row → Bool) (onward : (x y z : Row) → less x y ≡ true → less y z ≡ true → less x z ≡ true)
    (total : (x y : Row) → (id_of x == id_of y) ≡ false → less y x ≡ false → less x y ≡ true) where
  rows_put : (x : Row) (ys : List Row) → AllByRecursion (λ y. (id_of x == id_of y) ≡ false) ys → Sorted less ys → Sorted less (insert_by less x ys)
  rows_put x [] apart s = (tt, tt)
  rows_put x (y ∷ ys) apart s = go (less y x) refl (rows_put x ys apart.1 s.1)
    where
      go : (b : Bool) → less y x ≡ b → Sorted less (insert_by less x ys) → Sorted less (cond b (y ∷ insert_by less x ys) (x ∷ y ∷ ys))
      go true e more = (
        all_of (λ z. less y z ≡ true) (insert_by less x ys)
            (λ z h. elim (has_inserted less x ys z h) [
              | inl k ↦ each (λ z. less y z ≡ true) ys z s.0 k
              | inr same ↦ subst (λ w. less y w ≡ true) (sym same) e
            ]),
        more,
      )
      go false e more =
          let up : less x y ≡ true = total x y apart.0 e in
          ((up, all_of (λ z. less x z ≡ true) ys (λ z h. onward x y z up (each (λ z. less y z ≡ true) ys z s.0 h))), s)

  pub has_sorted : (xs : List Row) (x : Row) → Has (sort_by less xs) x → Has xs x
  unfolding sort_by
  has_sorted [] x h = absurd h
  has_sorted (y ∷ ys) x h = elim (has_inserted less y (sort_by less ys) x h) [ inl k ↦ inr (has_sorted ys x k) | inr e ↦ inl e ]

  pub sorted_has : (xs : List Row) (x : Row) → Has xs x → Has (sort_by less xs) x
  unfolding sort_by
  sorted_has [] x h = absurd h
  sorted_has (y ∷ ys) x (inl e) = inserted_has less y (sort_by less ys) x (inr e)
  sorted_has (y ∷ ys) x (inr h) = inserted_has less y (sort_by less ys) x (inl (sorted_has ys x h))

  pub rows_sorted : (xs : List Row) → RisesBy id_of xs → Sorted less (sort_by less xs)
  unfolding sort_by
  rows_sorted [] up = tt
  rows_sorted (x ∷ xs) up =
      rows_put x (sort_by less xs)
      (all_of (λ y. (id_of x == id_of y) ≡ false) (sort_by less xs) (λ y h. apart_numbers (id_of x) (id_of y) (each (λ y. nat_lt (id_of x) (id_of y) ≡ true) xs y up.0 (has_sorted xs y h))))
      (rows_sorted xs up.1)

pub filtered_rises : {Row : Type 0} (id_of : Row → ℕ) (p : Row → Bool) (xs : List Row) → RisesBy id_of xs → RisesBy id_of (filter p xs)
filtered_rises id_of p [] up = tt
filtered_rises {Row} id_of p (x ∷ xs) up = go (p x) (filtered_rises id_of p xs up.1)
  where
    go : (b : Bool) → RisesBy id_of (filter p xs) → RisesBy id_of (cond b (x ∷ filter p xs) (filter p xs))
    go true more = (all_of (λ y. nat_lt (id_of x) (id_of y) ≡ true) (filter p xs) (λ y h. each (λ y. nat_lt (id_of x) (id_of y) ≡ true) xs y up.0 (has_filtered p xs y h).0), more)
    go false more = more

-- ---- what an id finds

own : (n : ℕ) → (n == n) ≡ true
own n = eq-eqb n n refl

pub finds : {Row : Type 0} (id_of : Row → ℕ) (rows : List Row) (x : Row) → RisesBy id_of rows → Has rows x → find (λ r. id_of r == id_of x) rows ≡ Some x
finds id_of [] x up h = absurd h
finds id_of (r ∷ rs) x up (inl e) = subst (λ z. cond (id_of r == id_of z) (Some r) (find (λ s. id_of s == id_of z) rs) ≡ Some z) (sym e) (rw (own (id_of r)) refl)
finds id_of (r ∷ rs) x up (inr h) = rw (apart_numbers (id_of r) (id_of x) (each (λ y. nat_lt (id_of r) (id_of y) ≡ true) rs x up.0 h)) (finds id_of rs x up.1 h)

-- the row of a table that has the age, if it passes a test
pub age_finds : {Row : Type 0} (id_of : Row → ℕ) (table : List Row) → RisesBy id_of table → (test : RowAge → Row → Bool) (a : RowAge) (x : Row) → Has table x → id_of x ≡ a.id → test a x ≡ true
    → row_of_age id_of test table a ≡ Some x
age_finds id_of table up test a x h same passes =
    ap (value_if (test a)) (ap (λ n. find (λ r. id_of r == n) table) (sym same) ∙ finds id_of table x up h) ∙ ap (λ b. cond b (Some x) None) passes

-- ---- the rows of ages

reversed : {X Y : Type 0} (f : X → Y) (xs : List X) → map f (reverse xs) ≡ reverse (map f xs)
reversed f [] = refl
reversed f (x ∷ xs) = ap (map f) (reverse-cons x xs) ∙ map-append f (reverse xs) (x ∷ []) ∙ ap (λ l. l ++ f x ∷ []) (reversed f xs) ∙ sym (reverse-cons (f x) (map f xs))

ordered : {X Y : Type 0} (f : X → Y) (newest_first : Bool) (xs : List X) → map f (in_order newest_first xs) ≡ in_order newest_first (map f xs)
ordered f true xs = reversed f xs
ordered f false xs = refl

somes_are : {X : Type 0} (xs ys : List X) → map Some xs ≡ map Some ys → xs ≡ ys
somes_are [] [] e = refl
somes_are [] (y ∷ ys) e = absurd (let f = e in cc)
somes_are (x ∷ xs) [] e = absurd (let f = e in cc)
somes_are (x ∷ xs) (y ∷ ys) e =
    let here : x ≡ y = cc in
    let more : map Some xs ≡ map Some ys = cc in
    ap₂ ◌∷◌ here (somes_are xs ys more)

turn_numbers : (a b c d : ℕ) → (b == d) ≡ false → (nat_lt c a || ((c == a) && nat_lt d b)) ≡ false → (nat_lt a c || ((a == c) && nat_lt b d)) ≡ true
turn_numbers a b c d p q = grind (arith, nat_tests)

by_id_alone : (a b : ℕ) → nat_lt a b ≡ true → (nat_lt 0 0 || ((0 == 0) && nat_lt a b)) ≡ true
by_id_alone a b p = p

-- The ages of rows of a table, and what finds a row by its age.
module _ {Row : Type 0} (id_of stamp_of : Row → ℕ) where
  abbrev pub row_age : Row → RowAge
  row_age r = record { stamp = stamp_of r; id = id_of r }

  abbrev pub is_row_older : Row → Row → Bool
  is_row_older x y = is_older (row_age x) (row_age y)

  mapped_sorted : (xs : List Row) → Sorted is_row_older xs → Sorted is_older (map row_age xs)
  mapped_sorted [] s = tt
  mapped_sorted (x ∷ xs) s = (
    all_of (λ a. is_older (row_age x) a ≡ true) (map row_age xs)
        (λ a h. let k = has_mapped row_age xs a h in subst (λ b. is_older (row_age x) b ≡ true) (sym k.2) (each (λ y. is_row_older x y ≡ true) xs k.0 s.0 k.1)),
    mapped_sorted xs s.1,
  )

  pub onward : (x y z : Row) → is_row_older x y ≡ true → is_row_older y z ≡ true → is_row_older x z ≡ true
  onward x y z = older_then (row_age x) (row_age y) (row_age z)

  -- of two rows with other ids one is older
  pub total : (x y : Row) → (id_of x == id_of y) ≡ false → is_row_older y x ≡ false → is_row_older x y ≡ true
  total x y apart k = turn_numbers (stamp_of x) (id_of x) (stamp_of y) (id_of y) apart k

  turned : (a b : ℕ) → (a == b) ≡ false → (b == a) ≡ false
  turned a b p = grind (arith, nat_tests)

  -- sorted the other way
  recent_is_reversed : (rows : List Row) → RisesBy id_of rows → sort_by (λ x y. is_row_older y x) rows ≡ reverse (sort_by is_row_older rows)
  recent_is_reversed rows up =
      let later : Row → Row → Bool = λ x y. is_row_older y x in
      let back : (x y z : Row) → later x y ≡ true → later y z ≡ true → later x z ≡ true = λ x y z p q. onward z y x q p in
      let apart : (x y : Row) → (id_of x == id_of y) ≡ false → later y x ≡ false → later x y ≡ true = λ x y off k. total y x (turned (id_of x) (id_of y) off) k in
      same_sorted later (λ x. never_older (row_age x)) back (sort_by later rows) (reverse (sort_by is_row_older rows))
      (rows_sorted id_of later back apart rows up) (reverse_sorted is_row_older later (λ x y p. p) (sort_by is_row_older rows) (rows_sorted id_of is_row_older onward total rows up))
      (λ z h. reversed_has (sort_by is_row_older rows) z (sorted_has id_of is_row_older onward total rows z (has_sorted id_of later back apart rows z h)))
      (λ z h. sorted_has id_of later back apart rows z (has_sorted id_of is_row_older onward total rows z (has_reversed (sort_by is_row_older rows) z h)))

  module _ (rows : List Row) (up : RisesBy id_of rows) (ages : List RowAge) (are : AreAgesOf ages (map row_age rows)) where
    -- the ages belong to the rows that are sorted by age
    pub ages_are : ages ≡ map row_age (sort_by is_row_older rows)
    ages_are =
        let sorted = sort_by is_row_older rows in
        same_sorted is_older never_older older_then ages (map row_age sorted) (rising_sorted ages are.rising) (mapped_sorted sorted (rows_sorted id_of is_row_older onward total rows up))
        (λ a h. let k = has_mapped row_age rows a (are.exact a h) in subst (Has (map row_age sorted)) (sym k.2) (mapped_has row_age sorted k.0 (sorted_has id_of is_row_older onward total rows k.0 k.1)))
        (λ a h. let k = has_mapped row_age sorted a h in are.covers a (subst (Has (map row_age rows)) (sym k.2) (mapped_has row_age rows k.0 (has_sorted id_of is_row_older onward total rows k.0 k.1))))

    module _ (found : RowAge → Option Row) (finds_row : (x : Row) → Has rows x → found (row_age x) ≡ Some x) where
      all_found : (xs : List Row) → ((x : Row) → Has xs x → Has rows x) → map found (map row_age xs) ≡ map Some xs
      all_found [] of = refl
      all_found (x ∷ xs) of = ap₂ ◌∷◌ (finds_row x (of x (inl refl))) (all_found xs (λ y h. of y (inr h)))

      rows_found : map found ages ≡ map Some (sort_by is_row_older rows)
      rows_found =
          let sorted = sort_by is_row_older rows in
          ap (map found) ages_are ∙ all_found sorted (λ x h. has_sorted id_of is_row_older onward total rows x h)

      part_found : (list : List Row) (es : List RowAge) → map found es ≡ map Some list → (skipped most : ℕ) → map found (take most (drop skipped es)) ≡ map Some (take most (drop skipped list))
      part_found list es is skipped most =
          sym (take-map found most (drop skipped es)) ∙ ap (take most) (sym (drop-map found skipped es) ∙ ap (drop skipped) is ∙ drop-map Some skipped list) ∙ take-map Some most (drop skipped list)

      -- the rows that some of the ages find are the rows at their places, from the oldest on or, if
      -- `newest_first`, from the newest on
      pub page_found : (newest_first : Bool) (skipped most : ℕ) (page : List Row) → map Some page ≡ map found (take most (drop skipped (in_order newest_first ages)))
          → page ≡ take most (drop skipped (in_order newest_first (sort_by is_row_older rows)))
      page_found newest_first skipped most page shown =
          let sorted = sort_by is_row_older rows in
          somes_are page (take most (drop skipped (in_order newest_first sorted)))
          (shown ∙ part_found (in_order newest_first sorted) (in_order newest_first ages)
          (ordered found newest_first ages ∙ ap (in_order newest_first) rows_found ∙ sym (ordered Some newest_first sorted)) skipped most)

      -- the same from the newest on
      pub recent_page_found : (skipped most : ℕ) (page : List Row) → map Some page ≡ map found (take most (drop skipped (reverse ages)))
          → page ≡ take most (drop skipped (sort_by (λ x y. is_row_older y x) rows))
      recent_page_found skipped most page shown = page_found true skipped most page shown ∙ ap (λ l. take most (drop skipped l)) (sym (recent_is_reversed rows up))

-- ---- rows that are sorted by id

module _ {Row : Type 0} (id_of : Row → ℕ) where
  by_id_sorted : (rows : List Row) → RisesBy id_of rows → Sorted (is_row_older id_of (λ r. 0)) rows
  by_id_sorted [] up = tt
  by_id_sorted (x ∷ xs) up =
      (all_of (λ y. is_row_older id_of (λ r. 0) x y ≡ true) xs (λ y h. by_id_alone (id_of x) (id_of y) (each (λ y. nat_lt (id_of x) (id_of y) ≡ true) xs y up.0 h)), by_id_sorted xs up.1)

  by_id_same : (rows : List Row) → RisesBy id_of rows → sort_by (is_row_older id_of (λ r. 0)) rows ≡ rows
  by_id_same rows up =
      let older = is_row_older id_of (λ (r : Row). 0) in
      same_sorted older (λ x. never_older (row_age id_of (λ r. 0) x)) (onward id_of (λ r. 0)) (sort_by older rows) rows
      (rows_sorted id_of older (onward id_of (λ r. 0)) (total id_of (λ r. 0)) rows up) (by_id_sorted rows up)
      (λ z h. has_sorted id_of older (onward id_of (λ r. 0)) (total id_of (λ r. 0)) rows z h) (λ z h. sorted_has id_of older (onward id_of (λ r. 0)) (total id_of (λ r. 0)) rows z h)

  module _ (rows : List Row) (up : RisesBy id_of rows) (ages : List RowAge) (are : AreAgesOf ages (map (λ r. record { stamp = 0; id = id_of r }) rows))
      (found : RowAge → Option Row) (finds_row : (x : Row) → Has rows x → found (record { stamp = 0; id = id_of x }) ≡ Some x) where
    -- the rows that some of the ages find are the rows at their places
    pub page_by_id : (skipped most : ℕ) (page : List Row) → map Some page ≡ map found (take most (drop skipped ages)) → page ≡ take most (drop skipped rows)
    page_by_id skipped most page shown =
        page_found id_of (λ r. 0) rows up ages are found finds_row false skipped most page shown ∙ ap (λ l. take most (drop skipped l)) (by_id_same rows up)

    -- the rows that all ages find are all rows
    pub all_by_id : (page : List Row) → map Some page ≡ map found ages → page ≡ rows
    all_by_id page shown = somes_are page rows (shown ∙ rows_found id_of (λ r. 0) rows up ages are found finds_row ∙ ap (map Some) (by_id_same rows up))
