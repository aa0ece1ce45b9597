-- A sort by the reverse order is the reverse of the sort.
use Rattle.std.proofs.Common.{◌≡◌, List, [], ◌∷◌, ◌++◌, Bool, true, false, cond, Ordering, Less, Equal, Greater, is_eq, is_gt, reverse, refl, sym, ap, subst, ◌∙◌}
use mathlib.Core.List.{reverse-cons}
use Rattle.std.specs.Ordering.{ordering_reverse}
use Rattle.std.specs.Cmp.{IsTotalOrder}
use Rattle.std.specs.List.{AllByRecursion}
use Rattle.sqlite_trees.specs.Tree.{IsAscending}
use Rattle.sqlite_keyed.specs.Lists.{insert_sorted, sort_by}
use Rattle.brk_tables_sql.specs.Rows.{IsStrictlyAscending}
use Rattle.brk_tables_sql.proofs.Order.{rises-insert_sorted}

abbrev pub flipped : {X : Type 0} → (X → X → Ordering) → X → X → Ordering
flipped C x y = C y x

-- it goes in before a last one that it doesn't go after
before_last : {X : Type 0} (c : X → X → Ordering) (x y : X) (zs : List X) → is_gt (c x y) ≡ false → insert_sorted c x (zs ++ y ∷ []) ≡ insert_sorted c x zs ++ y ∷ []
before_last c x y [] e = ap (λ b. cond b (y ∷ x ∷ []) (x ∷ y ∷ [])) e
before_last c x y (z ∷ zs) e = go (is_gt (c x z)) (before_last c x y zs e)
  where
    go : (b : Bool) → insert_sorted c x (zs ++ y ∷ []) ≡ insert_sorted c x zs ++ y ∷ []
        → cond b (z ∷ insert_sorted c x (zs ++ y ∷ [])) (x ∷ z ∷ zs ++ y ∷ []) ≡ cond b (z ∷ insert_sorted c x zs) (x ∷ z ∷ zs) ++ y ∷ []
    go true h = ap (λ l. z ∷ l) h
    go false h = refl

-- it goes behind those that it goes after
at_last : {X : Type 0} (c : X → X → Ordering) (x : X) (zs : List X) → AllByRecursion (λ z. is_gt (c x z) ≡ true) zs → insert_sorted c x zs ≡ zs ++ x ∷ []
at_last c x [] all = refl
at_last c x (z ∷ zs) all = ap (λ b. cond b (z ∷ insert_sorted c x zs) (x ∷ z ∷ zs)) all.0 ∙ ap (λ l. z ∷ l) (at_last c x zs all.1)

all_join : {X : Type 0} (P : X → Type 0) (xs ys : List X) → AllByRecursion P xs → AllByRecursion P ys → AllByRecursion P (xs ++ ys)
all_join P [] ys a b = b
all_join P (x ∷ xs) ys a b = (a.0, all_join P xs ys a.1 b)

all_reverse : {X : Type 0} (P : X → Type 0) (xs : List X) → AllByRecursion P xs → AllByRecursion P (reverse xs)
all_reverse P [] all = tt
all_reverse P (x ∷ xs) all = subst (AllByRecursion P) (sym (reverse-cons x xs)) (all_join P (reverse xs) (x ∷ []) (all_reverse P xs all.1) (all.0, tt))

all_as : {X : Type 0} (P Q : X → Type 0) → ((x : X) → P x → Q x) → (xs : List X) → AllByRecursion P xs → AllByRecursion Q xs
all_as P Q f [] all = tt
all_as P Q f (x ∷ xs) all = (f x all.0, all_as P Q f xs all.1)

module _ {X : Type 0} (C : X → X → Ordering) (total : IsTotalOrder C) where
  Untied : List X → Type 0
  Untied = IsAscending (λ x y. is_eq (C x y) ≡ false)

  all_in : (P : X → Type 0) (x : X) (xs : List X) → P x → AllByRecursion P xs → AllByRecursion P (insert_sorted C x xs)
  all_in P x [] p all = (p, tt)
  all_in P x (y ∷ ys) p all = go (is_gt (C x y)) (all_in P x ys p all.1)
    where
      go : (b : Bool) → AllByRecursion P (insert_sorted C x ys) → AllByRecursion P (cond b (y ∷ insert_sorted C x ys) (x ∷ y ∷ ys))
      go true h = (all.0, h)
      go false h = (p, all)

  all_sorted : (P : X → Type 0) (xs : List X) → AllByRecursion P xs → AllByRecursion P (sort_by C xs)
  all_sorted P [] all = tt
  all_sorted P (x ∷ xs) all = all_in P x (sort_by C xs) all.0 (all_sorted P xs all.1)

  rises : (xs : List X) → IsAscending (λ x y. is_eq (C x y) ≡ false) xs → IsStrictlyAscending C (sort_by C xs)
  rises [] apart = tt
  rises (x ∷ xs) apart = rises-insert_sorted total x (sort_by C xs) (all_sorted (λ y. is_eq (C x y) ≡ false) xs apart.0) (rises xs apart.1)

  put : (x : X) (ys : List X) → AllByRecursion (λ y. is_eq (C x y) ≡ false) ys → IsStrictlyAscending C ys → insert_sorted (flipped C) x (reverse ys) ≡ reverse (insert_sorted C x ys)
  put x [] apart up = refl
  put x (y ∷ ys) apart up = ap (insert_sorted (flipped C) x) (reverse-cons y ys) ∙ go (C x y) refl (put x ys apart.1 up.1)
    where
      back : (z : X) → C x z ≡ Less → is_gt (C z x) ≡ true
      back z e = ap is_gt (total.antisymm z x ∙ ap ordering_reverse e)

      go : (o : Ordering) → C x y ≡ o → insert_sorted (flipped C) x (reverse ys) ≡ reverse (insert_sorted C x ys)
          → insert_sorted (flipped C) x (reverse ys ++ y ∷ []) ≡ reverse (cond (is_gt o) (y ∷ insert_sorted C x ys) (x ∷ y ∷ ys))
      go Less e h =
          let above : AllByRecursion (λ z. is_gt (C z x) ≡ true) (y ∷ ys) = (back y e, all_as (λ z. C y z ≡ Less) (λ z. is_gt (C z x) ≡ true) (λ z k. back z (total.trans x y z e k)) ys up.0) in
          let turned = subst (AllByRecursion (λ z. is_gt (C z x) ≡ true)) (reverse-cons y ys) (all_reverse (λ z. is_gt (C z x) ≡ true) (y ∷ ys) above) in
          at_last (flipped C) x (reverse ys ++ y ∷ []) turned ∙ ap (λ l. l ++ x ∷ []) (sym (reverse-cons y ys)) ∙ sym (reverse-cons x (y ∷ ys))
      go Equal e h = absurd (let f = sym (ap is_eq e) ∙ apart.0 in cc)
      go Greater e h =
          before_last (flipped C) x y (reverse ys) (ap is_gt (total.antisymm y x ∙ ap ordering_reverse e)) ∙ ap (λ l. l ++ y ∷ []) h ∙ sym (reverse-cons y (insert_sorted C x ys))

  pub turned_sort : (xs : List X) → IsAscending (λ x y. is_eq (C x y) ≡ false) xs → sort_by (flipped C) xs ≡ reverse (sort_by C xs)
  turned_sort [] apart = refl
  turned_sort (x ∷ xs) apart =
      ap (insert_sorted (flipped C) x) (turned_sort xs apart.1) ∙ put x (sort_by C xs) (all_sorted (λ y. is_eq (C x y) ≡ false) xs apart.0) (rises xs apart.1)
