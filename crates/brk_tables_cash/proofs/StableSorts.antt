-- A stable sort by a strict weak order gives the list of `sort_by` of the model: both ascend, and both
-- keep the sequence of elements of which neither is less.
use Rattle.std.proofs.Common.{◌≡◌, ℕ, zero, suc, Bool, true, false, not, cond, List, [], ◌∷◌, ◌+◌, filter, refl, sym, ap, subst, ◌∙◌, inl, inr, zero-le, arith}
use Rattle.std.specs.Cmp.{IsStrictWeakOrder}
use Rattle.std.specs.Prelude.{slice_index_or}
use Rattle.std.specs.List.{AllByRecursion}
use Rattle.std.specs.List.Sorted.{IsSortedBy, IsStableBy, ties}
use Rattle.std.proofs.lemmas.Bool.{cond-true, cond-false, cases_Bool}
use Rattle.brk_model.specs.Lists.{insert_by, sort_by}

module _ {X : Type 0} (less : X → X → Bool) (order : IsStrictWeakOrder less) where
  abbrev same : X → X → Bool
  same = ties less

  neither : (x y : X) → same x y ≡ true → (less x y ≡ false) × (less y x ≡ false)
  neither x y e = go (less x y) (less y x) refl refl e
    where
      go : (a b : Bool) → less x y ≡ a → less y x ≡ b → same x y ≡ true → (less x y ≡ false) × (less y x ≡ false)
      go false false p q e = (p, q)
      go true b p q e = absurd (let f = rw p at e in cc)
      go false true p q e = absurd (let f = rw (p, q) at e in cc)

  same_from : (x y : X) → less x y ≡ false → less y x ≡ false → same x y ≡ true
  same_from x y p q = rw (p, q) refl

  not_less_than_itself : (x : X) → less x x ≡ false
  not_less_than_itself x = go (less x x) refl
    where
      go : (b : Bool) → less x x ≡ b → less x x ≡ false
      go true e = order.one_way x x e
      go false e = e

  same_self : (x : X) → same x x ≡ true
  same_self x = same_from x x (not_less_than_itself x) (not_less_than_itself x)

  filter-kept : (p : X → Bool) (y : X) (ys : List X) → p y ≡ true → filter p (y ∷ ys) ≡ y ∷ filter p ys
  filter-kept p y ys h = cond-true _ _ _ h

  filter-dropped : (p : X → Bool) (y : X) (ys : List X) → p y ≡ false → filter p (y ∷ ys) ≡ filter p ys
  filter-dropped p y ys h = cond-false _ _ _ h

  -- ---- the sort of the model is stable

  filter_insert : (x c : X) (ds : List X) → filter (same x) (insert_by less c ds) ≡ filter (same x) (c ∷ ds)
  filter_insert x c [] = refl
  filter_insert x c (d ∷ ds) =
      let p = same x in
      elim (cases_Bool (less d c)) [
        | inr stays ↦ ap (filter p) (cond-false _ _ _ stays)
        | inl past ↦
            ap (filter p) (cond-true _ _ _ past)
            ∙ elim (cases_Bool (p d)) [
              | inr without ↦
                  filter-dropped p d (insert_by less c ds) without ∙ filter_insert x c ds
                  ∙ ap (λ l. cond (p c) (c ∷ l) l) (sym (filter-dropped p d ds without))
              | inl with ↦
                  elim (cases_Bool (p c)) [
                    | inl both ↦ absurd (let f : true ≡ false = sym past ∙ order.chain d x c (neither x d with).1 (neither x c both).0 in cc)
                    | inr only ↦
                        filter-kept p d (insert_by less c ds) with ∙ ap (λ l. d ∷ l) (filter_insert x c ds ∙ filter-dropped p c ds only)
                        ∙ sym (filter-dropped p c (d ∷ ds) only ∙ filter-kept p d ds with)
                  ]
            ]
      ]

  filter_sorted : (x : X) (xs : List X) → filter (same x) (sort_by less xs) ≡ filter (same x) xs
  unfolding sort_by
  filter_sorted x [] = refl
  filter_sorted x (c ∷ cs) = filter_insert x c (sort_by less cs) ∙ ap (λ l. cond (same x c) (c ∷ l) l) (filter_sorted x cs)

  -- ---- and ascends

  abbrev AtLeast : X → List X → Type 0
  AtLeast x ys = AllByRecursion (λ y. less y x ≡ false) ys

  abbrev Up : List X → Type 0
  Up [] = Unit {0}
  Up (y ∷ ys) = AtLeast y ys × Up ys

  -- what is not less than `y` is not less than `x`, if `y` is not
  at_least_more : (x y : X) (zs : List X) → less y x ≡ false → AtLeast y zs → AtLeast x zs
  at_least_more x y [] le h = tt
  at_least_more x y (z ∷ zs) le h = (order.chain z y x h.0 le, at_least_more x y zs le h.1)

  at_least_put : (x c : X) (ys : List X) → less c x ≡ false → AtLeast x ys → AtLeast x (insert_by less c ys)
  at_least_put x c [] le h = (le, tt)
  at_least_put x c (y ∷ ys) le h = elim (cases_Bool (less y c)) [
    | inl past ↦ rw past (h.0, at_least_put x c ys le h.1)
    | inr stays ↦ rw stays (le, h)
  ]

  up_put : (c : X) (ys : List X) → Up ys → Up (insert_by less c ys)
  up_put c [] h = (tt, tt)
  up_put c (y ∷ ys) h = elim (cases_Bool (less y c)) [
    | inl past ↦ rw past (at_least_put y c ys (order.one_way y c past) h.0, up_put c ys h.1)
    | inr stays ↦ rw stays ((stays, at_least_more c y ys stays h.0), h)
  ]

  up_sorted : (xs : List X) → Up (sort_by less xs)
  unfolding sort_by
  up_sorted [] = tt
  up_sorted (x ∷ xs) = up_put x (sort_by less xs) (up_sorted xs)

  up_from : (ys : List X) → IsSortedBy less ys → Up ys
  up_from [] s = tt
  up_from (y ∷ []) s = (tt, tt)
  up_from (y ∷ z ∷ zs) s =
      let first : less z y ≡ false = s zero y zero-le (omega arith) in
      let more : Up (z ∷ zs) = up_from (z ∷ zs)
      (λ k d low inside. subst (λ m. less (slice_index_or (y ∷ z ∷ zs) m d) (slice_index_or (z ∷ zs) k d) ≡ false) (next k) (s (suc k) d zero-le (omega (arith, inside)))) in
      ((first, at_least_more y z zs first more.0), more)
    where
      next : (k : ℕ) → suc k + 1 ≡ suc (k + 1)
      next k = omega arith

  -- ---- an ascending list is determined by its elements of equal key

  found_at_least : (x m : X) (ys : List X) (w : X) (ws : List X) → AtLeast m ys → filter (same x) ys ≡ w ∷ ws → less x m ≡ false
  found_at_least x m [] w ws h e = absurd (let f = e in cc)
  found_at_least x m (y ∷ ys) w ws h e =
      elim (cases_Bool (same x y)) [
        | inl with ↦ order.chain x y m (neither x y with).0 h.0
        | inr without ↦ found_at_least x m ys w ws h.1 (sym (filter-dropped (same x) y ys without) ∙ e)
      ]

  one_order : (ys zs : List X) → Up ys → Up zs → ((x : X) → filter (same x) ys ≡ filter (same x) zs) → ys ≡ zs
  one_order [] [] left right alike = refl
  one_order [] (z ∷ zs) left right alike =
      let clash = alike z ∙ filter-kept (same z) z zs (same_self z) in cc
  one_order (y ∷ ys) [] left right alike =
      let clash = sym (alike y) ∙ filter-kept (same y) y ys (same_self y) in cc
  one_order (y ∷ ys) (z ∷ zs) left right alike =
      let at_y = filter-kept (same y) y ys (same_self y) in
      let at_z = filter-kept (same z) z zs (same_self z) in
      let up = found_at_least y z (z ∷ zs) y _ (not_less_than_itself z, right.0) (sym (alike y) ∙ at_y) in
      let down = found_at_least z y (y ∷ ys) z _ (not_less_than_itself y, left.0) (alike z ∙ at_z) in
      let heads = sym at_y ∙ alike y ∙ filter-kept (same y) z zs (same_from y z up down) in
      let head : y ≡ z = cc in
      let tails : (x : X) → filter (same x) ys ≡ filter (same x) zs =
      λ x. elim (cases_Bool (same x y)) [
        | inl with ↦
            let both = sym (filter-kept (same x) y ys with) ∙ alike x ∙ filter-kept (same x) z zs (ap (same x) (sym head) ∙ with) in cc
        | inr without ↦
            sym (filter-dropped (same x) y ys without) ∙ alike x ∙ filter-dropped (same x) z zs (ap (same x) (sym head) ∙ without)
      ] in
      ap (λ w. w ∷ ys) head ∙ ap (λ l. z ∷ l) (one_order ys zs left.1 right.1 tails)

  -- what a stable sort makes of a list is the sort of the model
  pub stably_sorted : (xs ys : List X) → IsSortedBy less ys → IsStableBy less xs ys → ys ≡ sort_by less xs
  stably_sorted xs ys sorted stable = one_order ys (sort_by less xs) (up_from ys sorted) (up_sorted xs) (λ x. stable x ∙ sym (filter_sorted x xs))
