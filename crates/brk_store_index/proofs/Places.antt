-- Ages that follow places, and places of rows.
use Rattle.std.proofs.Common.{◌≡◌, ◌⊎◌, inl, inr, ◌∙◌, ◌==◌, ℕ, Bool, true, false, not, cond, List, [], ◌∷◌, Option, Some, None, filter, map, refl, sym, ap, ap₂, subst, eq-eqb, eqb-true}
use Rattle.brk_model.specs.Lists.{update_where}
use Rattle.brk_store_index.specs.declared.age.RowAge.{RowAge}
use Rattle.brk_store_index.specs.Ages.{AreAgesOf, Has, InsertsAgeIf, RemovesAgeIf}
use Rattle.brk_store_index.specs.Parts.{ArePlacesOf, FollowPlaces}
use Rattle.brk_store_index.proofs.Elements.{has_filtered, has_kept, has_mapped, mapped_has, true_is_false}
use Rattle.brk_store_index.proofs.Rising.{age}

some_is : {X : Type 0} (x y : X) → Some x ≡ Some y → x ≡ y
some_is x y e = let same : x ≡ y = cc in same

none_is : {X : Type 0} {Y : Type 0} (o : Option X) (x : X) → o ≡ None → o ≡ Some x → Y
none_is o x e f = absurd (let g : None ≡ Some x = sym e ∙ f in cc)

off : (a b : ℕ) → (a ≡ b → ⊥) → (a == b) ≡ false
off a b apart = go (a == b) refl
  where
    go : (c : Bool) → (a == b) ≡ c → c ≡ false
    go true e = absurd (apart (eqb-true a b e))
    go false e = refl

own : (n : ℕ) → (n == n) ≡ true
own n = eq-eqb n n refl

-- ---- a place is added

module _ {Place : Type 0} (old new : ℕ → Option Place) (id : ℕ) (place : Place) (fresh : old id ≡ None) (put : (q : ℕ) → new q ≡ cond (id == q) (Some place) (old q)) where
  pub new_place : new id ≡ Some place
  new_place = put id ∙ ap (λ b. cond b (Some place) (old id)) (own id)

  pub old_place : (q : ℕ) (p : Place) → old q ≡ Some p → new q ≡ Some p
  old_place q p h = put q ∙ ap (λ b. cond b (Some place) (old q)) (off id q (λ e. none_is (old id) p fresh (ap old e ∙ h))) ∙ h

  pub which_place : (q : ℕ) (p : Place) → new q ≡ Some p → ((id ≡ q) × (place ≡ p)) ⊎ (old q ≡ Some p)
  which_place q p h = go (id == q) refl (sym (put q) ∙ h)
    where
      go : (b : Bool) → (id == q) ≡ b → cond b (Some place) (old q) ≡ Some p → ((id ≡ q) × (place ≡ p)) ⊎ (old q ≡ Some p)
      go true e k = inl (eqb-true id q e, some_is place p k)
      go false e k = inr k

  pub follow_with : (is_in : Place → Bool) (stamp_of : Place → ℕ) (ages after : List RowAge) → InsertsAgeIf (is_in place) ages (age (stamp_of place) id) after
      → FollowPlaces old is_in stamp_of ages → FollowPlaces new is_in stamp_of after
  follow_with is_in stamp_of ages after inserts is = go (is_in place) refl inserts
    where
      aged : (q : ℕ) (p : Place) → id ≡ q → place ≡ p → age (stamp_of place) id ≡ age (stamp_of p) q
      aged q p e f = ap₂ age (ap stamp_of f) e

      go : (b : Bool) → is_in place ≡ b → InsertsAgeIf b ages (age (stamp_of place) id) after → FollowPlaces new is_in stamp_of after
      go true inside ins = record {
        rising = ins.rising is.rising;
        covers = λ q p h k. elim (which_place q p h) [
          | inl e ↦ subst (Has after) (aged q p e.0 e.1) ins.has
          | inr m ↦ ins.keeps (age (stamp_of p) q) (is.covers q p m k)
        ];
        exact = λ a h. elim (ins.only a h) [
          | inl k ↦ let m = is.exact a k in (m.0, old_place a.id m.0 m.1, m.2, m.3)
          | inr e ↦ (place, ap (λ (z : RowAge). new z.id) e ∙ new_place, inside, sym (ap (λ (z : RowAge). z.stamp) e))
        ];
      }
      go false outside same = subst (FollowPlaces new is_in stamp_of) (sym same) (record {
        rising = is.rising;
        covers = λ q p h k. elim (which_place q p h) [
          | inl e ↦ true_is_false (is_in place) (ap is_in e.1 ∙ k) outside
          | inr m ↦ is.covers q p m k
        ];
        exact = λ a h. let m = is.exact a h in (m.0, old_place a.id m.0 m.1, m.2, m.3);
      })

-- ---- a place is removed

module _ {Place : Type 0} (old new : ℕ → Option Place) (id : ℕ) (place : Place) (gone : old id ≡ Some place) (taken : (q : ℕ) → new q ≡ cond (id == q) None (old q)) where
  pub no_place : new id ≡ None
  no_place = taken id ∙ ap (λ b. cond b None (old id)) (own id)

  stays : (q : ℕ) (p : Place) → old q ≡ Some p → (id ≡ q → ⊥) → new q ≡ Some p
  stays q p h apart = taken q ∙ ap (λ b. cond b None (old q)) (off id q apart) ∙ h

  left : (q : ℕ) (p : Place) → new q ≡ Some p → (old q ≡ Some p) × (id ≡ q → ⊥)
  left q p h = go (id == q) refl (sym (taken q) ∙ h)
    where
      go : (b : Bool) → (id == q) ≡ b → cond b None (old q) ≡ Some p → (old q ≡ Some p) × (id ≡ q → ⊥)
      go true e k = absurd (let f = k in cc)
      go false e k = (k, λ same. true_is_false (id == q) (eq-eqb id q same) e)

  pub follow_without : (is_in : Place → Bool) (stamp_of : Place → ℕ) (ages after : List RowAge) → RemovesAgeIf (is_in place) ages (age (stamp_of place) id) after
      → FollowPlaces old is_in stamp_of ages → FollowPlaces new is_in stamp_of after
  follow_without is_in stamp_of ages after removes is = go (is_in place) refl removes
    where
      -- the place of an age with the id is that which was removed
      same_place : (q : ℕ) (p : Place) → id ≡ q → old q ≡ Some p → place ≡ p
      same_place q p e h = some_is place p (sym gone ∙ ap old e ∙ h)

      go : (b : Bool) → is_in place ≡ b → RemovesAgeIf b ages (age (stamp_of place) id) after → FollowPlaces new is_in stamp_of after
      go true inside rem =
          let had : Has ages (age (stamp_of place) id) = is.covers id place gone inside in
          record {
            rising = rem.rising is.rising had;
            covers = λ q p h k.
                let was = left q p h in
                elim (rem.keeps is.rising had (age (stamp_of p) q) (is.covers q p was.0 k)) [
                  | inl same ↦ absurd (was.1 (sym (ap (λ (z : RowAge). z.id) same)))
                  | inr there ↦ there
                ];
            exact = λ a h.
                let was = rem.only is.rising had a h in
                let m = is.exact a was.0 in
                (m.0, stays a.id m.0 m.1 (λ e. was.1 (ap₂ age (sym m.3 ∙ ap stamp_of (sym (same_place a.id m.0 e m.1))) (sym e))), m.2, m.3);
          }
      go false outside same = subst (FollowPlaces new is_in stamp_of) (sym same) (record {
        rising = is.rising;
        covers = λ q p h k. is.covers q p (left q p h).0 k;
        exact = λ a h.
            let m = is.exact a h in
            (m.0, stays a.id m.0 m.1 (λ e. true_is_false (is_in place) (ap is_in (same_place a.id m.0 e m.1) ∙ m.2) outside), m.2, m.3);
      })

-- ---- places that are equal

pub follow_same : {Place : Type 0} (old new : ℕ → Option Place) (is_in : Place → Bool) (stamp_of : Place → ℕ) (ages : List RowAge) → ((q : ℕ) → new q ≡ old q)
    → FollowPlaces old is_in stamp_of ages → FollowPlaces new is_in stamp_of ages
follow_same old new is_in stamp_of ages same is = record {
  rising = is.rising;
  covers = λ q p h k. is.covers q p (sym (same q) ∙ h) k;
  exact = λ a h. let m = is.exact a h in (m.0, same a.id ∙ m.1, m.2, m.3);
}

-- no place was removed
pub not_taken : {Place : Type 0} (old new : ℕ → Option Place) (id : ℕ) → old id ≡ None → ((q : ℕ) → new q ≡ cond (id == q) None (old q)) → (q : ℕ) → new q ≡ old q
not_taken old new id none taken q = taken q ∙ go (id == q) refl
  where
    go : (b : Bool) → (id == q) ≡ b → cond b None (old q) ≡ old q
    go true e = sym (ap old (sym (eqb-true id q e)) ∙ none)
    go false e = refl

-- ---- the rows of the places

module _ {Row Place : Type 0} (id_of : Row → ℕ) (place_of : Row → Place) where
  abbrev pub IsRowAmong : List Row → Row → Type 0
  IsRowAmong rows x = (y : Row) × Has rows y × (id_of y ≡ id_of x) × (place_of y ≡ place_of x)

  -- other rows with the same places
  pub places_alike : (places : ℕ → Option Place) (xs ys : List Row) → ((y : Row) → Has ys y → IsRowAmong xs y) → ((x : Row) → Has xs x → IsRowAmong ys x)
      → ArePlacesOf id_of place_of places xs → ArePlacesOf id_of place_of places ys
  places_alike places xs ys from onto are = record {
    known = λ y h. let k = from y h in sym (ap places k.2) ∙ are.known k.0 k.1 ∙ ap Some k.3;
    placed = λ id p h. let k = are.placed id p h in let m = onto k.0 k.1 in (m.0, m.1, m.2 ∙ k.2, m.3 ∙ k.3);
  }

  -- the same places
  pub places_equal : (old new : ℕ → Option Place) (rows : List Row) → ((q : ℕ) → new q ≡ old q) → ArePlacesOf id_of place_of old rows → ArePlacesOf id_of place_of new rows
  places_equal old new rows same are = record { known = λ r h. same (id_of r) ∙ are.known r h; placed = λ q p h. are.placed q p (sym (same q) ∙ h) }

  -- lists with the same elements
  pub places_same : (places : ℕ → Option Place) (xs ys : List Row) → ((y : Row) → Has ys y → Has xs y) → ((x : Row) → Has xs x → Has ys x)
      → ArePlacesOf id_of place_of places xs → ArePlacesOf id_of place_of places ys
  places_same places xs ys from onto = places_alike places xs ys (λ y h. (y, from y h, refl, refl)) (λ x h. (x, onto x h, refl, refl))

  pub places_mapped : (f : Row → Row) (keeps : (r : Row) → (id_of (f r) ≡ id_of r) × (place_of (f r) ≡ place_of r)) (places : ℕ → Option Place) (rows : List Row)
      → ArePlacesOf id_of place_of places rows → ArePlacesOf id_of place_of places (map f rows)
  places_mapped f keeps places rows = places_alike places rows (map f rows)
      (λ y h. let k = has_mapped f rows y h in (k.0, k.1, sym (ap id_of k.2 ∙ (keeps k.0).0), sym (ap place_of k.2 ∙ (keeps k.0).1)))
      (λ x h. (f x, mapped_has f rows x h, (keeps x).0, (keeps x).1))

  pub places_with : (old new : ℕ → Option Place) (r : Row) (rows : List Row) → old (id_of r) ≡ None → ((q : ℕ) → new q ≡ cond (id_of r == q) (Some (place_of r)) (old q))
      → ArePlacesOf id_of place_of old rows → ArePlacesOf id_of place_of new (r ∷ rows)
  places_with old new r rows fresh put are = record {
    known = λ x h. elim h [
      | inl e ↦ ap (λ z. new (id_of z)) e ∙ new_place old new (id_of r) (place_of r) fresh put ∙ ap (λ z. Some (place_of z)) (sym e)
      | inr k ↦ old_place old new (id_of r) (place_of r) fresh put (id_of x) (place_of x) (are.known x k)
    ];
    placed = λ q p h. elim (which_place old new (id_of r) (place_of r) fresh put q p h) [
      | inl e ↦ (r, inl refl, e.0, e.1)
      | inr k ↦ let m = are.placed q p k in (m.0, inr m.1, m.2, m.3)
    ];
  }

  abbrev has_other_id : ℕ → Row → Bool
  has_other_id id r = not (id_of r == id)

  is_other : (b : Bool) → not b ≡ true → b ≡ false
  is_other true e = absurd (let f = e in cc)
  is_other false e = refl

  pub places_without : (old new : ℕ → Option Place) (id : ℕ) (rows : List Row) → ((q : ℕ) → new q ≡ cond (id == q) None (old q))
      → ArePlacesOf id_of place_of old rows → ArePlacesOf id_of place_of new (filter (λ r. not (id_of r == id)) rows)
  places_without old new id rows taken are = record {
    known = λ x h.
        let k = has_filtered (has_other_id id) rows x h in
        taken (id_of x) ∙ ap (λ b. cond b None (old (id_of x))) (off id (id_of x) (λ e. true_is_false (id_of x == id) (eq-eqb (id_of x) id (sym e)) (is_other (id_of x == id) k.1))) ∙ are.known x k.0;
    placed = λ q p h. go q p (id == q) refl (sym (taken q) ∙ h);
  }
    where
      go : (q : ℕ) (p : Place) (b : Bool) → (id == q) ≡ b → cond b None (old q) ≡ Some p
          → (r : Row) × Has (filter (has_other_id id) rows) r × (id_of r ≡ q) × (place_of r ≡ p)
      go q p true e k = absurd (let f = k in cc)
      go q p false e k =
          let m = are.placed q p k in
          (m.0, has_kept (has_other_id id) rows m.0 m.1 (ap not (off (id_of m.0) id (λ s. true_is_false (id == q) (eq-eqb id q (sym s ∙ m.2)) e))), m.2, m.3)

  -- the place of one id was changed
  pub places_updated : (old new : ℕ → Option Place) (id : ℕ) (before after : Place) (set : Row → Row) (rows : List Row) → old id ≡ Some before
      → ((q : ℕ) → new q ≡ cond (id == q) (Some after) (old q)) → ((r : Row) → id_of (set r) ≡ id_of r) → ((r : Row) → place_of r ≡ before → place_of (set r) ≡ after)
      → ArePlacesOf id_of place_of old rows → ArePlacesOf id_of place_of new (update_where (λ r. id_of r == id) set rows)
  places_updated old new id before after set rows was put keeps sets are = record {
    known = λ y h. let k = has_mapped upd rows y h in subst (λ z. new (id_of z) ≡ Some (place_of z)) (sym k.2) (one k.0 k.1 (id_of k.0 == id) refl);
    placed = λ q p h. which q p (id == q) refl (sym (put q) ∙ h);
  }
    where
      upd : Row → Row
      upd r = cond (id_of r == id) (set r) r

      one : (r : Row) → Has rows r → (b : Bool) → (id_of r == id) ≡ b → new (id_of (cond b (set r) r)) ≡ Some (place_of (cond b (set r) r))
      one r h true e =
          let s = eqb-true (id_of r) id e in
          ap new (keeps r ∙ s) ∙ put id ∙ ap (λ b. cond b (Some after) (old id)) (own id)
          ∙ ap Some (sym (sets r (some_is (place_of r) before (sym (are.known r h) ∙ ap old s ∙ was))))
      one r h false e =
          put (id_of r) ∙ ap (λ b. cond b (Some after) (old (id_of r))) (off id (id_of r) (λ s. true_is_false (id_of r == id) (eq-eqb (id_of r) id (sym s)) e)) ∙ are.known r h

      which : (q : ℕ) (p : Place) (b : Bool) → (id == q) ≡ b → cond b (Some after) (old q) ≡ Some p → (r : Row) × Has (map upd rows) r × (id_of r ≡ q) × (place_of r ≡ p)
      which q p true e k =
          let m = are.placed id before was in
          let there = subst (λ z. Has (map upd rows) z) (ap (λ b. cond b (set m.0) m.0) (eq-eqb (id_of m.0) id m.2)) (mapped_has upd rows m.0 m.1) in
          (set m.0, there, keeps m.0 ∙ m.2 ∙ eqb-true id q e, sets m.0 m.3 ∙ some_is after p k)
      which q p false e k =
          let m = are.placed q p k in
          let there = subst (λ z. Has (map upd rows) z) (ap (λ b. cond b (set m.0) m.0) (off (id_of m.0) id (λ s. true_is_false (id == q) (eq-eqb id q (sym s ∙ m.2)) e))) (mapped_has upd rows m.0 m.1) in
          (m.0, there, m.2, m.3)

  -- without a place no row has the id
  pub places_not_updated : (old : ℕ → Option Place) (id : ℕ) (set : Row → Row) (rows : List Row) → old id ≡ None → ArePlacesOf id_of place_of old rows
      → update_where (λ r. id_of r == id) set rows ≡ rows
  places_not_updated old id set rows none are = go rows (λ r h. off (id_of r) id (λ e. none_is (old id) (place_of r) none (sym (ap old e) ∙ are.known r h)))
    where
      go : (xs : List Row) → ((r : Row) → Has xs r → (id_of r == id) ≡ false) → map (λ r. cond (id_of r == id) (set r) r) xs ≡ xs
      go [] others = refl
      go (x ∷ xs) others = ap₂ (λ z zs. z ∷ zs) (ap (λ b. cond b (set x) x) (others x (inl refl))) (go xs (λ r h. others r (inr h)))

  -- ages that follow the places are the ages of the rows
  module _ (places : ℕ → Option Place) (rows : List Row) (are : ArePlacesOf id_of place_of places rows) (is_in : Place → Bool) (stamp_of : Place → ℕ) where
    abbrev age_of : Row → RowAge
    age_of r = age (stamp_of (place_of r)) (id_of r)

    abbrev in_rows : Row → Bool
    in_rows r = is_in (place_of r)

    pub ages_of_rows : (ages : List RowAge) → FollowPlaces places is_in stamp_of ages
        → AreAgesOf ages (map (λ r. age (stamp_of (place_of r)) (id_of r)) (filter (λ r. is_in (place_of r)) rows))
    ages_of_rows ages is = record {
      rising = is.rising;
      covers = λ a h.
          let k = has_mapped age_of (filter in_rows rows) a h in
          let m = has_filtered in_rows rows k.0 k.1 in
          subst (Has ages) (sym k.2) (is.covers (id_of k.0) (place_of k.0) (are.known k.0 m.0) m.1);
      exact = λ a h.
          let m = is.exact a h in
          let k = are.placed a.id m.0 m.1 in
          subst (Has (map age_of (filter in_rows rows))) (ap₂ age (ap stamp_of k.3 ∙ m.3) k.2)
          (mapped_has age_of (filter in_rows rows) k.0 (has_kept in_rows rows k.0 k.1 (ap is_in k.3 ∙ m.2)));
    }

    pub follows_rows : (ages : List RowAge) → AreAgesOf ages (map (λ r. age (stamp_of (place_of r)) (id_of r)) (filter (λ r. is_in (place_of r)) rows))
        → FollowPlaces places is_in stamp_of ages
    follows_rows ages is = record {
      rising = is.rising;
      covers = λ q p h k.
          let m = are.placed q p h in
          is.covers (age (stamp_of p) q)
          (subst (Has (map age_of (filter in_rows rows))) (ap₂ age (ap stamp_of m.3) m.2)
          (mapped_has age_of (filter in_rows rows) m.0 (has_kept in_rows rows m.0 m.1 (ap is_in m.3 ∙ k))));
      exact = λ a h.
          let k = has_mapped age_of (filter in_rows rows) a (is.exact a h) in
          let m = has_filtered in_rows rows k.0 k.1 in
          (place_of k.0, ap (λ (z : RowAge). places z.id) k.2 ∙ are.known k.0 m.0, m.1, sym (ap (λ (z : RowAge). z.stamp) k.2));
    }
