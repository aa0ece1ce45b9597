-- Ages of rows that are not placed: of accounts and of changes of lots.
use Rattle.std.proofs.Common.{◌≡◌, inl, inr, ◌∙◌, ◌+◌, ◌<◌, ℕ, Bool, true, false, cond, List, [], ◌∷◌, ◌++◌, map, filter, take, length, get_or, refl, sym, ap, subst}
use Rattle.brk_store_index.specs.declared.age.RowAge.{RowAge}
use Rattle.brk_store_index.specs.Ages.{AreAgesOf, Has, InsertsAgeIf}
use Rattle.brk_store_index.proofs.Elements.{behind, front, has_filtered, has_kept, has_mapped, has_pushed, mapped_has, mapped_more, pushed_has}

pub no_ages : (ages : List RowAge) → ages ≡ [] → AreAgesOf ages []
no_ages ages none = subst (λ l. AreAgesOf l []) (sym none) (record { rising = tt; covers = λ a h. h; exact = λ a h. h })

module _ {Row : Type 0} (p : Row → Bool) (age_of : Row → RowAge) where
  -- one row more
  pub ages_with : (r : Row) (rows : List Row) (ages after : List RowAge) → InsertsAgeIf (p r) ages (age_of r) after → AreAgesOf ages (map age_of (filter p rows))
      → AreAgesOf after (map age_of (filter p (r ∷ rows)))
  ages_with r rows ages after inserts is = go (p r) inserts
    where
      go : (b : Bool) → InsertsAgeIf b ages (age_of r) after → AreAgesOf after (map age_of (cond b (r ∷ filter p rows) (filter p rows)))
      go true ins = record {
        rising = ins.rising is.rising;
        covers = λ a h. elim h [
          | inl e ↦ subst (Has after) (sym e) ins.has
          | inr k ↦ ins.keeps a (is.covers a k)
        ];
        exact = λ a h. elim (ins.only a h) [ inl k ↦ inr (is.exact a k) | inr e ↦ inl e ];
      }
      go false same = subst (λ l. AreAgesOf l (map age_of (filter p rows))) (sym same) is

  abbrev pub IsAgedAmong : List Row → Row → Type 0
  IsAgedAmong rows x = (y : Row) × Has rows y × (p y ≡ p x) × (age_of y ≡ age_of x)

  carried : (xs ys : List Row) → ((x : Row) → Has xs x → IsAgedAmong ys x) → (a : RowAge) → Has (map age_of (filter p xs)) a → Has (map age_of (filter p ys)) a
  carried xs ys onto a h =
      let k = has_mapped age_of (filter p xs) a h in
      let m = has_filtered p xs k.0 k.1 in
      let n = onto k.0 m.0 in
      subst (Has (map age_of (filter p ys))) (n.3 ∙ sym k.2) (mapped_has age_of (filter p ys) n.0 (has_kept p ys n.0 n.1 (n.2 ∙ m.1)))

  -- other rows with the same ages
  pub ages_alike : (ages : List RowAge) (xs ys : List Row) → ((y : Row) → Has ys y → IsAgedAmong xs y) → ((x : Row) → Has xs x → IsAgedAmong ys x)
      → AreAgesOf ages (map age_of (filter p xs)) → AreAgesOf ages (map age_of (filter p ys))
  ages_alike ages xs ys from onto is = record {
    rising = is.rising;
    covers = λ a h. is.covers a (carried ys xs from a h);
    exact = λ a h. carried xs ys onto a (is.exact a h);
  }

  pub ages_same : (ages : List RowAge) (xs ys : List Row) → ((y : Row) → Has ys y → Has xs y) → ((x : Row) → Has xs x → Has ys x)
      → AreAgesOf ages (map age_of (filter p xs)) → AreAgesOf ages (map age_of (filter p ys))
  ages_same ages xs ys from onto = ages_alike ages xs ys (λ y h. (y, from y h, refl, refl)) (λ x h. (x, onto x h, refl, refl))

  pub ages_mapped : (f : Row → Row) (keeps : (r : Row) → (p (f r) ≡ p r) × (age_of (f r) ≡ age_of r)) (ages : List RowAge) (rows : List Row)
      → AreAgesOf ages (map age_of (filter p rows)) → AreAgesOf ages (map age_of (filter p (map f rows)))
  ages_mapped f keeps ages rows = ages_alike ages rows (map f rows)
      (λ y h. let k = has_mapped f rows y h in (k.0, k.1, sym (ap p k.2 ∙ (keeps k.0).0), sym (ap age_of k.2 ∙ (keeps k.0).1)))
      (λ x h. (f x, mapped_has f rows x h, (keeps x).0, (keeps x).1))

-- ---- the rows of a table, one after the other

-- what is so of all lists with the same elements
abbrev pub IsOfElements : {Row : Type 0} → (List Row → Type 0) → Type 0
IsOfElements {Row} P = (xs ys : List Row) → ((y : Row) → Has ys y → Has xs y) → ((x : Row) → Has xs x → Has ys x) → P xs → P ys

pub row_added : {Typed Row : Type 0} (f : Typed → Row) (P : List Row → Type 0) → IsOfElements P → (rows : List Typed) (i : ℕ) (row : Typed) → i < length rows → row ≡ get_or rows i row
    → P (f row ∷ map f (take i rows)) → P (map f (take (i + 1) rows))
row_added {Typed} {Row} f P same rows i row inside is more =
    let r = f row in
    let before = map f (take i rows) in
    subst P (sym (mapped_more f rows i row inside is)) (same (r ∷ before) (before ++ r ∷ []) (λ y h. front r before y (has_pushed before r y h)) (λ x h. pushed_has before r x (behind r before x h)) more)
