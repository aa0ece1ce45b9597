-- The elements of lists.
use Rattle.std.proofs.Common.{◌≡◌, ◌⊎◌, inl, inr, ◌∙◌, ◌+◌, ◌<◌, ℕ, Bool, true, false, cond, List, [], ◌∷◌, ◌++◌, map, filter, get_or, length, take, refl, sym, ap}
use Rattle.std.proofs.lemmas.List.{map-append, take_more}
use Rattle.brk_model.specs.Lists.{insert_by}
use Rattle.brk_store_index.specs.Ages.{Has}

pub true_is_false : {Y : Type 0} (b : Bool) → b ≡ true → b ≡ false → Y
true_is_false b p q = absurd (let e = p in let f = q in cc)

pub no_elements : {X : Type 0} (xs : List X) → length xs ≡ 0 → xs ≡ []
no_elements [] e = refl
no_elements (x ∷ xs) e = absurd (let f = e in cc)

pub has_pushed : {X : Type 0} (xs : List X) (y x : X) → Has (xs ++ y ∷ []) x → Has xs x ⊎ (x ≡ y)
has_pushed [] y x (inl e) = inr e
has_pushed [] y x (inr h) = absurd h
has_pushed (z ∷ zs) y x (inl e) = inl (inl e)
has_pushed (z ∷ zs) y x (inr h) = elim (has_pushed zs y x h) [ inl more ↦ inl (inr more) | inr e ↦ inr e ]

pub pushed_has : {X : Type 0} (xs : List X) (y x : X) → Has xs x ⊎ (x ≡ y) → Has (xs ++ y ∷ []) x
pushed_has [] y x (inl h) = absurd h
pushed_has [] y x (inr e) = inl e
pushed_has (z ∷ zs) y x (inl (inl e)) = inl e
pushed_has (z ∷ zs) y x (inl (inr h)) = inr (pushed_has zs y x (inl h))
pushed_has (z ∷ zs) y x (inr e) = inr (pushed_has zs y x (inr e))

pub has_filtered : {X : Type 0} (p : X → Bool) (xs : List X) (x : X) → Has (filter p xs) x → Has xs x × (p x ≡ true)
has_filtered p [] x h = absurd h
has_filtered {X} p (y ∷ ys) x h = go (p y) refl h (λ k. has_filtered p ys x k)
  where
    go : (b : Bool) → p y ≡ b → Has (cond b (y ∷ filter p ys) (filter p ys)) x → (Has (filter p ys) x → Has ys x × (p x ≡ true)) → Has (y ∷ ys) x × (p x ≡ true)
    go true e (inl same) on = (inl same, ap p same ∙ e)
    go true e (inr more) on = let k = on more in (inr k.0, k.1)
    go false e more on = let k = on more in (inr k.0, k.1)

pub has_kept : {X : Type 0} (p : X → Bool) (xs : List X) (x : X) → Has xs x → p x ≡ true → Has (filter p xs) x
has_kept p [] x h k = absurd h
has_kept {X} p (y ∷ ys) x h k = go (p y) refl h (λ m. has_kept p ys x m k)
  where
    go : (b : Bool) → p y ≡ b → Has (y ∷ ys) x → (Has ys x → Has (filter p ys) x) → Has (cond b (y ∷ filter p ys) (filter p ys)) x
    go true e (inl same) on = inl same
    go true e (inr m) on = inr (on m)
    go false e (inl same) on = true_is_false (p x) k (ap p same ∙ e)
    go false e (inr m) on = on m

pub has_mapped : {X Y : Type 0} (f : X → Y) (xs : List X) (y : Y) → Has (map f xs) y → (x : X) × Has xs x × (y ≡ f x)
has_mapped f [] y h = absurd h
has_mapped f (x ∷ xs) y (inl e) = (x, inl refl, e)
has_mapped f (x ∷ xs) y (inr h) = let k = has_mapped f xs y h in (k.0, inr k.1, k.2)

pub mapped_has : {X Y : Type 0} (f : X → Y) (xs : List X) (x : X) → Has xs x → Has (map f xs) (f x)
mapped_has f [] x h = absurd h
mapped_has f (y ∷ ys) x (inl e) = inl (ap f e)
mapped_has f (y ∷ ys) x (inr h) = inr (mapped_has f ys x h)

pub has_inserted : {X : Type 0} (less : X → X → Bool) (r : X) (xs : List X) (x : X) → Has (insert_by less r xs) x → Has xs x ⊎ (x ≡ r)
has_inserted less r [] x (inl e) = inr e
has_inserted less r [] x (inr h) = absurd h
has_inserted {X} less r (y ∷ ys) x h = go (less y r) h (λ k. has_inserted less r ys x k)
  where
    go : (b : Bool) → Has (cond b (y ∷ insert_by less r ys) (r ∷ y ∷ ys)) x → (Has (insert_by less r ys) x → Has ys x ⊎ (x ≡ r)) → Has (y ∷ ys) x ⊎ (x ≡ r)
    go true (inl e) on = inl (inl e)
    go true (inr more) on = elim (on more) [ inl k ↦ inl (inr k) | inr e ↦ inr e ]
    go false (inl e) on = inr e
    go false (inr more) on = inl more

pub inserted_has : {X : Type 0} (less : X → X → Bool) (r : X) (xs : List X) (x : X) → Has xs x ⊎ (x ≡ r) → Has (insert_by less r xs) x
inserted_has less r [] x (inl h) = absurd h
inserted_has less r [] x (inr e) = inl e
inserted_has {X} less r (y ∷ ys) x h = go (less y r) h (λ k. inserted_has less r ys x k)
  where
    go : (b : Bool) → Has (y ∷ ys) x ⊎ (x ≡ r) → (Has ys x ⊎ (x ≡ r) → Has (insert_by less r ys) x) → Has (cond b (y ∷ insert_by less r ys) (r ∷ y ∷ ys)) x
    go true (inl (inl e)) on = inl e
    go true (inl (inr k)) on = inr (on (inl k))
    go true (inr e) on = inr (on (inr e))
    go false (inl k) on = inr k
    go false (inr e) on = inl e

pub front : {X : Type 0} (r : X) (rows : List X) (x : X) → Has rows x ⊎ (x ≡ r) → Has (r ∷ rows) x
front r rows x (inr e) = inl e
front r rows x (inl h) = inr h

pub behind : {X : Type 0} (r : X) (rows : List X) (x : X) → Has (r ∷ rows) x → Has rows x ⊎ (x ≡ r)
behind r rows x (inl e) = inr e
behind r rows x (inr h) = inl h

-- one row more of the first rows
pub mapped_more : {X Y : Type 0} (f : X → Y) (xs : List X) (i : ℕ) (x : X) → i < length xs → x ≡ get_or xs i x → map f (take (i + 1) xs) ≡ map f (take i xs) ++ f x ∷ []
mapped_more f xs i x inside is = ap (map f) (take_more xs i x inside ∙ ap (λ z. take i xs ++ z ∷ []) (sym is)) ∙ map-append f (take i xs) (x ∷ [])
