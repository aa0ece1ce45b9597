-- Look-ups of tables, one after the other.
use Rattle.std.proofs.Common.{◌≡◌, ℕ, zero, suc, ◌+◌, ◌<◌, List, [], ◌∷◌, take, length, get_or, Bool, true, false, ◌||◌, ◌&&◌, refl, arith, add-one}
use Rattle.std.specs.List.{list_all, list_any}

or_false : (a b : Bool) → (a || b) ≡ false → (a ≡ false) × (b ≡ false)
or_false true b h = absurd (let e = h in cc)
or_false false b h = (refl, h)

or_true : (a : Bool) → (a || true) ≡ true
or_true true = refl
or_true false = refl

and_both : (a b : Bool) → (a && b) ≡ true → (a ≡ true) × (b ≡ true)
and_both true b h = (refl, h)
and_both false b h = absurd (let e = h in cc)

module _ {X : Type 0} (p : X → Bool) (d : X) where
  -- this one
  pub found_at : (xs : List X) (i : ℕ) → i < length xs → p (get_or xs i d) ≡ true → list_any p xs ≡ true
  found_at [] i lt this = absurd (omega (arith, lt))
  found_at (x ∷ xs) zero lt this = rw this refl
  found_at (x ∷ xs) (suc i) lt this = rw (found_at xs i (omega (arith, lt)) this) (or_true (p x))

  none_next : (xs : List X) (i : ℕ) → i < length xs → list_any p (take i xs) ≡ false → p (get_or xs i d) ≡ false → list_any p (take (suc i) xs) ≡ false
  none_next [] i lt none this = absurd (omega (arith, lt))
  none_next (x ∷ xs) zero lt none this = rw this refl
  none_next (x ∷ xs) (suc i) lt none this = let both = or_false (p x) (list_any p (take i xs)) none in rw (both.0) (none_next xs i (omega (arith, lt)) both.1 this)

  -- none before it, and not this one
  pub none_at : (xs : List X) (i : ℕ) → i < length xs → list_any p (take i xs) ≡ false → p (get_or xs i d) ≡ false → list_any p (take (i + 1) xs) ≡ false
  none_at xs i lt none this = rw (add-one i) (none_next xs i lt none this)

  -- not this one
  pub missing_at : (xs : List X) (i : ℕ) → i < length xs → p (get_or xs i d) ≡ false → list_all p xs ≡ false
  missing_at [] i lt this = absurd (omega (arith, lt))
  missing_at (x ∷ xs) zero lt this = rw this refl
  missing_at (x ∷ xs) (suc i) lt this = rw (missing_at xs i (omega (arith, lt)) this) (past (p x))
    where
      past : (a : Bool) → (a && false) ≡ false
      past true = refl
      past false = refl

  all_next : (xs : List X) (i : ℕ) → i < length xs → list_all p (take i xs) ≡ true → p (get_or xs i d) ≡ true → list_all p (take (suc i) xs) ≡ true
  all_next [] i lt all this = absurd (omega (arith, lt))
  all_next (x ∷ xs) zero lt all this = rw this refl
  all_next (x ∷ xs) (suc i) lt all this = let both = and_both (p x) (list_all p (take i xs)) all in rw (both.0) (all_next xs i (omega (arith, lt)) both.1 this)

  -- all before it, and this one
  pub all_at : (xs : List X) (i : ℕ) → i < length xs → list_all p (take i xs) ≡ true → p (get_or xs i d) ≡ true → list_all p (take (i + 1) xs) ≡ true
  all_at xs i lt all this = rw (add-one i) (all_next xs i lt all this)
