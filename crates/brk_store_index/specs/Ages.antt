-- The ages of rows, and lists of ages that rise.
use Rattle.std.specs.Prelude.{◌≡◌, ◌⊎◌, ◌==◌, ◌&&◌, ◌||◌, ℕ, Bool, true, false, List, [], ◌∷◌, Option, Some, None, reverse, ◌≤◌, length, drop, take, nat_lt}
use Rattle.std.specs.declared.alloc.Global.{Global}
use Rattle.std.specs.declared.collections.VecDeque.{VecDeque}
use Rattle.std.specs.List.{AllByRecursion}
use Rattle.brk_model.specs.Lists.{is_pair_less}
use Rattle.brk_store_index.specs.declared.age.RowAge.{RowAge}

-- True if the row of the age `a` is older than that of `b`: by stamp, then by id.
abbrev pub is_older : RowAge → RowAge → Bool
is_older a b = is_pair_less a.stamp b.stamp a.id b.id

-- The list reversed if `newest_first` is true, otherwise the list.
abbrev pub in_order : {X : Type 0} → Bool → List X → List X
in_order true xs = reverse xs
in_order false xs = xs

-- `x` is an element of the list.
abbrev pub Has : {X : Type 0} → List X → X → Type 0
Has [] x = ⊥
Has (y ∷ ys) x = (x ≡ y) ⊎ Has ys x

-- Each age is older than each later one.
abbrev pub IsRising : List RowAge → Type 0
IsRising [] = Unit {0}
IsRising (x ∷ xs) = AllByRecursion (λ y. is_older x y ≡ true) xs × IsRising xs

-- The ages `ages` are exactly those of `rows`, and rise by stamp, then by id.
pub record AreAgesOf (ages rows : List RowAge) : Type 0 where
  pub rising : IsRising ages
  pub covers : (a : RowAge) → Has rows a → Has ages a
  pub exact : (a : RowAge) → Has ages a → Has rows a

-- If the ages rise, those before the place are older than `x`, and those from the place on are not.
pub record IsPlaceOfAge (ages : List RowAge) (x : RowAge) (place : ℕ) : Type 0 where
  pub within : place ≤ length ages
  pub older : IsRising ages → AllByRecursion (λ y. is_older y x ≡ true) (take place ages)
  pub rest : IsRising ages → AllByRecursion (λ y. is_older y x ≡ false) (drop place ages)

-- True if `a` is less than `b` or, if `included` is true, equal to it.
abbrev pub is_before : Bool → ℕ → ℕ → Bool
is_before included a b = nat_lt a b || (included && (a == b))

-- If the ages rise, those before the place have a stamp less than `stamp` or, if `included` is true,
-- equal to it, and those from the place on have not.
pub record IsPlaceOfStamp (ages : List RowAge) (stamp : ℕ) (included : Bool) (place : ℕ) : Type 0 where
  pub within : place ≤ length ages
  pub before : IsRising ages → AllByRecursion (λ (y : RowAge). is_before included y.stamp stamp ≡ true) (take place ages)
  pub rest : IsRising ages → AllByRecursion (λ (y : RowAge). is_before included y.stamp stamp ≡ false) (drop place ages)

-- If the ages rise, `x` is older than those from the place on.
abbrev pub IsFreePlace : List RowAge → RowAge → ℕ → Type 0
IsFreePlace ages x place = IsRising ages → AllByRecursion (λ y. is_older x y ≡ true) (drop place ages)

-- The ages `new` are `old` and `x`. They rise if `old` does.
pub record InsertsAge (old : List RowAge) (x : RowAge) (new : List RowAge) : Type 0 where
  pub rising : IsRising old → IsRising new
  pub keeps : (y : RowAge) → Has old y → Has new y
  pub has : Has new x
  pub only : (y : RowAge) → Has new y → Has old y ⊎ (y ≡ x)

-- If the ages `old` rise and have `x`, then `new` is `old` without `x`.
pub record RemovesAge (old : List RowAge) (x : RowAge) (new : List RowAge) : Type 0 where
  pub rising : IsRising old → Has old x → IsRising new
  pub keeps : IsRising old → Has old x → (y : RowAge) → Has old y → (y ≡ x) ⊎ Has new y
  pub only : IsRising old → Has old x → (y : RowAge) → Has new y → Has old y × (y ≡ x → ⊥)

-- `InsertsAge` if the test is true; otherwise the ages are unchanged.
abbrev pub InsertsAgeIf : Bool → List RowAge → RowAge → List RowAge → Type 0
InsertsAgeIf true old x new = InsertsAge old x new
InsertsAgeIf false old x new = new ≡ old

-- `RemovesAge` if the test is true; otherwise the ages are unchanged.
abbrev pub RemovesAgeIf : Bool → List RowAge → RowAge → List RowAge → Type 0
RemovesAgeIf true old x new = RemovesAge old x new
RemovesAgeIf false old x new = new ≡ old

-- The ages, or none.
abbrev pub ages_in : Option (VecDeque RowAge Global) → List RowAge
ages_in None = []
ages_in (Some ages) = ages.items
