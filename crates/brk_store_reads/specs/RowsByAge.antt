-- Rows that are read by their ages.
use Rattle.std.specs.Prelude.{◌≡◌, ◌-◌, ⊤, ℕ, false, true, List, [], ◌∷◌, Option, drop, min, slice_get, take}
use Rattle.brk_store_index.specs.Ages.{IsPlaceOfStamp}
use Rattle.brk_store_index.specs.declared.age.RowAge.{RowAge}

-- Each row has the age at its place, as `IsRowOf` says, and there are no more of either.
abbrev pub AreRowsOfAges : {X : Type 0} → (RowAge → X → Type 0) → List RowAge → List X → Type 0
AreRowsOfAges IsRowOf [] [] = ⊤
AreRowsOfAges IsRowOf (age ∷ ages) (row ∷ rows) = IsRowOf age row × AreRowsOfAges IsRowOf ages rows
AreRowsOfAges IsRowOf [] (row ∷ rows) = ⊥
AreRowsOfAges IsRowOf (age ∷ ages) [] = ⊥

-- If the ages rise, `rows` has the row of each of the first 20 ages with stamps from `first` to `last`,
-- both included, as `IsRowOf` says.
abbrev pub AreFirstTwentyBetween : {X : Type 0} → (RowAge → X → Type 0) → ℕ → ℕ → List RowAge → List X → Type 0
AreFirstTwentyBetween IsRowOf first last ages rows =
    (from : ℕ) × (until : ℕ) × IsPlaceOfStamp ages first false from × IsPlaceOfStamp ages last true until
    × AreRowsOfAges IsRowOf (take (min (until - from) 20) (drop from ages)) rows

-- If the ages rise, `age` is the first with a stamp of at least `stamp`, or none.
abbrev pub IsFirstAgeSince : ℕ → List RowAge → Option RowAge → Type 0
IsFirstAgeSince stamp ages age = (place : ℕ) × IsPlaceOfStamp ages stamp false place × (age ≡ slice_get ages place)
