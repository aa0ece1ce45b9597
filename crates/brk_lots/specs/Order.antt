-- The order of a position's lots, neighbour by neighbour, for the contracts of private helpers.
use Rattle.std.specs.Prelude.{◌≡◌, ◌≢◌, pos, ◌<◌, ⊤, List, [], ◌∷◌}
use Rattle.brk_lots.specs.declared.lot.Lot.{Lot}
use Rattle.brk_lots.specs.Lots.{side_of_qty}

-- The first lot of the list, if there is one, satisfies `P`.
abbrev pub FirstLotSatisfies : (Lot → Type 0) → List Lot → Type 0
FirstLotSatisfies P [] = ⊤
FirstLotSatisfies P (l ∷ ls) = P l

-- The lot `m` has the side of the lot `l`, and a later stamp than `l`.
abbrev pub PrecedesOnSameSide : Lot → Lot → Type 0
PrecedesOnSameSide l m = (side_of_qty m.qty ≡ side_of_qty l.qty) × (l.stamp < m.stamp)

-- No lot has 0 shares, and each has the side of the one before it and a later stamp. True if empty.
abbrev pub IsOneSidedAndAscending : List Lot → Type 0
IsOneSidedAndAscending [] = ⊤
IsOneSidedAndAscending (l ∷ ls) = (l.qty ≢ pos 0) × FirstLotSatisfies (PrecedesOnSameSide l) ls × IsOneSidedAndAscending ls

-- No two neighbouring lots of the list were opened by the same trade.
abbrev pub NeighboursDifferInTrade : List Lot → Type 0
NeighboursDifferInTrade [] = ⊤
NeighboursDifferInTrade (l ∷ ls) = FirstLotSatisfies (λ m. m.trade ≢ l.trade) ls × NeighboursDifferInTrade ls
