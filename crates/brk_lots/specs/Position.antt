-- The lists of lots that form a position.
use Rattle.std.specs.Prelude.{◌≡◌, ◌≢◌, ℕ, pos, ◌<◌, ⊤, List, [], ◌∷◌}
use Rattle.std.specs.List.{AllByRecursion}
use Rattle.brk_lots.specs.declared.lot.Lot.{Lot}
use Rattle.brk_lots.specs.Lots.{side_of_qty}

-- The lot `m` has the side of the lot `l`, and was opened by another trade than `l`.
abbrev pub HasSameSideAndOtherTrade : Lot → Lot → Type 0
HasSameSideAndOtherTrade l m = (side_of_qty m.qty ≡ side_of_qty l.qty) × (m.trade ≢ l.trade)

-- The lots form a position, in any order: none has 0 shares, all have one side and distinct trades.
abbrev pub IsPositionInAnyOrder : List Lot → Type 0
IsPositionInAnyOrder [] = ⊤
IsPositionInAnyOrder (l ∷ ls) = (l.qty ≢ pos 0) × AllByRecursion (HasSameSideAndOtherTrade l) ls × IsPositionInAnyOrder ls

-- The lot `m` has the side of the lot `l`, another trade and a later stamp.
abbrev pub PrecedesInPosition : Lot → Lot → Type 0
PrecedesInPosition l m = HasSameSideAndOtherTrade l m × (l.stamp < m.stamp)

-- `IsPositionInAnyOrder` with strictly ascending stamps: a position, the oldest lot first.
abbrev pub IsPosition : List Lot → Type 0
IsPosition [] = ⊤
IsPosition (l ∷ ls) = (l.qty ≢ pos 0) × AllByRecursion (PrecedesInPosition l) ls × IsPosition ls

-- All lots of the list were opened by other trades than `trade`. True of an empty list.
abbrev pub AreOpenedByOtherTrades : ℕ → List Lot → Type 0
AreOpenedByOtherTrades trade ls = AllByRecursion (λ l. l.trade ≢ trade) ls

-- All lots of the list were opened before the stamp `stamp`. True of an empty list.
abbrev pub AreOpenedBeforeStamp : ℕ → List Lot → Type 0
AreOpenedBeforeStamp stamp ls = AllByRecursion (λ l. l.stamp < stamp) ls
