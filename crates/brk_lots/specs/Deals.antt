-- Sequences of deals.
use Rattle.std.specs.Prelude.{◌≢◌, ◌<◌, ⊤, List, [], ◌∷◌}
use Rattle.std.specs.List.{AllByRecursion}
use Rattle.brk_model.specs.Shares.{Deal}

-- The deal `e` belongs to another trade than the deal `d`, and has a later stamp than `d`.
abbrev pub PrecedesDealOfOtherTrade : Deal → Deal → Type 0
PrecedesDealOfOtherTrade d e = (d.trade ≢ e.trade) × (d.stamp < e.stamp)

-- The deals belong to distinct trades, with strictly ascending stamps. True of an empty list.
abbrev pub AreDistinctAscendingDeals : List Deal → Type 0
AreDistinctAscendingDeals [] = ⊤
AreDistinctAscendingDeals (d ∷ ds) = AllByRecursion (PrecedesDealOfOtherTrade d) ds × AreDistinctAscendingDeals ds
