use Rattle.std.proofs.Common.{drop, ◌↔◌}
use Rattle.brk_lots.specs.Order.{NeighboursDifferInTrade}
use Rattle.brk_lots.proofs.position_checks.neighbours_differ_in_trade.Given as goal

-- it is left to see whether the neighbours of the rest differ
abbrev pub invariant-loop-i : goal.invariant-loop-i
invariant-loop-i l = NeighboursDifferInTrade (drop l.i l.lots) ↔ NeighboursDifferInTrade l.lots
