use Rattle.std.proofs.Common.{drop, ◌↔◌}
use Rattle.brk_lots.specs.Order.{IsOneSidedAndAscending}
use Rattle.brk_lots.proofs.position_checks.is_one_sided_ascending.Given as goal

-- it is left to see whether the rest climbs
abbrev pub invariant-loop-i : goal.invariant-loop-i
invariant-loop-i l = IsOneSidedAndAscending (drop l.i l.lots) ↔ IsOneSidedAndAscending l.lots
