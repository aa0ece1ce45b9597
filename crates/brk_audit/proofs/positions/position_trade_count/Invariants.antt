use Rattle.std.proofs.Common.{◌≡◌, take, true}
use Rattle.std.specs.List.{AllByRecursion}
use Rattle.brk_audit.specs.Positions.{has_same_position}
use Rattle.brk_ref.specs.Rows.{abstract_trade_row}
use Rattle.brk_audit.proofs.positions.position_trade_count.Given as goal

abbrev pub invariant-loop-i : goal.invariant-loop-i
invariant-loop-i l = AllByRecursion (λ other. has_same_position (abstract_trade_row l.trade) (abstract_trade_row other.now) ≡ true) (take l.i l.done)
