use Rattle.std.proofs.Common.{◌≡◌, map, take}
use Rattle.brk_ref.specs.Rows.{abstract_holding_row}
use Rattle.brk_audit.proofs.holding_lots.holdings_equal.Given as goal

abbrev pub invariant-loop-i : goal.invariant-loop-i
invariant-loop-i l = map abstract_holding_row (take l.i l.rows) ≡ map abstract_holding_row (take l.i l.others)
