use Rattle.std.proofs.Common.{◌≡◌, ◌+◌, drop, map}
use Rattle.brk_ref.specs.Rows.{abstract_cash_row}
use Rattle.brk_audit_sums.specs.Settling.{is_numbered_by_stamp}
use Rattle.brk_audit.proofs.cash.are_rows_numbered.Given as goal

abbrev pub invariant-loop-i : goal.invariant-loop-i
invariant-loop-i l = is_numbered_by_stamp 1 0 (map abstract_cash_row l.moves) ≡ is_numbered_by_stamp (l.i + 1) l.stamp (map abstract_cash_row (drop l.i l.moves))
