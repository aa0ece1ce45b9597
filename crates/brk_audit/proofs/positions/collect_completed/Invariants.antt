use Rattle.std.proofs.Common.{◌≡◌, filter, map, take}
use Rattle.brk_audit_sums.specs.Completed.{is_completed_trade_row}
use Rattle.brk_ref.specs.Rows.{abstract_trade_row}
use Rattle.brk_audit.proofs.positions.collect_completed.Given as goal

abbrev pub invariant-loop-row : goal.invariant-loop-row
invariant-loop-row l = map (λ row. abstract_trade_row row.now) l.done.items ≡ filter is_completed_trade_row (map abstract_trade_row (take l.row-index l.trades))
