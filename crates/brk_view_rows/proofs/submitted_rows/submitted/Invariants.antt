use Rattle.std.proofs.Common.{◌≡◌, map, take}
use Rattle.brk_ref.specs.Rows.{abstract_trade_row}
use Rattle.brk_view_rows.specs.Views.{record_of_submitted_row, submitted_trade_record}
use Rattle.brk_view_rows.proofs.submitted_rows.submitted.Given as goal

abbrev pub invariant-loop-row : goal.invariant-loop-row
invariant-loop-row l = map submitted_trade_record l.trades.items ≡ map record_of_submitted_row (map abstract_trade_row (take l.row-index l.rows))
