use Rattle.std.proofs.Common.{◌≡◌, map, take}
use Rattle.brk_view_rows.specs.Lookup.{stamped_status_of_typed_history_row}
use Rattle.brk_view_rows.proofs.lookups.sorted_statuses.Given as goal

abbrev pub invariant-loop-row : goal.invariant-loop-row
invariant-loop-row l = l.moments.items ≡ map stamped_status_of_typed_history_row (take l.row-index l.history)
