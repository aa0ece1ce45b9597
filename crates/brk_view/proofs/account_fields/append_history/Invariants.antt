use Rattle.std.proofs.Common.{◌≡◌, ◌++◌, map, take}
use Rattle.brk_view_rows.specs.Recent.{recent_status_record}
use Rattle.brk_view_rows.specs.Views.{texts_of_records}
use Rattle.brk_view.proofs.account_fields.append_history.Given as goal

abbrev pub invariant-loop-row : goal.invariant-loop-row
invariant-loop-row l = texts_of_records l.records ≡ texts_of_records l.initial.records ++ map recent_status_record (take l.row-index l.history)
