use Rattle.std.proofs.Common.{◌≡◌, ◌++◌, map, take}
use Rattle.brk_view_rows.specs.Lookup.{history_status_record}
use Rattle.brk_view_rows.specs.Views.{texts_of_records}
use Rattle.brk_view.proofs.lookup_fields.append_stamped_statuses.Given as goal

abbrev pub invariant-loop-moment : goal.invariant-loop-moment
invariant-loop-moment l = texts_of_records l.records ≡ texts_of_records l.initial.records ++ map history_status_record (take l.moment-index l.history)
