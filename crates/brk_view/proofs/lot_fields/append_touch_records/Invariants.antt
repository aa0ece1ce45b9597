use Rattle.std.proofs.Common.{◌≡◌, ◌++◌, map, take}
use Rattle.brk_view_rows.specs.Lots.{lot_change_record}
use Rattle.brk_view_rows.specs.Views.{texts_of_records}
use Rattle.brk_view.proofs.lot_fields.append_touch_records.Given as goal

abbrev pub invariant-loop-touch : goal.invariant-loop-touch
invariant-loop-touch l = texts_of_records l.records ≡ texts_of_records l.initial.records ++ map lot_change_record (take l.touch-index l.touches)
