use Rattle.std.proofs.Common.{◌≡◌, map, take}
use Rattle.brk_view_rows.specs.Views.{texts_of_record}
use Rattle.brk_ask.specs.Printed.{csv_text}
use Rattle.brk_ask.proofs.rows.format_csv_rows.Given as goal

abbrev pub invariant-loop-record : goal.invariant-loop-record
invariant-loop-record l = l.text.items ≡ csv_text (map texts_of_record (take l.record-index l.records))
