use Rattle.std.proofs.Common.{◌≡◌, map, take}
use Rattle.brk_tables_schema.proofs.record.decode_rows_with_reason.Given as goal

abbrev pub invariant-loop-row : goal.invariant-loop-row
invariant-loop-row g l = map g.T.Record.cells l.all.items ≡ take l.row-index l.rows
