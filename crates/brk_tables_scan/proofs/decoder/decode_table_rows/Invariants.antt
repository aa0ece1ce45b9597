use Rattle.std.proofs.Common.{◌≡◌, ◌++◌, length, map}
use Rattle.std.specs.Vec.Iter.{into_iter_items, into_iter_len}
use Rattle.brk_tables_scan.proofs.decoder.decode_table_rows.Given as goal

-- what is decoded and what is left are the rows
abbrev pub invariant-loop-row : goal.invariant-loop-row
invariant-loop-row g l = (map g.R.Record.cells l.all.items ++ into_iter_items l.row-iterator ≡ into_iter_items l.initial.row-iterator)
    × (into_iter_len l.row-iterator ≡ length (into_iter_items l.row-iterator))
