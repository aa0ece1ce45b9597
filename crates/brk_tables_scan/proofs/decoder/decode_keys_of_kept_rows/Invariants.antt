use Rattle.std.proofs.Common.{◌≡◌, ◌++◌, List, length, map}
use Rattle.std.specs.Vec.Iter.{into_iter_items, into_iter_len}
use Rattle.brk_ref.specs.declared.key.Kept as typed
use Rattle.brk_ref.specs.Records.{abstract_key, abstract_kept_row}
use Rattle.brk_tables_schema.specs.Cells.{kept_cells}
use Rattle.brk_tables_scan.specs.KeptKeys.{keys_of_kept_rows}
use Rattle.brk_tables_scan.proofs.decoder.decode_keys_of_kept_rows.Given as goal

-- some whole rows have the keys that were decoded, and with what is left they are the rows
abbrev pub invariant-loop-row : goal.invariant-loop-row
invariant-loop-row l = (whole : List typed.Kept) × (map (λ r. kept_cells (abstract_kept_row r)) whole ++ into_iter_items l.row-iterator ≡ into_iter_items l.initial.row-iterator)
    × (keys_of_kept_rows whole ≡ map abstract_key l.all.items)
    × (into_iter_len l.row-iterator ≡ length (into_iter_items l.row-iterator))
