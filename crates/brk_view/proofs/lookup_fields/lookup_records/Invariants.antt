use Rattle.std.proofs.Common.{◌≡◌, take}
use Rattle.std.specs.Prelude.{flat_map}
use Rattle.brk_view_rows.specs.Lookup.{records_of_looked_up_trade}
use Rattle.brk_view_rows.specs.Views.{texts_of_records}
use Rattle.brk_view.proofs.lookup_fields.lookup_records.Given as goal

abbrev pub invariant-loop-found : goal.invariant-loop-found
invariant-loop-found l = texts_of_records l.records ≡ flat_map records_of_looked_up_trade (take l.found-index l.trades)
