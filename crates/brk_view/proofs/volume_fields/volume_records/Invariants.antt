use Rattle.std.proofs.Common.{◌≡◌, map, take}
use Rattle.brk_view_rows.specs.Views.{texts_of_records}
use Rattle.brk_view_rows.specs.Volume.{broker_volume_record}
use Rattle.brk_view.proofs.volume_fields.volume_records.Given as goal

abbrev pub invariant-loop-broker : goal.invariant-loop-broker
invariant-loop-broker l = texts_of_records l.records ≡ map broker_volume_record (take l.broker-index l.brokers)
