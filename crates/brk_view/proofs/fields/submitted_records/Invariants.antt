use Rattle.std.proofs.Common.{◌≡◌, map, take}
use Rattle.brk_view_rows.specs.Views.{texts_of_records, submitted_trade_record}
use Rattle.brk_view.proofs.fields.submitted_records.Given as goal

abbrev pub invariant-loop-trade : goal.invariant-loop-trade
invariant-loop-trade l = texts_of_records l.records ≡ map submitted_trade_record (take l.trade-index l.trades)
