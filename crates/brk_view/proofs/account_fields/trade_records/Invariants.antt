use Rattle.std.proofs.Common.{◌≡◌, map, take}
use Rattle.brk_ref.specs.Rows.{abstract_trade_row}
use Rattle.brk_view_rows.specs.Recent.{recent_trade_record}
use Rattle.brk_view_rows.specs.Views.{texts_of_records}
use Rattle.brk_view.proofs.account_fields.trade_records.Given as goal

abbrev pub invariant-loop-trade : goal.invariant-loop-trade
invariant-loop-trade l = texts_of_records l.records ≡ map recent_trade_record (map abstract_trade_row (take l.trade-index l.trades))
