use Rattle.std.proofs.Common.{◌≡◌, ◌++◌, map, take}
use Rattle.brk_view_rows.specs.Status.{trade_status_record}
use Rattle.brk_view_rows.specs.Views.{texts_of_records}
use Rattle.brk_view.proofs.account_fields.append_trade_statuses.Given as goal

abbrev pub invariant-loop-trade : goal.invariant-loop-trade
invariant-loop-trade l = texts_of_records l.records ≡ texts_of_records l.initial.records ++ map trade_status_record (take l.trade-index l.trades)
