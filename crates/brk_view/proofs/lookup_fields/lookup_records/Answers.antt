use Rattle.brk_view_rows.specs.Lookup.{records_of_looked_up_trade}
use Rattle.brk_view_rows.specs.Views.{texts_of_records}
use Rattle.brk_view.proofs.OneMore.{those_of_one_more}
use Rattle.brk_view.proofs.lookup_fields.lookup_records.Goals as goal

pub loop-found-preserved : goal.loop-found-preserved
loop-found-preserved c =
    those_of_one_more records_of_looked_up_trade c.args.trades.now c.loop-found.found-index c.found-item.result
    (texts_of_records c.loop-found.records) (texts_of_records c.append_looked_up_trade.new.records)
    c.loop-found-test.true c.found-item.is c.in_ok-append_looked_up_trade.ensures c.loop-found.invariant
