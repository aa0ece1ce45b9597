use Rattle.std.proofs.Common.{◌∙◌, ap}
use Rattle.brk_view_rows.specs.Status.{trade_status_record}
use Rattle.brk_view_rows.specs.Views.{texts_of_record, texts_of_records}
use Rattle.brk_view.proofs.OneMore.{one_more_after}
use Rattle.brk_view.proofs.account_fields.append_trade_statuses.Goals as goal

pub loop-trade-preserved : goal.loop-trade-preserved
loop-trade-preserved c =
    one_more_after texts_of_record trade_status_record (texts_of_records c.args.records.now) c.args.trades.now c.loop-trade.trade-index c.trade-item.result
    c.loop-trade.records.items c.push.new.self.items c.in_ok-texts.texts c.loop-trade-test.true c.in_ok-push.ensures.items c.loop-trade.invariant
    (c.in_ok-texts.ensures ∙ ap trade_status_record c.trade-item.is)
