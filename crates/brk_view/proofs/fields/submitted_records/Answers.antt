use Rattle.std.proofs.Common.{◌∙◌, ap}
use Rattle.brk_view_rows.specs.Views.{submitted_trade_record, texts_of_record}
use Rattle.brk_view.proofs.OneMore.{one_more}
use Rattle.brk_view.proofs.fields.submitted_records.Goals as goal

pub loop-trade-preserved : goal.loop-trade-preserved
loop-trade-preserved c =
    one_more texts_of_record submitted_trade_record c.args.trades.now c.loop-trade.trade-index c.trade-item.result c.loop-trade.records.items c.push.new.self.items c.in_ok-texts.texts
    c.loop-trade-test.true c.in_ok-push.ensures.items c.loop-trade.invariant (c.in_ok-texts.ensures ∙ ap submitted_trade_record c.trade-item.is)
