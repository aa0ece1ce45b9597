use Rattle.std.proofs.Common.{◌∙◌, ap}
use Rattle.brk_ref.specs.Rows.{abstract_trade_row}
use Rattle.brk_view_rows.specs.Recent.{recent_trade_record}
use Rattle.brk_view_rows.specs.Views.{texts_of_record}
use Rattle.brk_view.proofs.OneMore.{one_more_mapped_twice}
use Rattle.brk_view.proofs.account_fields.trade_records.Goals as goal

pub loop-trade-preserved : goal.loop-trade-preserved
loop-trade-preserved c =
    one_more_mapped_twice texts_of_record recent_trade_record abstract_trade_row c.args.trades.now c.loop-trade.trade-index c.trade-item.result
    c.loop-trade.records.items c.push.new.self.items c.in_ok-texts.texts c.loop-trade-test.true c.in_ok-push.ensures.items c.loop-trade.invariant
    (c.in_ok-texts.ensures ∙ ap (λ trade. recent_trade_record (abstract_trade_row trade)) c.trade-item.is)
