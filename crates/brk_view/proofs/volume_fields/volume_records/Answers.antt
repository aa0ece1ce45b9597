use Rattle.std.proofs.Common.{◌∙◌, ap}
use Rattle.brk_view_rows.specs.Volume.{broker_volume_record}
use Rattle.brk_view_rows.specs.Views.{texts_of_record}
use Rattle.brk_view.proofs.OneMore.{one_more}
use Rattle.brk_view.proofs.volume_fields.volume_records.Goals as goal

pub loop-broker-preserved : goal.loop-broker-preserved
loop-broker-preserved c =
    one_more texts_of_record broker_volume_record c.args.brokers.now c.loop-broker.broker-index c.broker-item.result c.loop-broker.records.items c.push.new.self.items c.in_ok-texts.texts
    c.loop-broker-test.true c.in_ok-push.ensures.items c.loop-broker.invariant (c.in_ok-texts.ensures ∙ ap broker_volume_record c.broker-item.is)
