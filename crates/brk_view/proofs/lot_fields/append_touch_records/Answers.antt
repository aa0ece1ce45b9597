use Rattle.std.proofs.Common.{◌∙◌, ap}
use Rattle.brk_view_rows.specs.Lots.{lot_change_record}
use Rattle.brk_view_rows.specs.Views.{texts_of_record, texts_of_records}
use Rattle.brk_view.proofs.OneMore.{one_more_after}
use Rattle.brk_view.proofs.lot_fields.append_touch_records.Goals as goal

pub loop-touch-preserved : goal.loop-touch-preserved
loop-touch-preserved c =
    one_more_after texts_of_record lot_change_record (texts_of_records c.args.records.now) c.args.touches.now c.loop-touch.touch-index c.touch-item.result
    c.loop-touch.records.items c.push.new.self.items c.in_ok-texts.texts c.loop-touch-test.true c.in_ok-push.ensures.items c.loop-touch.invariant
    (c.in_ok-texts.ensures ∙ ap lot_change_record c.touch-item.is)
