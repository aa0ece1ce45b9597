use Rattle.std.proofs.Common.{◌∙◌, ap}
use Rattle.brk_view_rows.specs.Lookup.{history_status_record}
use Rattle.brk_view_rows.specs.Views.{texts_of_record, texts_of_records}
use Rattle.brk_view.proofs.OneMore.{one_more_after}
use Rattle.brk_view.proofs.lookup_fields.append_stamped_statuses.Goals as goal

pub loop-moment-preserved : goal.loop-moment-preserved
loop-moment-preserved c =
    one_more_after texts_of_record history_status_record (texts_of_records c.args.records.now) c.args.history.now c.loop-moment.moment-index c.moment-item.result
    c.loop-moment.records.items c.push.new.self.items c.in_ok-texts.texts c.loop-moment-test.true c.in_ok-push.ensures.items c.loop-moment.invariant
    (c.in_ok-texts.ensures ∙ ap history_status_record c.moment-item.is)
