use Rattle.std.proofs.Common.{◌∙◌, ap}
use Rattle.brk_view_rows.specs.Recent.{recent_status_record}
use Rattle.brk_view_rows.specs.Views.{texts_of_record, texts_of_records}
use Rattle.brk_view.proofs.OneMore.{one_more_after}
use Rattle.brk_view.proofs.account_fields.append_history.Goals as goal

pub loop-row-preserved : goal.loop-row-preserved
loop-row-preserved c =
    one_more_after texts_of_record recent_status_record (texts_of_records c.args.records.now) c.args.history.now c.loop-row.row-index c.row-item.result
    c.loop-row.records.items c.push.new.self.items c.in_ok-texts.texts c.loop-row-test.true c.in_ok-push.ensures.items c.loop-row.invariant
    (c.in_ok-texts.ensures ∙ ap recent_status_record c.row-item.is)
