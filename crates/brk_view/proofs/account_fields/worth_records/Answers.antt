use Rattle.std.proofs.Common.{◌∙◌, ap}
use Rattle.brk_view_rows.specs.Worths.{account_worth_record}
use Rattle.brk_view_rows.specs.Views.{texts_of_record}
use Rattle.brk_view.proofs.OneMore.{one_more}
use Rattle.brk_view.proofs.account_fields.worth_records.Goals as goal

pub loop-account-preserved : goal.loop-account-preserved
loop-account-preserved c =
    one_more texts_of_record account_worth_record c.args.accounts.now c.loop-account.account-index c.account-item.result c.loop-account.records.items c.push.new.self.items c.in_ok-texts.texts
    c.loop-account-test.true c.in_ok-push.ensures.items c.loop-account.invariant (c.in_ok-texts.ensures ∙ ap account_worth_record c.account-item.is)
