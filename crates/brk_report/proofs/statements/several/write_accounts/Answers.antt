use Rattle.brk_report.proofs.SeveralPosts.{all_told, handed_on, none_told, one_more_told, told_until}
use Rattle.brk_report.proofs.statements.several.write_accounts.Goals as goal

pub loop-account-init : goal.loop-account-init
loop-account-init g c = none_told g.S.Store c.args.from c.args.to c.args.accounts.now c.args.desk.now (g.W.Write.contents c.args.writer.now)

pub loop-account-preserved : goal.loop-account-preserved
loop-account-preserved g c =
    one_more_told g.S.Store c.args.from c.args.to c.args.accounts.now c.args.desk.now c.loop-account.desk c.write_account.new.desk _ _ _ c.loop-account.account-index _
    c.loop-account-test.true c.account-item.is c.loop-account.invariant c.in_ok-write_account.ensures

pub returns : goal.returns
returns g c =
    all_told g.S.Store c.args.from c.args.to c.args.accounts.now c.args.desk.now c.loop-account.desk _ _ c.loop-account.account-index c.loop-account-test.false
    c.loop-account.invariant

pub returns-in_err-write_account : goal.returns-in_err-write_account
returns-in_err-write_account g c =
    handed_on g.S.Store c.args.desk.now c.write_account.new.desk _ _ _ _ c.from_residual.result _ c.from_residual.ensures.1
    (told_until g.S.Store c.args.from c.args.to c.args.accounts.now c.args.desk.now c.loop-account.desk c.write_account.new.desk _ _ _ c.loop-account.account-index _
    c.loop-account-test.true c.account-item.is c.loop-account.invariant _ c.in_err-write_account.ensures)
