use Rattle.std.proofs.Common.{Ok, take}
use Rattle.std.specs.Prelude.{flat_map}
use Rattle.brk_report.specs.StatementsOutput.{HasAccounts, ReportLinesPost, lines_of_account}
use Rattle.brk_report.proofs.statements.several.write_accounts.Given as goal

-- what was written so far is the statements of the first accounts
abbrev pub invariant-loop-account : goal.invariant-loop-account
invariant-loop-account g l = ReportLinesPost g.S.Store l.fn.desk l.desk (λ t. HasAccounts t l.fn.accounts)
    (λ t. flat_map (lines_of_account t l.fn.from l.fn.to) (take l.account-index l.fn.accounts)) (g.W.Write.contents l.fn.writer) (g.W.Write.contents l.writer) (Ok tt)
