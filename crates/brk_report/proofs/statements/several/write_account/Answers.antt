use Rattle.brk_report.proofs.SeveralPosts.{one_told}
use Rattle.brk_report.proofs.statements.several.write_account.Goals as goal

pub returns : goal.returns
returns g c =
    let a = c.args in
    let told = one_told g.S.Store a.desk.now c.statement.new.desk a.account a.from a.to c.requires (g.W.Write.contents a.writer.now) (g.W.Write.contents c.statement.new.writer)
    c.statement.result c.statement.ensures.stated in
    rw c.refusal_as_store_fault.ensures told
