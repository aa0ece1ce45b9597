use Rattle.std.proofs.Common.{Err, subst, sym}
use Rattle.brk_store_transactions.specs.Audited.{AdoptPost}
use Rattle.brk_cli_jobs.proofs.file.adopt_or_close.Goals as goal

pub returns-in-Err-clause-adopted : goal.returns-in-Err-clause-adopted
returns-in-Err-clause-adopted g c = (
  c.in-Err.conn,
  subst (λ fault. AdoptPost g.S.Store c.args.conn c.in-Err.conn (Err fault)) (sym c.close_after.ensures.same) c.in-Err.ensures.adopted,
  c.close_after.ensures.closed,
)
