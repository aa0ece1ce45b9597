use Rattle.std.proofs.Common.{◌∙◌, ap, refl, rules}
use Rattle.brk_model_explain.specs.Explain.{read_explain_request}
use Rattle.brk_cli_jobs.proofs.Explained.{refuses}
use Rattle.brk_cli_jobs.proofs.explain.execute_explain_job.Goals as goal

pub returns-in-Ok-Err : goal.returns-in-Ok-Err
returns-in-Ok-Err g c =
    let read = rw c.in-Ok-Err.field-0-is at c.in-Ok-Err.ensures in
    refuses g.S.Store _ c.in-Ok-Err.refusal c.args.desk.now _
    (ap read_explain_request (search rules) ∙ read) refl
