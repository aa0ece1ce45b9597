-- A request for an explanation that is malformed.
use Rattle.std.proofs.Common.{◌≡◌, inr, Err, false, refl, subst, sym}
use Rattle.sqlite_trees.specs.declared.store.Store.{Ghosts}
use Rattle.sqlite.specs.Held.{Held}
use Rattle.brk_cli_exit.specs.declared.ending.Ending.TheVariants as ending
use Rattle.brk_model_explain.specs.Explain.{ExplainRequest}
use Rattle.brk_io.specs.declared.report_fault.ReportFault.TheVariants as report
use Rattle.brk_model.specs.Forms.{ReadResult}
use Rattle.brk_money.specs.declared.refusal.Refusal.{Refusal}
use Rattle.brk_cli_jobs.specs.Jobs.{InputAndOutput, WritesExplanation}

pub refuses : {S : Type 0} (g : Ghosts S) (read : ReadResult ExplainRequest) (refusal : Refusal) (desk : Held S) (io : InputAndOutput) → read ≡ Err refusal
    → io.after ≡ io.before → WritesExplanation g read desk desk io (ending.Statement (report.Refused refusal))
refuses g read refusal desk io is same =
    subst (λ (r : ReadResult ExplainRequest). WritesExplanation g r desk desk io (ending.Statement (report.Refused refusal))) (sym is)
    (inr (Err (report.Refused refusal), false, refl, (refl, (same, refl))))
