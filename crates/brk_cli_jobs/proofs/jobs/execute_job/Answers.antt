use Rattle.std.proofs.Common.{refl}
use Rattle.brk_cli_jobs.proofs.Printed.{done_in_file, prints}
use Rattle.brk_cli_jobs.proofs.Told.{told}
use Rattle.brk_cli_jobs.proofs.jobs.execute_job.Goals as goal

pub returns-clause-ran : goal.returns-clause-ran
returns-clause-ran g c = record {
  reached = c.execute_job_at_place-ending.result;
  mid = g.W.Write.contents c.execute_job_at_place-ending.new.output.output;
  executed = c.execute_job_at_place-ending.ensures;
  printed = c.print_ok_after_audit.ensures;
}

pub returns-clause-printed : goal.returns-clause-printed
returns-clause-printed g c =
    prints g.S.Store g.F.DeskFiles.opens_or_creates g.F.DeskFiles.opens g.F.DeskFiles.closes c.args.rt c.args.job.now _
    (record { input = g.R.Read.remaining c.args.input; before = g.W.Write.contents c.args.output.now.output; after = g.W.Write.contents c.print_ok_after_audit.new.output.output })
    c.print_ok_after_audit.result refl
    (record {
      reached = c.execute_job_at_place-ending.result;
      mid = g.W.Write.contents c.execute_job_at_place-ending.new.output.output;
      executed = c.execute_job_at_place-ending.ensures;
      printed = c.print_ok_after_audit.ensures;
    })

pub returns-clause-completed : goal.returns-clause-completed
returns-clause-completed g c =
    done_in_file g.S.Store g.F.DeskFiles.opens_or_creates g.F.DeskFiles.opens g.F.DeskFiles.closes c.args.rt c.args.job.now _
    (record { input = g.R.Read.remaining c.args.input; before = g.W.Write.contents c.args.output.now.output; after = g.W.Write.contents c.print_ok_after_audit.new.output.output })
    c.print_ok_after_audit.result refl
    (record {
      reached = c.execute_job_at_place-ending.result;
      mid = g.W.Write.contents c.execute_job_at_place-ending.new.output.output;
      executed = c.execute_job_at_place-ending.ensures;
      printed = c.print_ok_after_audit.ensures;
    })

pub returns-clause-told : goal.returns-clause-told
returns-clause-told g c =
    told g.S.Store g.F.DeskFiles.opens_or_creates g.F.DeskFiles.opens g.F.DeskFiles.closes c.args.rt c.args.job.now
    (record { input = g.R.Read.remaining c.args.input; before = g.W.Write.contents c.args.output.now.output; after = g.W.Write.contents c.print_ok_after_audit.new.output.output })
    c.print_ok_after_audit.result
    (record {
      reached = c.execute_job_at_place-ending.result;
      mid = g.W.Write.contents c.execute_job_at_place-ending.new.output.output;
      executed = c.execute_job_at_place-ending.ensures;
      printed = c.print_ok_after_audit.ensures;
    })
