use Rattle.brk_cli_jobs.proofs.desk.execute_job_and_close.Goals as goal

pub returns : goal.returns
returns g c = record {
  new = c.execute_job_at_store-ending.result.1;
  reached = c.execute_job_at_store-ending.result.0;
  closed = c.close.result;
  executed = c.execute_job_at_store-ending.ensures;
  shut = c.close.ensures;
  ended = c.ending_after_close.ensures;
}
