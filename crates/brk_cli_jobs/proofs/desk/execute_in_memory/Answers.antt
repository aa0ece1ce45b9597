use Rattle.std.proofs.Common.{inr}
use Rattle.brk_cli_jobs.proofs.desk.execute_in_memory.Goals as goal

pub returns-in-Ok-create : goal.returns-in-Ok-create
returns-in-Ok-create g c = inr (record {
  conn = c.in-Ok.conn;
  old = c.in-Ok-create.store;
  new = c.execute_job_at_store-ending.result.1;
  created = c.in-Ok-create.ensures.created;
  executed = c.execute_job_at_store-ending.ensures;
})
