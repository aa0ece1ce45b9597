use Rattle.std.proofs.Common.{refl}
use Rattle.brk_cli_jobs.proofs.desk.execute_job_on_file_store.Goals as goal

pub returns-in-Serve : goal.returns-in-Serve
returns-in-Serve g c = rw c.in-Serve.is (c.execute_serve_job_in_file.ensures, refl)
