use Rattle.brk_cli_jobs.proofs.file_place.close_connection.Goals as goal

pub returns-in-Ok : goal.returns-in-Ok
returns-in-Ok c = (c.in-Ok.field-0, c.in-Ok.ensures.copied)
