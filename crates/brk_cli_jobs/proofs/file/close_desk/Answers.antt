use Rattle.std.proofs.Common.{Err, Ok, refl}
use Rattle.brk_cli_jobs.proofs.Outcomes.{closed_desk}
use Rattle.brk_cli_jobs.proofs.file.close_desk.Goals as goal

pub returns-in-Ok : goal.returns-in-Ok
returns-in-Ok g c =
    closed_desk g.P.FilePlace.disconnects c.into_conn.result c.args.store (Ok tt) (Ok tt) c.into_conn.ensures.same c.in-Ok.ensures refl

pub returns-in-Err : goal.returns-in-Err
returns-in-Err g c =
    closed_desk g.P.FilePlace.disconnects c.into_conn.result c.args.store (Err c.in-Err.field-0) _ c.into_conn.ensures.same c.in-Err.ensures refl
