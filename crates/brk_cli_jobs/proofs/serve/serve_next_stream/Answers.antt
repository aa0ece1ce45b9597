use Rattle.std.proofs.Common.{inl, refl}
use Rattle.brk_cli_jobs.proofs.Sequence.{next_stream}
use Rattle.brk_cli_jobs.proofs.serve.serve_next_stream.Goals as goal

pub returns-in-Ok : goal.returns-in-Ok
returns-in-Ok g c =
    next_stream g.S.Store g.F.DeskFiles.opens g.F.DeskFiles.closes _ g.C.Clock.gives _ _ _ _ _ c.in-Ok.ensures c.serve_stream_or_close.ensures

pub returns-in-Err : goal.returns-in-Err
returns-in-Err g c = inl (c.in-Err.fault, c.in-Err.ensures, refl)
