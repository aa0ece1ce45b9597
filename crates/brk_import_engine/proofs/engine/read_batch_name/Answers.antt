use Rattle.std.proofs.Common.{inr, []}
use Rattle.brk_import_engine.proofs.Reading.{begins_of}
use Rattle.brk_import_engine.proofs.engine.read_batch_name.Goals as goal

pub returns-in-Ok-None-clause-err : goal.returns-in-Ok-None-clause-err
returns-in-Ok-None-clause-err g c = λ text h.
    let stood = rw c.if-not-branch.false at (c.in_ok-read_record.ensures.found text [] h) in
    let other = rw c.in-Ok-None.field-0-is at c.in-Ok-None.ensures.header in
    inr (_, begins_of text _ _ _ stood, other)
