use Rattle.std.proofs.Common.{inl, inr, refl}
use Rattle.brk_import_engine.proofs.engine.read_record_after_header.Goals as goal

pub returns-in-Err-clause-err : goal.returns-in-Err-clause-err
returns-in-Err-clause-err g c = inr (c.in-Err.kind, refl, c.in-Err.ensures.kind)

pub returns-then-not-has_first-clause-err : goal.returns-then-not-has_first-clause-err
returns-then-not-has_first-clause-err g c = inl (refl, λ text before h. rw c.if-not-has_first.true at (c.in-Ok.ensures.found text before h))

pub returns-clause-read : goal.returns-clause-read
returns-clause-read g c = λ text before h. rw c.if-not-has_first.false at (c.in-Ok.ensures.found text before h)
