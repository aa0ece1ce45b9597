use Rattle.std.proofs.Common.{inl, inr, refl}
use Rattle.brk_import_engine.proofs.engine.look_ahead.Goals as goal

pub returns-in-Err-clause-err : goal.returns-in-Err-clause-err
returns-in-Err-clause-err g c = inl (c.in-Err.kind, refl, c.in-Err.ensures.kind, refl)

pub returns-then-not-has_next-clause-err : goal.returns-then-not-has_next-clause-err
returns-then-not-has_next-clause-err g c =
    inr (c.refuse_last_row-kind.result, refl, (λ text before h. rw c.if-not-has_next.true at (c.in-Ok.ensures.found text before h)), c.refuse_last_row-kind.ensures)

pub returns-clause-read : goal.returns-clause-read
returns-clause-read g c = λ text before h. rw c.if-not-has_next.false at (c.in-Ok.ensures.found text before h)
