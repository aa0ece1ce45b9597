use Rattle.std.proofs.Common.{inl, inr, refl}
use Rattle.brk_ref.specs.Answers.{abstract_answer}
use Rattle.brk_import_engine.proofs.engine.answer_row.Goals as goal

pub returns-in-Err-clause-err : goal.returns-in-Err-clause-err
returns-in-Err-clause-err g c = inl (record {
  cause = c.in-Err.fault;
  is = refl;
  failed = c.in-Err.ensures.failed;
  may_fail = c.in-Err.ensures.fault;
  represented = c.in-Err.ensures.represented_at_error;
  unwritten = refl;
})

pub returns-in-Err-write_answer-clause-err : goal.returns-in-Err-write_answer-clause-err
returns-in-Err-write_answer-clause-err g c = inr (record {
  answer = abstract_answer g.D.Rows.told c.in-Ok.told;
  given = c.in-Ok.ensures.ok;
  kind = c.in-Err-write_answer.kind;
  is = refl;
  part = c.in-Err-write_answer.ensures.err;
})

pub returns-clause-ok : goal.returns-clause-ok
returns-clause-ok g c = record {
  answer = abstract_answer g.D.Rows.told c.in-Ok.told;
  given = c.in-Ok.ensures.ok;
  written = c.in_default.ensures.ok;
  counted = c.with_answer.ensures g.D.Rows.told;
}
