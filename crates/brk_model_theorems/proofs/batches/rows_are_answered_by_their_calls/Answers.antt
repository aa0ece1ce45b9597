use Rattle.brk_model_theorems.proofs.BatchLaws.{one-each}
use Rattle.brk_model_theorems.proofs.RowLaws.{answered-of, calls-of}
use Rattle.brk_model.specs.Batch.{step_of_row}
use Rattle.brk_model_theorems.proofs.batches.rows_are_answered_by_their_calls.Goals as goal

pub returns-clause-called : goal.returns-clause-called
returns-clause-called c = λ form name base after moments rows answers. calls-of form step_of_row name base after moments rows answers

pub returns-clause-answered : goal.returns-clause-answered
returns-clause-answered c =
    λ form name base after moments rows answers h.
    (answered-of form step_of_row name base after moments rows answers h, one-each form step_of_row name base after moments rows answers h)
