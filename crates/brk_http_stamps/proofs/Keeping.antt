-- The stamp that is kept over calls is the last stamp of their base.
use Rattle.std.proofs.Common.{◌≡◌, ℕ, List, [], ◌∷◌, ◌++◌, map, Option, refl, ap, sym, ◌∙◌}
use Rattle.std.specs.Prelude.{Result, Ok, Err}
use Rattle.brk_money.specs.declared.fault.Fault.{Fault}
use Rattle.brk_money.specs.declared.refusal.Refusal.{Refusal}
use Rattle.brk_http_engine.specs.Codes.{query_outcome_in_model}
use Rattle.brk_view_rows.specs.Views.{records_of_view}
use Rattle.brk_view_rows.specs.declared.view.View.{View}
use Rattle.brk_desk.specs.Answers.{model_outcome}
use Rattle.brk_desk.specs.declared.call.Outcome as came
use Rattle.brk_model.specs.Base.{Base}
use Rattle.brk_model.specs.Commands.{Answer, Done, Again, Refused}
use Rattle.brk_model.specs.Run.{Ask, Call, Do, Did, Failed, IsOutcomeOfCall, NoView, Outcome, Run, Saw}
use Rattle.brk_model_theorems.proofs.RunLaws.{keyed_step-says}
use Rattle.brk_http_stamps.specs.Stamps.{stamp_after_outcome, stamp_after_outcomes}

answer_keeps : (base : Base) (now : ℕ) (call : Call) (answer : Answer) (after : Base) → IsOutcomeOfCall base now call (Did answer) after
    → after.last ≡ stamp_after_outcome base.last (Did answer)
answer_keeps base now (Do command key) (Done reply) after a = (keyed_step-says base now command key (Done reply) after a).0
answer_keeps base now (Do command key) (Again line) after a = ap (λ b. b.last) (keyed_step-says base now command key (Again line) after a)
answer_keeps base now (Do command key) (Refused refusal) after a = ap (λ b. b.last) (keyed_step-says base now command key (Refused refusal) after a)
answer_keeps base now (Ask query) answer after a = absurd a

outcome_keeps : (base : Base) (now : ℕ) (call : Call) (outcome : Outcome) (after : Base) → IsOutcomeOfCall base now call outcome after
    → after.last ≡ stamp_after_outcome base.last outcome
outcome_keeps base now call (Did answer) after a = answer_keeps base now call answer after a
outcome_keeps base now (Do command key) (Saw view) after a = absurd a
outcome_keeps base now (Ask query) (Saw view) after a = ap (λ b. b.last) a.1
outcome_keeps base now (Do command key) (NoView refusal) after a = absurd a
outcome_keeps base now (Ask query) (NoView refusal) after a = ap (λ b. b.last) a.1
outcome_keeps base now call (Failed fault) after a = ap (λ b. b.last) a.1

pub run_keeps : (calls : List (ℕ × Call)) (outcomes : List Outcome) (base after : Base) → Run base calls outcomes after
    → after.last ≡ stamp_after_outcomes base.last outcomes
run_keeps [] [] base after r = ap (λ b. b.last) r
run_keeps [] (outcome ∷ outcomes) base after r = absurd r
run_keeps (call ∷ calls) [] base after r = absurd r
run_keeps (call ∷ calls) (outcome ∷ outcomes) base after r =
    run_keeps calls outcomes r.0 after r.2 ∙ ap (λ last. stamp_after_outcomes last outcomes) (outcome_keeps base call.0 call.1 outcome r.0 r.1)

-- a query books nothing
pub query_keeps : (kept : Option ℕ) (result : Result (Result View Refusal) Fault) → kept ≡ stamp_after_outcome kept (query_outcome_in_model records_of_view result)
query_keeps kept (Ok (Ok view)) = refl
query_keeps kept (Ok (Err refusal)) = refl
query_keeps kept (Err fault) = refl

-- the outcomes of one sequence and then those of another
pub after_both : (kept : Option ℕ) (outcomes more : List came.Outcome)
    → stamp_after_outcomes kept (map model_outcome (outcomes ++ more))
    ≡ stamp_after_outcomes (stamp_after_outcomes kept (map model_outcome outcomes)) (map model_outcome more)
after_both kept [] more = refl
after_both kept (outcome ∷ outcomes) more = after_both (stamp_after_outcome kept (model_outcome outcome)) outcomes more
