-- Calls whose keys are stored change nothing, so the other calls alone lead to the same base; so do
-- the accepted calls alone.
use Rattle.std.proofs.Common.{◌≡◌, cond, List, [], ◌∷◌, ◌++◌, append-nil, map, refl, sym, ◌∙◌, ap, subst, Option, Some, None}
use Rattle.std.specs.Prelude.{is_none}
use Rattle.brk_model.specs.Records.{Kept}
use Rattle.brk_model.specs.Base.{Base}
use Rattle.brk_model.specs.Commands.{Command, Answer, Done, Again, Refused}
use Rattle.brk_model.specs.Keyed.{stored_row_with_key, answer_and_base_by_stored_row, keyed_step, answer_and_base_of_retry}
use Rattle.brk_model_theorems.specs.RowCalls.{RowCall, CallsHaveAnswers, result_of_row_call}
use Rattle.brk_model.specs.Batch.{step_of_row}
use Rattle.brk_model.specs.Run.{Did}
use Rattle.brk_model_theorems.specs.Laws.{AnswersMatchStoredReplies, AcceptedCallsAreStored, AnswerMatchesStoredReply, IsStoredIfAccepted, answers_for_new_keys}
use Rattle.brk_model_theorems.specs.Laws.{call_of_batch_row, calls_with_new_keys, accepted_answers, accepted_calls}
use Rattle.brk_model_theorems.proofs.KeyLaws.{found_again, keeps, row_kept}
use Rattle.brk_model_theorems.proofs.KeptLaws.{Grows, grows-on, keyed_step-grows, run-grows, stays}
use Rattle.brk_model_theorems.proofs.PartLaws.{in-turn-joined}
use Rattle.brk_model_theorems.proofs.RunLaws.{Says, keyed_step-says, rows-run}

-- a call whose key is kept leaves the base
kept-call : (base : Base) (call : RowCall Command) (k : Kept) → stored_row_with_key base call.key ≡ Some k → result_of_row_call step_of_row base call ≡ answer_and_base_of_retry base call.command k
unfolding keyed_step
kept-call base call k h = ap (answer_and_base_by_stored_row base call.now call.command (Some call.key)) h

left : (first base after : Base) (calls : List (RowCall Command)) (answers : List Answer) → Grows first base → CallsHaveAnswers step_of_row base calls answers after
    → CallsHaveAnswers step_of_row base (calls_with_new_keys first calls) (answers_for_new_keys first calls answers) after × AnswersMatchStoredReplies first calls answers
left first base after [] [] g r = (r, tt)
left first base after [] (answer ∷ answers) g r = absurd r
left first base after (call ∷ calls) [] g r = absurd r
left first base after (call ∷ calls) (answer ∷ answers) g r =
    by_found (λ mid h s. left first mid after calls answers h s) (stored_row_with_key first call.key) refl
  where
    L : List (RowCall Command)
    L = calls_with_new_keys first calls

    A : List Answer
    A = answers_for_new_keys first calls answers

    by_found : ((mid : Base) → Grows first mid → CallsHaveAnswers step_of_row mid calls answers after → CallsHaveAnswers step_of_row mid L A after × AnswersMatchStoredReplies first calls answers)
        → (o : Option Kept) → stored_row_with_key first call.key ≡ o
        → CallsHaveAnswers step_of_row base (cond (is_none o) (call ∷ L) L) (cond (is_none o) (answer ∷ A) A) after
        × (AnswerMatchesStoredReply base o call answer × AnswersMatchStoredReplies first calls answers)
    by_found onward None e =
        let mid : Base = (result_of_row_call step_of_row base call).1 in
        let rest = onward mid (grows-on first base mid g (keyed_step-grows base call.now call.command (Some call.key))) r.1 in
        ((r.0, rest.0), (tt, rest.1))
    by_found onward (Some k) e =
        let same : result_of_row_call step_of_row base call ≡ answer_and_base_of_retry base call.command k = kept-call base call k (stays first base call.key k g e) in
        let rest = onward base g (subst (λ (p : Answer × Base). CallsHaveAnswers step_of_row p.1 calls answers after) same r.1) in
        (rest.0, (r.0 ∙ ap (λ (p : Answer × Base). p.0) same, rest.1))

pub left-over : (base after : Base) (calls : List (RowCall Command)) (answers : List Answer) → CallsHaveAnswers step_of_row base calls answers after
    → CallsHaveAnswers step_of_row base (calls_with_new_keys base calls) (answers_for_new_keys base calls answers) after × AnswersMatchStoredReplies base calls answers
left-over base after calls answers r = left base base after calls answers ([], sym (append-nil base.kept)) r

-- ---- two sendings

-- a row that is answered again or refused leaves the base, so that the accepted rows alone lead to
-- it
done-alone : (base after : Base) (calls : List (RowCall Command)) (answers : List Answer) → CallsHaveAnswers step_of_row base calls answers after
    → CallsHaveAnswers step_of_row base (accepted_calls calls answers) (accepted_answers answers) after
done-alone base after [] [] r = r
done-alone base after [] (answer ∷ answers) r = absurd r
done-alone base after (call ∷ calls) [] r = absurd r
done-alone base after (call ∷ calls) (answer ∷ answers) r =
    by_answer answer (λ mid s. done-alone mid after calls answers s)
    (keyed_step-says base call.now call.command (Some call.key) answer mid (ap (λ a. (a, mid)) (sym r.0))) r
  where
    mid : Base
    mid = (result_of_row_call step_of_row base call).1

    by_answer : (answer : Answer) → ((b : Base) → CallsHaveAnswers step_of_row b calls answers after → CallsHaveAnswers step_of_row b (accepted_calls calls answers) (accepted_answers answers) after)
        → Says base answer mid → CallsHaveAnswers step_of_row base (call ∷ calls) (answer ∷ answers) after
        → CallsHaveAnswers step_of_row base (accepted_calls (call ∷ calls) (answer ∷ answers)) (accepted_answers (answer ∷ answers)) after
    by_answer (Done reply) onward says r = (r.0, onward mid r.1)
    by_answer (Again line) onward says r = onward base (subst (λ b. CallsHaveAnswers step_of_row b calls answers after) says r.1)
    by_answer (Refused refusal) onward says r = onward base (subst (λ b. CallsHaveAnswers step_of_row b calls answers after) says r.1)

pub one-run : (base mid last : Base) (first again : List (RowCall Command)) (answers told : List Answer) → CallsHaveAnswers step_of_row base first answers mid
    → CallsHaveAnswers step_of_row mid again told last
    → CallsHaveAnswers step_of_row base (accepted_calls first answers ++ calls_with_new_keys mid again) (accepted_answers answers ++ answers_for_new_keys mid again told) last
one-run base mid last first again answers told r s =
    in-turn-joined base mid last (accepted_calls first answers) (calls_with_new_keys mid again) (accepted_answers answers) (answers_for_new_keys mid again told)
    (done-alone base mid first answers r) (left-over mid last again told s).0

-- what was accepted is kept
pub done-kept : (base after : Base) (calls : List (RowCall Command)) (answers : List Answer) → CallsHaveAnswers step_of_row base calls answers after → AcceptedCallsAreStored after calls answers
done-kept base after [] answers r = tt
done-kept base after (call ∷ calls) [] r = absurd r
done-kept base after (call ∷ calls) (answer ∷ answers) r = (by_answer answer r.0, done-kept mid after calls answers r.1)
  where
    mid : Base
    mid = (result_of_row_call step_of_row base call).1

    by_answer : (answer : Answer) → answer ≡ (result_of_row_call step_of_row base call).0 → IsStoredIfAccepted after call answer
    by_answer (Done reply) e =
        let k = keeps base call.now call.command call.key reply mid (ap (λ a. (a, mid)) (sym e)) in
        stays mid after call.key (row_kept call.key call.command reply) (run-grows (map call_of_batch_row calls) (map Did answers) mid after (rows-run mid calls answers after r.1))
        (found_again base call.command call.key reply mid k)
    by_answer (Again line) e = tt
    by_answer (Refused refusal) e = tt
