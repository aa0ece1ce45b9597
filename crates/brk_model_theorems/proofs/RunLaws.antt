-- Runs of calls: only accepted commands change the base, and their stamps ascend.
use Rattle.std.proofs.Common.{◌≡◌, ◌<◌, ℕ, Bool, true, false, cond, List, [], ◌∷◌, ◌++◌, map, refl, sym, ◌∙◌, ap, subst, Option, Some, None, IfSome, Result, Ok, Err}
use Rattle.std.specs.Prelude.{bytes_eq}
use Rattle.brk_money.specs.declared.refusal.Refusal.{Refusal}
use Rattle.brk_money.specs.declared.refusal.Refusal.TheVariants.{KeyReused}
use Rattle.brk_model.specs.Records.{Key, Kept}
use Rattle.brk_model.specs.Base.{Base}
use Rattle.brk_model.specs.Commands.{Command, Reply, Answer, Done, Again, Refused}
use Rattle.brk_model.specs.Rows.{row_text}
use Rattle.brk_model.specs.Keyed.{keyed_step, answer_and_base_by_stored_row, answer_and_base_of_step, stored_row_with_optional_key, base_with_stored_reply}
use Rattle.brk_model.specs.Step.{step}
use Rattle.brk_model.specs.Tests.{stamp_of_next_command}
use Rattle.brk_model.specs.Run.{Call, Do, Ask, Outcome, Did, Saw, NoView, Failed, IsOutcomeOfCall, Run}
use Rattle.brk_model_theorems.specs.RowCalls.{RowCall, CallsHaveAnswers, result_of_row_call}
use Rattle.brk_model.specs.Batch.{step_of_row}
use Rattle.brk_model_theorems.specs.Laws.{stamp_of_reply, stamps_of_outcome, accepted_stamps, StampsAscendFrom, base_after_outcome, base_after_answer, base_after_accepted_commands, call_of_batch_row}
use Rattle.brk_model_theorems.proofs.Steps.{Accepted, accepted, reply-stamp, next-above}

-- ---- what an answer says of the base after it

-- An accepted command makes its stamp, which is above the last stamp of `base`, the last stamp of
-- `after`; for any other answer the base is unchanged.
abbrev pub Says : Base → Answer → Base → Type 0
Says base (Done reply) after = (after.last ≡ Some (stamp_of_reply reply)) × IfSome base.last (λ l. l < stamp_of_reply reply)
Says base (Again line) after = after ≡ base
Says base (Refused refusal) after = after ≡ base

keeping-last : (key : Option Key) (command : Command) (reply : Reply) (base : Base) → (base_with_stored_reply key command reply base).last ≡ base.last
keeping-last None command reply base = refl
keeping-last (Some key) command reply base = refl

acted-says : (base : Base) (now : ℕ) (key : Option Key) (command : Command) (r : Result (Reply × Base) Refusal) → step base now command ≡ r
    → Says base (answer_and_base_of_step base key command r).0 (answer_and_base_of_step base key command r).1
acted-says base now key command (Err refusal) h = refl
acted-says base now key command (Ok booked) h =
    let k : Accepted base now command booked.0 booked.1 = accepted base now command booked.0 booked.1 h in
    let s : stamp_of_reply booked.0 ≡ stamp_of_next_command base now = ap stamp_of_reply k.told ∙ reply-stamp base _ command in
    (keeping-last key command booked.0 booked.1 ∙ ap (λ b. b.last) k.moved ∙ ap Some (sym s), subst (λ n. IfSome base.last (λ l. l < n)) (sym s) (next-above base now))

keyed-says : (base : Base) (now : ℕ) (command : Command) (key : Option Key) (found : Option Kept)
    → Says base (answer_and_base_by_stored_row base now command key found).0 (answer_and_base_by_stored_row base now command key found).1
keyed-says base now command key None = acted-says base now key command (step base now command) refl
keyed-says base now command key (Some k) = at (bytes_eq k.row_text (row_text command))
  where
    at : (b : Bool) → Says base (cond b (Again k.line) (Refused KeyReused)) base
    at true = refl
    at false = refl

pub keyed_step-says : (base : Base) (now : ℕ) (command : Command) (key : Option Key) (answer : Answer) (after : Base) → keyed_step base now command key ≡ (answer, after) → Says base answer after
unfolding keyed_step
keyed_step-says base now command key answer after e =
    let P : Answer × Base → Type 0 = λ r. Says base r.0 r.1 in
    subst P e (keyed-says base now command key (stored_row_with_optional_key base key))

-- ---- the accepted commands alone

answer-moved : (base : Base) (now : ℕ) (call : Call) (answer : Answer) (after : Base) → IsOutcomeOfCall base now call (Did answer) after → after ≡ base_after_answer base now call answer
answer-moved base now (Do command key) (Done reply) after a = ap (λ r. r.1) (sym a)
answer-moved base now (Do command key) (Again line) after a = keyed_step-says base now command key (Again line) after a
answer-moved base now (Do command key) (Refused refusal) after a = keyed_step-says base now command key (Refused refusal) after a
answer-moved base now (Ask query) answer after a = absurd a

saw-moved : (base : Base) (now : ℕ) (call : Call) (seen : Outcome) (after : Base) → IsOutcomeOfCall base now call seen after → after ≡ base_after_outcome base now call seen
saw-moved base now call (Did answer) after a = answer-moved base now call answer after a
saw-moved base now (Do command key) (Saw view) after a = absurd a
saw-moved base now (Ask query) (Saw view) after a = a.1
saw-moved base now (Do command key) (NoView refusal) after a = absurd a
saw-moved base now (Ask query) (NoView refusal) after a = a.1
saw-moved base now call (Failed fault) after a = a.1

-- the base after any run is that after its accepted commands
pub run-accepted : (calls : List (ℕ × Call)) (outcomes : List Outcome) (base after : Base) → Run base calls outcomes after → after ≡ base_after_accepted_commands base calls outcomes
run-accepted [] [] base after r = r
run-accepted [] (outcome ∷ outcomes) base after r = absurd r
run-accepted (call ∷ calls) [] base after r = absurd r
run-accepted (call ∷ calls) (outcome ∷ outcomes) base after r =
    run-accepted calls outcomes r.0 after r.2 ∙ ap (λ b. base_after_accepted_commands b calls outcomes) (saw-moved base call.0 call.1 outcome r.0 r.1)

-- ---- stamps

-- after an outcome the rest rises from the last stamp
rise-answer : (base : Base) (now : ℕ) (call : Call) (answer : Answer) (mid : Base) (stamps : List ℕ) → IsOutcomeOfCall base now call (Did answer) mid → StampsAscendFrom mid.last stamps
    → StampsAscendFrom base.last (stamps_of_outcome (Did answer) ++ stamps)
rise-answer base now (Do command key) (Done reply) mid stamps a h =
    let k = keyed_step-says base now command key (Done reply) mid a in (k.1, subst (λ l. StampsAscendFrom l stamps) k.0 h)
rise-answer base now (Do command key) (Again line) mid stamps a h = subst (λ b. StampsAscendFrom b.last stamps) (keyed_step-says base now command key (Again line) mid a) h
rise-answer base now (Do command key) (Refused refusal) mid stamps a h = subst (λ b. StampsAscendFrom b.last stamps) (keyed_step-says base now command key (Refused refusal) mid a) h
rise-answer base now (Ask query) answer mid stamps a h = absurd a

rise-one : (base : Base) (now : ℕ) (call : Call) (outcome : Outcome) (mid : Base) (stamps : List ℕ) → IsOutcomeOfCall base now call outcome mid → StampsAscendFrom mid.last stamps
    → StampsAscendFrom base.last (stamps_of_outcome outcome ++ stamps)
rise-one base now call (Did answer) mid stamps a h = rise-answer base now call answer mid stamps a h
rise-one base now (Do command key) (Saw view) mid stamps a h = absurd a
rise-one base now (Ask query) (Saw view) mid stamps a h = subst (λ b. StampsAscendFrom b.last stamps) a.1 h
rise-one base now (Do command key) (NoView refusal) mid stamps a h = absurd a
rise-one base now (Ask query) (NoView refusal) mid stamps a h = subst (λ b. StampsAscendFrom b.last stamps) a.1 h
rise-one base now call (Failed fault) mid stamps a h = subst (λ b. StampsAscendFrom b.last stamps) a.1 h

-- the stamps of a run's accepted commands rise from the last stamp
pub stamps-rise : (calls : List (ℕ × Call)) (outcomes : List Outcome) (base after : Base) → Run base calls outcomes after → StampsAscendFrom base.last (accepted_stamps outcomes)
stamps-rise [] [] base after r = tt
stamps-rise [] (outcome ∷ outcomes) base after r = absurd r
stamps-rise (call ∷ calls) [] base after r = absurd r
stamps-rise (call ∷ calls) (outcome ∷ outcomes) base after r =
    rise-one base call.0 call.1 outcome r.0 (accepted_stamps outcomes) r.1 (stamps-rise calls outcomes r.0 after r.2)

-- ---- the rows of a batch are calls

pub rows-run : (base : Base) (calls : List (RowCall Command)) (answers : List Answer) (after : Base) → CallsHaveAnswers step_of_row base calls answers after
    → Run base (map call_of_batch_row calls) (map Did answers) after
rows-run base [] [] after r = r
rows-run base [] (answer ∷ answers) after r = absurd r
rows-run base (call ∷ calls) [] after r = absurd r
rows-run base (call ∷ calls) (answer ∷ answers) after r =
    ((result_of_row_call step_of_row base call).1, ap (λ a. (a, (result_of_row_call step_of_row base call).1)) (sym r.0), rows-run (result_of_row_call step_of_row base call).1 calls answers after r.1)
