-- Definitions for theorems on runs and batches: stamps, accepted commands, stored keys and retries.
use Rattle.std.specs.Prelude.{◌≡◌, ◌⊎◌, ⊤, ℕ, ◌+◌, ◌<◌, ◌++◌, if◌then◌else◌, List, [], ◌∷◌, drop, filter, length, map, take, Option, Some, None, Ok, IfSome}
use Rattle.std.specs.Prelude.{is_none}
use Rattle.brk_money.specs.Spelling.{Text}
use Rattle.brk_model.specs.Records.{Key, Kept}
use Rattle.brk_model.specs.Base.{Base, empty_base}
use Rattle.brk_model.specs.Commands.{Command, Reply, Booked, Ordered, Ticked, CanceledTrade, CompletedTrade, Changed, MovedCash, Estimated, Answer, Done, Again, Refused}
use Rattle.brk_model.specs.Rows.{line_text, row_text}
use Rattle.brk_model.specs.Keyed.{stored_row_with_key, keyed_step, answer_and_base_of_retry}
use Rattle.brk_model.specs.Answers.{Fields}
use Rattle.brk_model_theorems.specs.RowCalls.{RowCall}
use Rattle.brk_model.specs.Forms.{ReadResult}
use Rattle.brk_model.specs.Input.{input_text}
use Rattle.brk_model.specs.Lines.{refused_answer_count}
use Rattle.brk_model.specs.Batch.{BatchRowsAreDecided, BatchResult, CorrectEnd, IsResultOfTextWithHeader, step_of_row}
use Rattle.brk_model.specs.Run.{Call, Do, Ask, Outcome, Did, Saw, NoView, Failed, Run}

-- The stamp of a reply, in milliseconds since 1970-01-01 UTC; 0 for an estimate, which has none.
abbrev pub stamp_of_reply : Reply → ℕ
stamp_of_reply (Booked stamp) = stamp
stamp_of_reply (Ordered stamp trade status estimate) = stamp
stamp_of_reply (Ticked stamp triggered) = stamp
stamp_of_reply (CanceledTrade stamp) = stamp
stamp_of_reply (CompletedTrade stamp completion) = stamp
stamp_of_reply (Changed stamp count) = stamp
stamp_of_reply (MovedCash stamp move balance) = stamp
stamp_of_reply (Estimated e) = 0

-- The stamp of the reply if the outcome accepts a command, as a list of one; otherwise empty.
abbrev pub stamps_of_outcome : Outcome → List ℕ
stamps_of_outcome (Did (Done reply)) = stamp_of_reply reply ∷ []
stamps_of_outcome (Did (Again line)) = []
stamps_of_outcome (Did (Refused refusal)) = []
stamps_of_outcome (Saw view) = []
stamps_of_outcome (NoView refusal) = []
stamps_of_outcome (Failed fault) = []

-- The stamps of the replies to the accepted commands, in the sequence of the outcomes.
abbrev pub accepted_stamps : List Outcome → List ℕ
accepted_stamps [] = []
accepted_stamps (outcome ∷ outcomes) = stamps_of_outcome outcome ++ accepted_stamps outcomes

-- The stamps are strictly ascending, and above `last` if there is one. True of an empty list.
abbrev pub StampsAscendFrom : Option ℕ → List ℕ → Type 0
StampsAscendFrom last [] = ⊤
StampsAscendFrom last (stamp ∷ stamps) = IfSome last (λ l. l < stamp) × StampsAscendFrom (Some stamp) stamps

-- The base after the call at `now`: after `keyed_step` for a command with `Done`, otherwise `base`.
abbrev pub base_after_answer : Base → ℕ → Call → Answer → Base
base_after_answer base now (Do command key) (Done reply) = (keyed_step base now command key).1
base_after_answer base now (Do command key) (Again line) = base
base_after_answer base now (Do command key) (Refused refusal) = base
base_after_answer base now (Ask query) answer = base

-- The base after the call at `now`: after `keyed_step` if the outcome accepts it, otherwise `base`.
abbrev pub base_after_outcome : Base → ℕ → Call → Outcome → Base
base_after_outcome base now call (Did answer) = base_after_answer base now call answer
base_after_outcome base now call (Saw view) = base
base_after_outcome base now call (NoView refusal) = base
base_after_outcome base now call (Failed fault) = base

-- The base after exactly the calls whose commands were accepted, executed in sequence from `base`
-- on. Calls without an outcome, and outcomes without a call, are ignored.
abbrev pub base_after_accepted_commands : Base → List (ℕ × Call) → List Outcome → Base
base_after_accepted_commands base [] outcomes = base
base_after_accepted_commands base (call ∷ calls) [] = base
base_after_accepted_commands base (call ∷ calls) (outcome ∷ outcomes) =
    base_after_accepted_commands (base_after_outcome base call.0 call.1 outcome) calls outcomes

-- The clock reading of the row call `call`, and the call of its command under its key.
abbrev pub call_of_batch_row : RowCall Command → ℕ × Call
call_of_batch_row call = (call.now, Do call.command (Some call.key))

-- The call is a command with the key `key`, and the outcome accepts it.
abbrev pub IsAcceptedUnderKey : Key → Call → Outcome → Type 0
IsAcceptedUnderKey key (Do command (Some other)) (Did (Done reply)) = other ≡ key
IsAcceptedUnderKey key call outcome = ⊥

-- No call of the list under the key `key` is accepted. Vacuous for calls without an outcome.
abbrev pub AcceptsNothingUnderKey : Key → List (ℕ × Call) → List Outcome → Type 0
AcceptsNothingUnderKey key (call ∷ calls) (outcome ∷ outcomes) = ¬ (IsAcceptedUnderKey key call.1 outcome) × AcceptsNothingUnderKey key calls outcomes
AcceptsNothingUnderKey key calls outcomes = ⊤

-- Some run of calls leads from `base` to `after`.
abbrev pub SomeRunLeadsTo : Base → Base → Type 0
SomeRunLeadsTo base after = (calls : List (ℕ × Call)) × (outcomes : List Outcome) × Run base calls outcomes after

-- Some run of calls leads from the empty base to `base`.
abbrev pub IsReachableFromEmptyBase : Base → Type 0
IsReachableFromEmptyBase base = SomeRunLeadsTo empty_base base

-- `batch` is the result of the text of `input`, executed from `base` on with the clock readings
-- `moments` and the format check `form`. It is complete, and its answers `answers` have no refusal.
pub record IsCompleteBatchWithoutRefusals (form : Fields → ReadResult Command) (base : Base) (moments : List ℕ) (input : Text) (answers : List Answer)
    (batch : BatchResult Base) : Type 0 where
  pub answered : IsResultOfTextWithHeader form step_of_row base moments (Some (input_text input)) batch
  pub ended : batch.ending ≡ CorrectEnd
  pub these : answered.answers ≡ answers
  pub none_refused : refused_answer_count answers ≡ 0

-- The answer to a retry: `Again` with the line of the reply after `Done`, otherwise as before.
abbrev pub answer_to_retry : Answer → Answer
answer_to_retry (Done reply) = Again (line_text reply)
answer_to_retry (Again line) = Again line
answer_to_retry (Refused refusal) = Refused refusal

-- ---- rows of which some have their keys in a base

-- The calls whose keys are not stored in the base, in sequence.
abbrev pub calls_with_new_keys : Base → List (RowCall Command) → List (RowCall Command)
calls_with_new_keys base calls = filter (λ call. is_none (stored_row_with_key base call.key)) calls

-- The answers to the calls whose keys are not stored in the base, in sequence, as far as there are.
abbrev pub answers_for_new_keys : Base → List (RowCall Command) → List Answer → List Answer
answers_for_new_keys base (call ∷ calls) (answer ∷ answers) =
    if is_none (stored_row_with_key base call.key) then answer ∷ answers_for_new_keys base calls answers else answers_for_new_keys base calls answers
answers_for_new_keys base calls answers = []

-- The call has the answer to a repeated row: the line of the stored row `k` if the row texts are
-- equal, otherwise the refusal `KeyReused`. Vacuous if there is no stored row.
abbrev pub AnswerMatchesStoredReply : Base → Option Kept → RowCall Command → Answer → Type 0
AnswerMatchesStoredReply base None call answer = ⊤
AnswerMatchesStoredReply base (Some k) call answer = answer ≡ (answer_and_base_of_retry base call.command k).0

-- Each call whose key is stored in the base is answered by the stored row
-- (`AnswerMatchesStoredReply`). Vacuous for other calls, and for calls without an answer.
abbrev pub AnswersMatchStoredReplies : Base → List (RowCall Command) → List Answer → Type 0
AnswersMatchStoredReplies base (call ∷ calls) (answer ∷ answers) =
    AnswerMatchesStoredReply base (stored_row_with_key base call.key) call answer × AnswersMatchStoredReplies base calls answers
AnswersMatchStoredReplies base calls answers = ⊤

-- ---- rows that were accepted

-- The calls whose answer is `Done`, in sequence; calls without an answer are left out.
abbrev pub accepted_calls : List (RowCall Command) → List Answer → List (RowCall Command)
accepted_calls (call ∷ calls) (Done reply ∷ answers) = call ∷ accepted_calls calls answers
accepted_calls (call ∷ calls) (Again line ∷ answers) = accepted_calls calls answers
accepted_calls (call ∷ calls) (Refused refusal ∷ answers) = accepted_calls calls answers
accepted_calls calls answers = []

-- The answers that are `Done`, in sequence.
abbrev pub accepted_answers : List Answer → List Answer
accepted_answers [] = []
accepted_answers (Done reply ∷ answers) = Done reply ∷ accepted_answers answers
accepted_answers (Again line ∷ answers) = accepted_answers answers
accepted_answers (Refused refusal ∷ answers) = accepted_answers answers

-- After `Done`, the base stores the call's row and reply under its key. Vacuous for other answers.
abbrev pub IsStoredIfAccepted : Base → RowCall Command → Answer → Type 0
IsStoredIfAccepted base call (Done reply) =
    stored_row_with_key base call.key ≡ Some (record { key = call.key; row_text = row_text call.command; line = line_text reply })
IsStoredIfAccepted base call (Again line) = ⊤
IsStoredIfAccepted base call (Refused refusal) = ⊤

-- The base stores row and reply of each call whose answer is `Done`. Vacuous without an answer.
abbrev pub AcceptedCallsAreStored : Base → List (RowCall Command) → List Answer → Type 0
AcceptedCallsAreStored base (call ∷ calls) (answer ∷ answers) = IsStoredIfAccepted base call answer × AcceptedCallsAreStored base calls answers
AcceptedCallsAreStored base calls answers = ⊤

-- ---- rows of a batch that was interrupted

-- The first row of `more`, which follows the rows `front` in the batch `name`, is well-formed.
-- Executed from `mid` at `moment` under its key, it has the answer `answer` and leads to `stood`.
pub record NextRowLeadsTo (form : Fields → ReadResult Command) (name : Text) (mid : Base) (front more : List Fields) (moment : ℕ) (answer : Answer)
    (stood : Base) : Type 0 where
  pub row : Fields
  pub rest : List Fields
  pub next : more ≡ row ∷ rest
  pub command : Command
  pub formed : form row ≡ Ok command
  -- The answer to the row, and the base after it.
  pub booked : step_of_row mid moment command (record { batch = name; n = length front + 1 }) ≡ (answer, stood)

-- The base `stood` may follow an interruption after the rows `front` of the batch `name`: it is
-- `mid`, the base after them, or one after the next row, at any clock reading and with any answer.
abbrev pub IsBaseAfterInterruption : (Fields → ReadResult Command) → Text → Base → List Fields → List Fields → Base → Type 0
IsBaseAfterInterruption form name mid front more stood =
    (stood ≡ mid) ⊎ ((moment : ℕ) × (answer : Answer) × NextRowLeadsTo form name mid front more moment answer stood)

-- The rows of the batch `name` are decided as by one uninterrupted run from `base` to `last`: those
-- of a first attempt with its answers `answers` and clock readings `earlier`, the others with the
-- remaining answers `told` and clock readings `later` of a retry of all rows. The retry answers
-- each row of the first attempt with `answer_to_retry` of its first answer.
pub record IsCompletedByRetry (form : Fields → ReadResult Command) (name : Text) (base : Base) (earlier later : List ℕ) (rows : List Fields)
    (answers told : List Answer) (last : Base) : Type 0 where
  pub again : take (length answers) told ≡ map answer_to_retry answers
  pub settled : BatchRowsAreDecided form step_of_row name base (earlier ++ drop (length earlier) later) rows (answers ++ drop (length answers) told) last
