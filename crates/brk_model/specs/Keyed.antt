-- Commands with or without a key; a command is accepted at most once under a key.
use Rattle.std.specs.Prelude.{ℕ, ◌&&◌, ◌==◌, if◌then◌else◌, [], ◌∷◌, ◌++◌, find, Option, Some, None, Result, Ok, Err, bytes_eq}
use Rattle.brk_money.specs.declared.refusal.Refusal.{Refusal}
use Rattle.brk_money.specs.declared.refusal.Refusal.TheVariants.{KeyReused}
use Rattle.brk_model.specs.Records.{Key, Kept}
use Rattle.brk_model.specs.Base.{Base}
use Rattle.brk_model.specs.Commands.{Command, Reply, Answer, Done, Again, Refused}
use Rattle.brk_model.specs.Rows.{row_text, line_text}
use Rattle.brk_model.specs.Step.{step}

-- The first row, with its reply, that `base` stores under the key `key`, or none.
abbrev pub stored_row_with_key : Base → Key → Option Kept
stored_row_with_key base key = find (λ k. bytes_eq k.key.batch key.batch && (k.key.n == key.n)) base.kept

-- The base with the command's row and the line of its reply stored last, under the key, if any.
abbrev pub base_with_stored_reply : Option Key → Command → Reply → Base → Base
base_with_stored_reply None command reply base = base
base_with_stored_reply (Some key) command reply base =
    record base { kept = base.kept ++ record { key = key; row_text = row_text command; line = line_text reply } ∷ [] }

-- The answer to a command, and the base after it, by the result of its step on `base`: `Done` with
-- the reply and the base of the step, in which row and reply are stored under the key if there is
-- one, or `Refused` with the refusal and the unchanged base.
abbrev pub answer_and_base_of_step : Base → Option Key → Command → Result (Reply × Base) Refusal → Answer × Base
answer_and_base_of_step base key command (Ok booked) = (Done booked.0, base_with_stored_reply key command booked.0 booked.1)
answer_and_base_of_step base key command (Err refusal) = (Refused refusal, base)

-- The answer to a command whose key is recorded, and the unchanged base: `Again` with the stored
-- reply if the stored row `k` has the text of its row, otherwise the refusal 19 (`KeyReused`).
abbrev pub answer_and_base_of_retry : Base → Command → Kept → Answer × Base
answer_and_base_of_retry base command k = (if bytes_eq k.row_text (row_text command) then Again k.line else Refused KeyReused, base)

-- The answer to a command and the base after it: by the stored row, if any
-- (`answer_and_base_of_retry`), otherwise by the step at the clock reading `now`.
abbrev pub answer_and_base_by_stored_row : Base → ℕ → Command → Option Key → Option Kept → Answer × Base
answer_and_base_by_stored_row base now command key (Some k) = answer_and_base_of_retry base command k
answer_and_base_by_stored_row base now command key None = answer_and_base_of_step base key command (step base now command)

-- The first row, with its reply, stored under the key; none without a key or without such a row.
abbrev pub stored_row_with_optional_key : Base → Option Key → Option Kept
stored_row_with_optional_key base None = None
stored_row_with_optional_key base (Some key) = stored_row_with_key base key

-- The answer to a command with or without a key at the clock reading `now` on `base`, and the base
-- after it: by the row stored under the key if there is one, otherwise by the step.
unfoldable pub keyed_step : Base → ℕ → Command → Option Key → Answer × Base
keyed_step base now command key = answer_and_base_by_stored_row base now command key (stored_row_with_optional_key base key)
