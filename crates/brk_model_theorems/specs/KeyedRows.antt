-- Rows that are executed under a key, for the theorems on keys.
use Rattle.std.specs.Prelude.{◌≡◌, ℕ, List, Some, None, Ok}
use Rattle.brk_money.specs.declared.refusal.Refusal.{Refusal}
use Rattle.brk_model.specs.Base.{Base}
use Rattle.brk_model.specs.Records.{Key}
use Rattle.brk_model.specs.Commands.{Command, Done, Refused, Reply}
use Rattle.brk_model.specs.Keyed.{base_with_stored_reply, stored_row_with_key, keyed_step}
use Rattle.brk_model.specs.Step.{step}
use Rattle.brk_model.specs.Run.{Call, Outcome, Run}
use Rattle.brk_model_theorems.specs.Laws.{AcceptsNothingUnderKey}

-- A row accepted under its key over `base` at `now`, with the reply `reply` and the base `after`.
pub record AcceptedRow : Type 0 where
  pub base : Base
  pub after : Base
  pub now : ℕ
  pub command : Command
  pub key : Key
  pub reply : Reply
  pub accepted : keyed_step base now command (Some key) ≡ (Done reply, after)

-- A row refused under its key over `base` at `now` with the refusal `refusal` and the base `after`.
pub record RefusedRow : Type 0 where
  pub base : Base
  pub after : Base
  pub now : ℕ
  pub command : Command
  pub key : Key
  pub refusal : Refusal
  pub refused : keyed_step base now command (Some key) ≡ (Refused refusal, after)

-- The base stores no row under the key.
abbrev pub IsUnusedKey : Base → Key → Type 0
IsUnusedKey base key = stored_row_with_key base key ≡ None

-- Some run of calls that accepts no command under the key leads from `base` to `later`.
abbrev pub RunNotAcceptingKeyLeadsTo : Key → Base → Base → Type 0
RunNotAcceptingKeyLeadsTo key base later =
    (calls : List (ℕ × Call)) × (outcomes : List Outcome) × Run base calls outcomes later × AcceptsNothingUnderKey key calls outcomes

-- If `step` accepts the command over `base` at the clock reading `now`, `keyed_step` accepts it
-- under the key, with the reply of `step`, and its base also stores the command's row and the reply
-- under the key. Vacuous if `step` refuses the command.
abbrev pub IsAcceptedIfStepAccepts : Base → Key → ℕ → Command → Type 0
IsAcceptedIfStepAccepts base key now command =
    (reply : Reply) (booked : Base) → step base now command ≡ Ok (reply, booked)
    → keyed_step base now command (Some key) ≡ (Done reply, base_with_stored_reply (Some key) command reply booked)
