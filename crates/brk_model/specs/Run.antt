-- A run of calls: each has the specified outcome, or fails with a fault and the base is unchanged.
use Rattle.std.specs.Prelude.{◌≡◌, ◌⊎◌, ℕ, List, [], ◌∷◌, Option, Result, Ok, Err}
use Rattle.brk_money.specs.declared.refusal.Refusal.{Refusal}
use Rattle.brk_money.specs.declared.fault.Fault.{Fault}
use Rattle.brk_money.specs.declared.fault.Fault.TheVariants.{Memory, Store}
use Rattle.brk_model.specs.Records.{Key}
use Rattle.brk_model.specs.Base.{Base}
use Rattle.brk_model.specs.Commands.{Command, Answer}
use Rattle.brk_model.specs.Keyed.{keyed_step}
use Rattle.brk_model.specs.Queries.{View, Query}
use Rattle.brk_model.specs.Ask.{ask}

-- A call: a command with or without a key (`Do`), or a query (`Ask`).
pub data Call : Type 0 where
  Do : Command → Option Key → Call
  Ask : Query → Call

-- The outcome of a call: the answer to a command (`Did`), the view (`Saw`) or the refusal
-- (`NoView`) of a query, or the fault of a call that failed (`Failed`).
pub data Outcome : Type 0 where
  Did : Answer → Outcome
  Saw : View → Outcome
  NoView : Refusal → Outcome
  Failed : Fault → Outcome

-- The fault is `Memory` or `Store`, the only faults with which a call may fail.
abbrev pub IsCallFault : Fault → Type 0
IsCallFault fault = (fault ≡ Memory) ⊎ (fault ≡ Store)

-- The call is a command whose keyed step at `now` on `base` results in `answer` and `after`.
abbrev pub IsAnswerOfCommand : Base → ℕ → Call → Answer → Base → Type 0
IsAnswerOfCommand base now (Do command key) answer after = keyed_step base now command key ≡ (answer, after)
IsAnswerOfCommand base now (Ask query) answer after = ⊥

-- The call is a query whose view or refusal on `base` is `seen`, and `after` equals `base`.
abbrev pub IsResultOfQuery : Base → Call → Result View Refusal → Base → Type 0
IsResultOfQuery base (Ask query) seen after = (ask base query ≡ seen) × (after ≡ base)
IsResultOfQuery base (Do command key) seen after = ⊥

-- The call at the clock reading `now` on `base` may have the outcome and result in the base
-- `after`. A fault, `Memory` or `Store`, is always possible, and `after` then equals `base`.
abbrev pub IsOutcomeOfCall : Base → ℕ → Call → Outcome → Base → Type 0
IsOutcomeOfCall base now call (Did answer) after = IsAnswerOfCommand base now call answer after
IsOutcomeOfCall base now call (Saw view) after = IsResultOfQuery base call (Ok view) after
IsOutcomeOfCall base now call (NoView refusal) after = IsResultOfQuery base call (Err refusal) after
IsOutcomeOfCall base now call (Failed fault) after = IsCallFault fault × (after ≡ base)

-- The calls, each with its clock reading and executed in sequence from `base` on, may have these
-- outcomes, one each, and result in the base `after`, which equals `base` without calls.
abbrev pub Run : Base → List (ℕ × Call) → List Outcome → Base → Type 0
Run base [] [] after = after ≡ base
Run base (call ∷ calls) (outcome ∷ outcomes) after = (mid : Base) × IsOutcomeOfCall base call.0 call.1 outcome mid × Run mid calls outcomes after
Run base [] (outcome ∷ outcomes) after = ⊥
Run base (call ∷ calls) [] after = ⊥
