-- The bases that a crash may expose after a run of calls.
use Rattle.std.specs.Prelude.{◌≡◌, ◌⊎◌, ℕ, List, ◌∷◌, ◌++◌}
use Rattle.std.specs.List.{AllByRecursion}
use Rattle.brk_money.specs.declared.fault.Fault.{Fault}
use Rattle.brk_model.specs.Base.{Base}
use Rattle.brk_model.specs.Commands.{Command, Done}
use Rattle.brk_model.specs.Keyed.{keyed_step}
use Rattle.brk_model.specs.Records.{Key}
use Rattle.brk_model.specs.Run.{Call, Do, Outcome, Did, Failed, Run}

-- The outcome acknowledges no change: it is not `Did` with `Done`. `Again` returns a stored reply.
abbrev pub AcknowledgesNothing : Outcome → Type 0
AcknowledgesNothing (Did (Done reply)) = ⊥
AcknowledgesNothing _ = Unit {0}

-- The run was `earlier`, then a command that returned a fault, then `later`, without the outcome
-- `Done`. `after` is the base after the command, as if it had not failed, on `before`, the base
-- after `earlier`: it has the changes of `earlier` and of the command, and no other.
pub record HasUnacknowledgedCommand (base : Base) (calls : List (ℕ × Call)) (outcomes : List Outcome) (after : Base) : Type 0 where
  -- The calls before the command, the command with clock reading and key, the calls after it.
  pub earlier : List (ℕ × Call)
  pub now : ℕ
  pub command : Command
  pub key : Rattle.std.specs.Prelude.Option Key
  pub later : List (ℕ × Call)
  pub calls_are : calls ≡ earlier ++ (now, Do command key) ∷ later
  -- The outcomes before the command, its fault, and the outcomes after it.
  pub earlier_outcomes : List Outcome
  pub fault : Fault
  pub later_outcomes : List Outcome
  pub outcomes_are : outcomes ≡ earlier_outcomes ++ Failed fault ∷ later_outcomes
  -- The base before the command: the calls before it run from `base` to this base.
  pub before : Base
  pub earlier_run : Run base earlier earlier_outcomes before
  -- No outcome after the fault is `Did` with the answer `Done`.
  pub none_later_is_done : AllByRecursion AcknowledgesNothing later_outcomes
  -- The base after the command, as if it had not failed.
  pub after_is : after ≡ (keyed_step before now command key).1

-- A crash after the calls from `base` have returned may expose the tables of `after`: either a run
-- of the calls with these outcomes ends at `after`, or `after` has the change of one more command,
-- which returned a fault and after which no change was acknowledged (`HasUnacknowledgedCommand`).
abbrev pub CrashMayExposeBase : Base → List (ℕ × Call) → List Outcome → Base → Type 0
CrashMayExposeBase base calls outcomes after = Run base calls outcomes after ⊎ HasUnacknowledgedCommand base calls outcomes after
