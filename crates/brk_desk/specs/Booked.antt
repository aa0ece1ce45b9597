-- The postcondition of a call that executes a command.
use Rattle.brk_model.specs.Form.{has_utf8_texts}
use Rattle.std.specs.Prelude.{◌≡◌, ℕ, Option, Result, IfOk, IfErr, IfSome, OnErr, IsTrue}
use Rattle.sqlite_trees.specs.declared.store.Store.{Ghosts}
use Rattle.sqlite.specs.Held.{Held, state}
use Rattle.sqlite.specs.State.{HasCleanDisk, Survives}
use Rattle.sqlite_trees.specs.Tree.{Trees}
use Rattle.brk_money.specs.declared.fault.Fault.{Fault}
use Rattle.brk_model.specs.Base.{Base}
use Rattle.brk_model.specs.Sheets.{sheets}
use Rattle.brk_model.specs.Commands.{Command}
use Rattle.brk_model.specs.Records.{Key}
use Rattle.brk_model.specs.Keyed.{keyed_step}
use Rattle.brk_model.specs.Run.{IsCallFault}
use Rattle.brk_audit_theorems.specs.InForm.{MeetsAuditFormats, IsWellFormedKey}
use Rattle.brk_store_transactions.specs.Audited.{Represents}
use Rattle.brk_store_transactions.specs.Holds.{IsDiskContentOfRows, WasOpenAndIsUnchanged, CrashStatesSatisfy}
use Rattle.brk_desk.specs.CommandAnswers.{CommandAnswer, IsNotDoneResult, IsDoneResult, model_answer}

-- For every base that the store represented before the call (in the state `old`), `answer` is the
-- answer of the model's step for the command (`keyed_step`) at the clock reading `now`, under `key`
-- or without one, and the store represents the base after this step in the state `new`.
abbrev pub RefinesStep : {S : Type 0} → Ghosts S → Held S → Held S → ℕ → Command → Option Key → CommandAnswer → Type 0
RefinesStep g old new now command key answer =
    (base : Base) → Represents g old base → (after : Base) × Represents g new after × (keyed_step base now command key ≡ (model_answer answer, after))

-- The store in the state `new` represents every base that it represents in the state `old`. Vacuous
-- if, in the state `new`, the disk assumption fails or the store is closed (`Represents`).
abbrev pub PreservesRepresentation : {S : Type 0} → Ghosts S → Held S → Held S → Type 0
PreservesRepresentation g old new = (base : Base) → Represents g old base → Represents g new base

-- The base after the model executes `command` on `base` at the clock reading `now`, under `key` or
-- without one. It is `base` itself if the command is refused or `key` was recorded before.
abbrev pub base_after_keyed_command : Base → ℕ → Command → Option Key → Base
base_after_keyed_command base now command key = (keyed_step base now command key).1

-- The store was open in the state `old`, and for every base that it represented, `trees` are disk
-- contents with the tables of the base after the command, whose texts are UTF-8.
abbrev pub IsDiskContentAfterCommand : {S : Type 0} → Ghosts S → Held S → ℕ → Command → Option Key → Trees → Type 0
IsDiskContentAfterCommand g old now command key trees =
    IsTrue (state g old).is_open × ((base : Base) → Represents g old base → IsDiskContentOfRows (sheets (base_after_keyed_command base now command key)) trees)
    × ((base : Base) → Represents g old base → IsTrue (has_utf8_texts (sheets (base_after_keyed_command base now command key))))

-- The postcondition of a call that executes a command. At `Ok` it refines the model's step for the
-- command. A refusal, a stored reply or an error changes nothing in a store that is still open. A
-- crash after the call exposes a state that a crash before it could expose, or the tables after the
-- command; after `Done` only these. An error is `Memory` or `Store`. The command and its key are
-- well-formed. The clauses with the premise `HasCleanDisk`, and `survives`, are vacuous if the disk
-- assumption fails. `brk_store_transactions/specs/Holds.antt` explains the terms; `g` is the
-- specification of the storage `S`.
pub record CommandPost {S : Type 0} (g : Ghosts S) (old new : Held S) (now : ℕ) (command : Command) (key : Option Key)
    (result : Result CommandAnswer Fault) : Type 0 where
  -- At `Ok` the call refines the model's step. Vacuous if the disk assumption fails.
  pub answered : HasCleanDisk (state g new) → IfOk result (RefinesStep g old new now command key)
  -- At an error the store represents every base that it represented before the call.
  pub same_bases_at_error : OnErr result (PreservesRepresentation g old new)
  -- The error is `Memory` or `Store`.
  pub fault : IfErr result IsCallFault
  -- A crash after the call exposes a prior crash state, or the tables after the command.
  pub survives : Survives (state g old) (state g new) (IsDiskContentAfterCommand g old now command key)
  -- At `Done` a crash after the call exposes only the tables after the command.
  pub durable : HasCleanDisk (state g new) → IsDoneResult result → (base : Base) → Represents g old base
      → CrashStatesSatisfy g new (IsDiskContentOfRows (sheets (base_after_keyed_command base now command key)))
  -- At `Done` the store was open, is open, and has committed its current state.
  pub open_and_committed : HasCleanDisk (state g new) → IsDoneResult result
      → IsTrue (state g old).is_open × IsTrue (state g new).is_open × ((state g new).committed ≡ (state g new).now)
  -- If the result is not `Done` and the database is open, it was open before and is unchanged.
  pub unchanged_if_open : HasCleanDisk (state g new) → IsTrue (state g new).is_open → IsNotDoneResult result → WasOpenAndIsUnchanged (state g old) (state g new)
  -- If the disk assumption holds after the call, it held before.
  pub clean : HasCleanDisk (state g new) → HasCleanDisk (state g old)
  -- By their types, the command meets the formats of an audit, and the key is well-formed.
  pub well_formed : MeetsAuditFormats command × IfSome key IsWellFormedKey
