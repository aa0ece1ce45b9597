-- A call of a row under its key, answered or failed.
use Rattle.std.proofs.Common.{◌≡◌, ◌⊎◌, ℕ, Bool, true, false, Result, Ok, Err, IfOk, OnErr, Some, inl, inr, ap, refl, subst, sym}
use Rattle.sqlite_trees.specs.Tree.{Trees}
use Rattle.sqlite_trees.specs.declared.store.Store.{Ghosts}
use Rattle.sqlite.specs.Held.{Held, state}
use Rattle.sqlite.specs.State.{HasCleanDisk}
use Rattle.brk_money.specs.declared.fault.Fault.{Fault}
use Rattle.brk_model.specs.Base.{Base}
use Rattle.brk_model.specs.Batch.{step_of_row}
use Rattle.brk_model.specs.Commands as model
use Rattle.brk_model.specs.Commands.{Command}
use Rattle.brk_model.specs.Records.{Key}
use Rattle.brk_model.specs.Run.{Did, Failed}
use Rattle.brk_model.specs.Sheets.{sheets}
use Rattle.brk_store_transactions.specs.Holds.{IsDiskContentOfRows}
use Rattle.brk_desk.specs.CommandAnswers.{CommandAnswer, model_answer}
use Rattle.brk_desk.specs.Booked.{CommandPost}
use Rattle.brk_store_transactions.specs.Audited.{Represents, IsConsistent}
use Rattle.brk_desk.specs.Keys.{optional_model_key}
use Rattle.brk_desk_commands.specs.Commands.{abstract_command}
use Rattle.brk_desk_commands.specs.declared.command.Command as commands
use Rattle.brk_ref.specs.Records.{abstract_key}
use Rattle.brk_ref.specs.declared.key.Key as keys
use Rattle.brk_desk.specs.declared.call.Call.TheVariants as made
use Rattle.brk_desk.specs.declared.call.Outcome.TheVariants as came
use Rattle.brk_ref.specs.declared.answer.Answer.TheVariants as given
use Rattle.brk_ref.specs.Answers.{abstract_command_outcome}
use Rattle.brk_trade_plans.specs.Replies.{abstract_reply}
use Rattle.brk_desk.proofs.Reopened.{booked_can_be}
use Rattle.brk_desk.proofs.Stopping.{quiet_leaves}
use Rattle.brk_import_engine.specs.Answers.{CallRefinesStep, IsFailedCallCrashSafe, PreservesRepresentedBases, RepresentsDurably}
use Rattle.brk_import.specs.CrashTables.{CrashExposesOnlyOneOf}
use Rattle.brk_import.specs.Rows.{RowCallHasOutcome}

module _ {S : Type 0} (g : Ghosts S) (old new : Held S) (now : ℕ) (command : Command) where
  -- after a call that committed nothing, a crash exposes what it exposed before
  quiet_left : (key : Key) (answer : CommandAnswer) → ((base after : Base) → step_of_row base now command key ≡ (model_answer answer, after) → after ≡ base)
      → CommandPost g old new now command (Some key) (Ok answer)
      → CallRefinesStep (λ desk. HasCleanDisk (state g desk)) (RepresentsDurably (λ desk. Represents g desk) (CrashExposesOnlyOneOf g) true) step_of_row old new now command key (model_answer answer)
  quiet_left key answer quiet called clean base sure =
      let told = called.answered clean base sure.0 in
      let same : told.0 ≡ base = quiet base told.0 told.2 in
      let step : (step_of_row base now command key).1 ≡ told.0 = ap (λ (x : model.Answer × Base). x.1) told.2 in (
        told.0,
        (
          told.1,
          λ trees may. elim (called.survives.crash clean trees may) [
            | inl earlier ↦ inl (subst (λ b. IsDiskContentOfRows (sheets b) trees) (sym same) (either trees base (sure.1 trees earlier)))
            | inr come ↦ inl (subst (λ b. IsDiskContentOfRows (sheets b) trees) step (come.1 base sure.0))
          ],
        ),
        told.2,
      )
    where
      either : (trees : Trees) (base : Base) → IsDiskContentOfRows (sheets base) trees ⊎ (IsDiskContentOfRows (sheets base) trees × IsConsistent base) → IsDiskContentOfRows (sheets base) trees
      either trees base (inl are) = are
      either trees base (inr are) = are.0

  answered_left : (key : Key) (answer : CommandAnswer) → CommandPost g old new now command (Some key) (Ok answer)
      → CallRefinesStep (λ desk. HasCleanDisk (state g desk)) (RepresentsDurably (λ desk. Represents g desk) (CrashExposesOnlyOneOf g) true) step_of_row old new now command key (model_answer answer)
  answered_left key (given.Done reply) called = λ clean base sure.
      let told = called.answered clean base sure.0 in
      let step : (step_of_row base now command key).1 ≡ told.0 = ap (λ (x : model.Answer × Base). x.1) told.2 in (
        told.0,
        (told.1, λ trees may. inl (subst (λ b. IsDiskContentOfRows (sheets b) trees) step (called.durable clean tt base sure.0 trees may))),
        told.2,
      )
  answered_left key (given.Again line) called = quiet_left key (given.Again line) (λ base after e. quiet_leaves base now command (Some key) (model_answer (given.Again line)) after e tt) called
  answered_left key (given.Refused refusal) called =
      quiet_left key (given.Refused refusal) (λ base after e. quiet_leaves base now command (Some key) (model_answer (given.Refused refusal)) after e tt) called

  acts : (key : Key) (answer : CommandAnswer) → CommandPost g old new now command (Some key) (Ok answer) → (sure : Bool)
      → CallRefinesStep (λ desk. HasCleanDisk (state g desk)) (RepresentsDurably (λ desk. Represents g desk) (CrashExposesOnlyOneOf g) sure) step_of_row old new now command key (model_answer answer)
  acts key answer called false = called.answered
  acts key answer called true = answered_left key answer called

  -- the call failed
  may_act : (key : Key) (fault : Fault) → CommandPost g old new now command (Some key) (Err fault)
      → IsFailedCallCrashSafe (λ desk. HasCleanDisk (state g desk)) (λ desk. Represents g desk) (CrashExposesOnlyOneOf g) step_of_row old new now command key
  may_act key fault called clean base keeps alone trees may = elim (called.survives.crash clean trees may) [
    | inl earlier ↦ elim (alone trees earlier) [ inl are ↦ inl are | inr are ↦ inl are.0 ]
    | inr come ↦ inr (come.1 base keeps, booked_can_be g old new base now command (Some key) (Err fault) trees called keeps come)
  ]

  pub acts_if_ok : (key : Key) (result : Result CommandAnswer Fault) → CommandPost g old new now command (Some key) result
      → IfOk result (λ answer. (sure : Bool)
      → CallRefinesStep (λ desk. HasCleanDisk (state g desk)) (RepresentsDurably (λ desk. Represents g desk) (CrashExposesOnlyOneOf g) sure) step_of_row old new now command key (model_answer answer))
  acts_if_ok key (Ok answer) called = acts key answer called
  acts_if_ok key (Err fault) called = tt

  pub may_act_if_err : (key : Key) (result : Result CommandAnswer Fault) → CommandPost g old new now command (Some key) result
      → OnErr result (IsFailedCallCrashSafe (λ desk. HasCleanDisk (state g desk)) (λ desk. Represents g desk) (CrashExposesOnlyOneOf g) step_of_row old new now command key)
  may_act_if_err key (Ok answer) called = tt
  may_act_if_err key (Err fault) called = may_act key fault called

  pub represented_if_err : (key : Key) (result : Result CommandAnswer Fault) → CommandPost g old new now command (Some key) result
      → OnErr result (PreservesRepresentedBases (λ desk. HasCleanDisk (state g desk)) (λ desk. Represents g desk) old new)
  represented_if_err key (Ok answer) called = tt
  represented_if_err key (Err fault) called = λ clean. called.same_bases_at_error

-- one call was made, and nothing else
module _ {S : Type 0} (g : Ghosts S) (old new : Held S) (now : ℕ) (command : commands.Command) (key : keys.Key) where
  did : (answer : CommandAnswer) → CommandPost g old new now (abstract_command command) (optional_model_key (Some key)) (Ok answer)
      → RowCallHasOutcome g old now (abstract_command command, abstract_key key) (Did (model_answer answer)) new
  did answer h = record { made = made.Do command (Some key); came = came.Did answer; call_is = refl; outcome_is = refl; is_made = (Ok answer, refl, h) }

  failed : (fault : Fault) → CommandPost g old new now (abstract_command command) (optional_model_key (Some key)) (Err fault)
      → RowCallHasOutcome g old now (abstract_command command, abstract_key key) (Failed fault) new
  failed fault h = record { made = made.Do command (Some key); came = came.Failed fault; call_is = refl; outcome_is = refl; is_made = (Err fault, refl, h) }

  pub has_outcome : (result : Result CommandAnswer Fault) → CommandPost g old new now (abstract_command command) (optional_model_key (Some key)) result
      → RowCallHasOutcome g old now (abstract_command command, abstract_key key) (abstract_command_outcome abstract_reply result) new
  has_outcome (Ok answer) h = did answer h
  has_outcome (Err fault) h = failed fault h
