-- The effects of calls on the bases that a desk represents.
use Rattle.std.proofs.Common.{◌≡◌, ℕ, Option, [], ◌∷◌, refl, subst, sym}
use Rattle.std.specs.Prelude.{Result, Ok, Err}
use Rattle.sqlite_trees.specs.declared.store.Store.{Ghosts}
use Rattle.sqlite.specs.Held.{Held, state}
use Rattle.sqlite.specs.State.{HasCleanDisk}
use Rattle.brk_money.specs.declared.fault.Fault.{Fault}
use Rattle.brk_money.specs.declared.refusal.Refusal.{Refusal}
use Rattle.brk_model.specs.Base.{Base}
use Rattle.brk_model.specs.Run.{IsOutcomeOfCall, Ask, Call, Did, Do, Failed, Outcome}
use Rattle.brk_ref.specs.declared.key.Key.{Key}
use Rattle.brk_desk.specs.CommandAnswers.{CommandAnswer, model_answer}
use Rattle.brk_desk.specs.Booked.{CommandPost}
use Rattle.brk_store_transactions.specs.Audited.{Represents}
use Rattle.brk_desk.specs.Keys.{optional_model_key}
use Rattle.brk_trade_plans.specs.Replies.{abstract_reply}
use Rattle.brk_ref.specs.Answers.{abstract_command_outcome}
use Rattle.brk_desk_commands.specs.Commands.{abstract_command}
use Rattle.brk_desk_commands.specs.declared.command.Command.{Command}
use Rattle.brk_desk.proofs.Running.{runs_more, runs_none}
use Rattle.brk_desk.specs.Answers.{model_outcome, outcome_of_query}
use Rattle.brk_desk.specs.Commands.{model_call}
use Rattle.brk_desk.specs.CallPosts.{AskPost, RunPost}
use Rattle.brk_desk.specs.declared.call.Call.TheVariants as made
use Rattle.brk_desk.specs.declared.call.Outcome.TheVariants as came
use Rattle.brk_view_rows.specs.Queries.{abstract_query}
use Rattle.brk_view_rows.specs.Views.{records_of_view}
use Rattle.brk_view_rows.specs.declared.query.Query.{Query}
use Rattle.brk_view_rows.specs.declared.view.View.{View}
use Rattle.brk_http_engine.specs.Codes.{query_outcome_in_model}
use Rattle.brk_http.specs.CallOutcomes.{DeskCallHasOutcome}

seen_is : (result : Result (Result View Refusal) Fault) → model_outcome (outcome_of_query result) ≡ query_outcome_in_model records_of_view result
seen_is (Ok (Ok view)) = refl
seen_is (Ok (Err refusal)) = refl
seen_is (Err fault) = refl

module _ {S : Type 0} (g : Ghosts S) (old new : Held S) (now : ℕ) where
  did : (command : Command) (key : Option Key) (answer : CommandAnswer) → CommandPost g old new now (abstract_command command) (optional_model_key key) (Ok answer)
      → DeskCallHasOutcome g old now (Do (abstract_command command) (optional_model_key key)) (Did (model_answer answer)) new
  did command key answer h = record { made = made.Do command key; came = came.Did answer; call_is = refl; outcome_is = refl; is_made = (Ok answer, refl, h) }

  failed : (command : Command) (key : Option Key) (fault : Fault) → CommandPost g old new now (abstract_command command) (optional_model_key key) (Err fault)
      → DeskCallHasOutcome g old now (Do (abstract_command command) (optional_model_key key)) (Failed fault) new
  failed command key fault h = record { made = made.Do command key; came = came.Failed fault; call_is = refl; outcome_is = refl; is_made = (Err fault, refl, h) }

  pub has_outcome : (command : Command) (key : Option Key) (result : Result CommandAnswer Fault) → CommandPost g old new now (abstract_command command) (optional_model_key key) result
      → DeskCallHasOutcome g old now (Do (abstract_command command) (optional_model_key key)) (abstract_command_outcome abstract_reply result) new
  has_outcome command key (Ok answer) h = did command key answer h
  has_outcome command key (Err fault) h = failed command key fault h

  pub asked : (query : Query) (result : Result (Result View Refusal) Fault) → AskPost g old new (abstract_query query) result
      → DeskCallHasOutcome g old now (Ask (abstract_query query)) (query_outcome_in_model records_of_view result) new
  asked query result h = record { made = made.Ask query; came = outcome_of_query result; call_is = refl; outcome_is = seen_is result; is_made = (result, refl, h) }

  module _ (call : Call) (outcome : Outcome) (acts : DeskCallHasOutcome g old now call outcome new) where
    -- a run of one call
    one_run : RunPost g old new ((now, acts.made) ∷ []) (acts.came ∷ [])
    one_run = runs_more g old old new [] [] (runs_none g old) now acts.made acts.came acts.is_made

    -- a disk that returned what was written had done so before
    pub earlier : HasCleanDisk (state g new) → HasCleanDisk (state g old)
    earlier clean = one_run.clean clean

    -- the call has its outcome over each base whose books were kept, and the books of the base
    -- after it are kept
    pub steps : HasCleanDisk (state g new) → (base : Base) → Represents g old base → (after : Base) × Represents g new after × IsOutcomeOfCall base now call outcome after
    steps clean base keeps =
        let r = one_run.refines_model clean base keeps in
        let told : IsOutcomeOfCall base (model_call (now, acts.made)).0 (model_call (now, acts.made)).1 (model_outcome acts.came) r.0 =
        subst (λ b. IsOutcomeOfCall base (model_call (now, acts.made)).0 (model_call (now, acts.made)).1 (model_outcome acts.came) b) (sym r.2.2) r.2.1 in
        let called : IsOutcomeOfCall base now call (model_outcome acts.came) r.0 = subst (λ (c : ℕ × Call). IsOutcomeOfCall base c.0 c.1 (model_outcome acts.came) r.0) acts.call_is told in
        (r.0, r.1, subst (λ o. IsOutcomeOfCall base now call o r.0) acts.outcome_is called)
