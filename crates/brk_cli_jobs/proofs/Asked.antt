-- A query of a desk, and the fault that it failed with.
use Rattle.std.proofs.Common.{◌≡◌, ◌∙◌, Bool, [], ◌∷◌, Result, Ok, Err, refl}
use Rattle.sqlite_trees.specs.declared.store.Store.{Ghosts}
use Rattle.sqlite.specs.Held.{Held}
use Rattle.brk_desk.proofs.Made.{run_of}
use Rattle.brk_desk.specs.Answers.{outcome_of_query}
use Rattle.brk_desk.specs.CallPosts.{AskPost}
use Rattle.brk_desk.specs.declared.call.Call.TheVariants as call
use Rattle.brk_money.specs.declared.fault.Fault.{Fault}
use Rattle.brk_money.specs.declared.refusal.Refusal.{Refusal}
use Rattle.brk_view_rows.specs.Queries.{abstract_query}
use Rattle.brk_view_rows.specs.declared.query.Query.{Query}
use Rattle.brk_view_rows.specs.declared.view.View.{View}
use Rattle.brk_cli_jobs.specs.Serving.{AsksDesk, has_store_fault, is_store_fault}

same_fault : (result : Result (Result View Refusal) Fault) → has_store_fault result ≡ is_store_fault (outcome_of_query result)
same_fault (Err fault) = refl
same_fault (Ok (Ok view)) = refl
same_fault (Ok (Err refusal)) = refl

module _ {S : Type 0} (g : Ghosts S) (old new : Held S) (query : Query) where
  pub asks : (result : Result (Result View Refusal) Fault) (failed : Bool) → failed ≡ has_store_fault result → AskPost g old new (abstract_query query) result
      → AsksDesk g old new failed
  asks result failed flag asked = record {
    time = 0;
    query = call.Ask query;
    is_query = tt;
    outcome = outcome_of_query result;
    run = run_of g old new ((0, call.Ask query) ∷ []) (outcome_of_query result ∷ []) (new, (result, refl, asked), refl);
    fault = flag ∙ same_fault result;
  }
