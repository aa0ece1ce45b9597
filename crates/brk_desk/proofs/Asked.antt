-- Each query has the view of the model, or is refused for the same reason, for the rows that were
-- read.
use Rattle.std.proofs.Common.{Result, Ok, Err, IfOk, inl, inr, refl}
use Rattle.sqlite_trees.specs.declared.store.Store.{Ghosts}
use Rattle.sqlite.specs.Held.{Held, state}
use Rattle.brk_money.specs.Kinds.{fault_of_call}
use Rattle.brk_money.specs.declared.fault.CallFault.{CallFault}
use Rattle.brk_money.specs.declared.fault.CallFault.TheVariants as call
use Rattle.brk_money.specs.declared.refusal.Refusal.{Refusal}
use Rattle.brk_model.specs.Base.{Base}
use Rattle.brk_model.specs.Queries.{Query}
use Rattle.brk_model.specs.Run.{IsCallFault}
use Rattle.brk_model.specs.Sheets.{sheets}
use Rattle.brk_model.specs.Tables.{Tables}
use Rattle.brk_view_rows.specs.Carried.{HasRowsOfQuery}
use Rattle.brk_view_rows.specs.declared.view.View.{View}
use Rattle.brk_store_transactions.specs.Audited.{Represents}
use Rattle.brk_store_transactions.specs.Holds.{HoldsRows, ReadPost}
use Rattle.brk_store_transactions.proofs.States.{clean_before}
use Rattle.brk_desk_queries.specs.QueryResults.{AnswersQueryAsModel}
use Rattle.brk_desk.specs.CallPosts.{AskPost}
use Rattle.brk_desk.proofs.Seen.{still_kept}

-- a view that was read carries its rows over each base whose books are kept
carried_rows : {S : Type 0} (g : Ghosts S) (old : Held S) (query : Query) (seen : Result View Refusal) → ((t : Tables) → HoldsRows g old t → AnswersQueryAsModel query seen t)
    → IfOk seen (λ view. (base : Base) → Represents g old base → HasRowsOfQuery query view (sheets base))
carried_rows g old query (Ok view) told = λ base keeps. (told (sheets base) keeps.rows).1 base keeps.books keeps.sound refl
carried_rows g old query (Err refusal) told = tt

pub is_call_fault : (fault : CallFault) → IsCallFault (fault_of_call fault)
is_call_fault call.Memory = inl refl
is_call_fault call.Store = inr refl

-- what was read answers a query over each base whose books are kept
pub is_asked : {S E : Type 0} (g : Ghosts S) (old new : Held S) (query : Query) (seen : Result View Refusal) → ReadPost {E = E} g old new (Ok seen) (AnswersQueryAsModel query)
    → AskPost g old new query (Ok seen)
is_asked g old new query seen read = record {
  answered = λ clean base keeps. (read.answered clean (sheets base) keeps.rows).0 base keeps.books keeps.sound refl;
  has_rows = λ clean. carried_rows g old query seen (read.answered clean);
  same_bases = λ base keeps. still_kept g old new base (read.same_rows (sheets base)) keeps;
  fault = tt;
  survives = read.survives;
  unchanged_if_open = read.unchanged_if_open;
  clean = clean_before (state g old) (state g new) (λ _. ⊥) read.survives;
}

-- a read that failed answers none
pub is_failed : {S V : Type 0} (g : Ghosts S) (old new : Held S) (query : Query) (fault : CallFault) (Matches : V → Tables → Type 0) → ReadPost g old new (Err fault) Matches
    → AskPost g old new query (Err (fault_of_call fault))
is_failed g old new query fault Matches read = record {
  answered = λ clean. tt;
  has_rows = λ clean. tt;
  same_bases = λ base keeps. still_kept g old new base (read.same_rows (sheets base)) keeps;
  fault = is_call_fault fault;
  survives = read.survives;
  unchanged_if_open = read.unchanged_if_open;
  clean = clean_before (state g old) (state g new) (λ _. ⊥) read.survives;
}
