-- A run with its postcondition gives the guarantee of a run.
use Rattle.std.proofs.Common.{ℕ, List, map}
use Rattle.sqlite_trees.specs.declared.store.Store.{Ghosts}
use Rattle.sqlite.specs.Held.{Held, state}
use Rattle.sqlite.specs.State.{HasCleanDisk}
use Rattle.brk_model.specs.Adopted.{base_of_tables}
use Rattle.brk_model.specs.Base.{Base, empty_base}
use Rattle.brk_trade_books.proofs.RunSums.{run_adds_up}
use Rattle.brk_audit_theorems.proofs.Adopted.{sound_passes}
use Rattle.brk_desk.specs.Answers.{model_outcome}
use Rattle.brk_desk.specs.Commands.{model_call}
use Rattle.brk_store_transactions.specs.Audited.{Represents}
use Rattle.brk_desk.specs.CallPosts.{RunPost, RunGuarantee, ReachesBasePassingAudit}
use Rattle.brk_desk.specs.declared.call.Call.{Call}
use Rattle.brk_desk.specs.declared.call.Outcome.{Outcome}
use Rattle.brk_desk.proofs.AtFirst.{made_keeps, upgraded_keeps}

leads : {S : Type 0} (g : Ghosts S) (old new : Held S) (calls : List (ℕ × Call)) (outcomes : List Outcome) → RunPost g old new calls outcomes
    → HasCleanDisk (state g new) → (base : Base) → Represents g old base → ReachesBasePassingAudit g new base calls outcomes
leads g old new calls outcomes run clean base keeps =
    let ran = run.refines_model clean base keeps in
    (ran.0, ran.1, sound_passes ran.0 ran.1.books ran.1.sound, run_adds_up base (map model_call calls) (map model_outcome outcomes) ran.0 keeps.books ran.2)

pub promise_kept : {S : Type 0} (g : Ghosts S) (old new : Held S) (calls : List (ℕ × Call)) (outcomes : List Outcome)
    → RunPost g old new calls outcomes → RunGuarantee g old new calls outcomes
promise_kept g old new calls outcomes run = record {
  from_represented_base = λ clean base keeps. leads g old new calls outcomes run clean base keeps;
  from_empty_tables = λ clean holds. leads g old new calls outcomes run clean empty_base (made_keeps g old holds);
  from_audited_rows = λ clean schema rows holds texts passes. leads g old new calls outcomes run clean (base_of_tables rows) (upgraded_keeps g old schema rows holds texts passes);
}
