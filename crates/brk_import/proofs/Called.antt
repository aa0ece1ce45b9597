-- The calls of the rows of a batch, as calls of a desk.
use Rattle.std.proofs.Common.{◌≡◌, ℕ, List, [], ◌∷◌, map, Option, refl, subst₂, sym}
use Rattle.std.specs.Prelude.{Result}
use Rattle.sqlite_trees.specs.declared.store.Store.{Ghosts}
use Rattle.sqlite.specs.Held.{Held}
use Rattle.brk_import_engine.specs.Batch.{ChangesOnlyByRowCalls}
use Rattle.brk_import_engine.specs.Script.{RowCalls}
use Rattle.brk_import_engine.specs.declared.counts.Counts.{Counts}
use Rattle.brk_desk.proofs.Made.{run_of}
use Rattle.brk_desk.specs.Answers.{model_outcome}
use Rattle.brk_desk.specs.Commands.{model_call}
use Rattle.brk_desk.specs.CallPosts.{OutcomePost}
use Rattle.brk_desk.specs.Runs.{IsRunWithOutcomes}
use Rattle.brk_desk.specs.declared.call.Call.{Call}
use Rattle.brk_desk.specs.declared.call.Outcome.{Outcome}
use Rattle.brk_import.specs.Rows.{RowCallHasOutcome, BatchMatchesRowCalls, desk_call_of_row}
use Rattle.brk_io.specs.Calls.{IsCallSequence}
use Rattle.brk_io.specs.Span.{ClockAndWriterChange}
use Rattle.brk_io.specs.declared.batch_fault.BatchFault.{BatchFault}
use Rattle.brk_model.specs.Commands.{Command}
use Rattle.brk_model.specs.Parse.{parse_by_first_field, row_parsers}
use Rattle.brk_model.specs.Records.{Key}
use Rattle.brk_model.specs.Run as run
use Rattle.brk_money.specs.Spelling.{Text}

module _ {S : Type 0} (g : Ghosts S) where
  -- A call of the desk for a row has this outcome (`RowCallHasOutcome`).
  abbrev RowOutcome : Held S → ℕ → Command × Key → run.Outcome → Held S → Type 0
  RowOutcome old now row outcome new = RowCallHasOutcome g old now row outcome new

  as_made : (old new : Held S) (rows : RowCalls Command) (outcomes : List run.Outcome) → IsCallSequence RowOutcome old rows outcomes new
      → (made : List (ℕ × Call)) × (came : List Outcome) × (map model_call made ≡ map desk_call_of_row rows) × (map model_outcome came ≡ outcomes)
      × IsCallSequence (λ old now call outcome new. OutcomePost g old new now call outcome) old made came new
  as_made old new [] [] same = ([], [], refl, refl, same)
  as_made old new (c ∷ cs) (o ∷ os) (mid, acted, more) =
      let r = as_made mid new cs os more in (
        (c.0, acted.made) ∷ r.0,
        acted.came ∷ r.1,
        subst₂ (λ (x : ℕ × run.Call) (xs : List (ℕ × run.Call)). model_call (c.0, acted.made) ∷ map model_call r.0 ≡ x ∷ xs) acted.call_is r.2 refl,
        subst₂ (λ (x : run.Outcome) (xs : List run.Outcome). model_outcome acted.came ∷ map model_outcome r.1 ≡ x ∷ xs) acted.outcome_is r.3 refl,
        (mid, acted.is_made, r.4),
      )
  as_made old new [] (o ∷ os) made = absurd made
  as_made old new (c ∷ cs) [] made = absurd made

  -- the calls of the rows are a run of the desk
  pub tells_run : {C : Type 0} (gives : C → ℕ → C → Type 0) (text : Option Text) (first last : Held S) (outside : ClockAndWriterChange C) (result : Result Counts BatchFault)
      → ChangesOnlyByRowCalls RowOutcome (parse_by_first_field row_parsers) gives text first last outside result
      → (calls : List (ℕ × Call)) × (outcomes : List Outcome) × IsRunWithOutcomes g first last calls outcomes
      × BatchMatchesRowCalls gives text (map model_call calls) (map model_outcome outcomes) outside result
  tells_run gives text first last outside result (script, made, told) =
      let r = as_made first last script.0 script.1 made in (
        r.0,
        r.1,
        run_of g first last r.0 r.1 r.4,
        subst₂ (λ cs os. BatchMatchesRowCalls gives text cs os outside result) (sym r.2) (sym r.3) (script.0, refl, told),
      )
