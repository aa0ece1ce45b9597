-- The calls of a stream, as calls of a desk.
use Rattle.std.proofs.Common.{◌≡◌, ℕ, ◌≤◌, List, [], ◌∷◌, length, map, Option, Some, None, IfSome, refl, ap, arith, inl, inr, subst, subst₂, sym}
use Rattle.std.specs.Prelude.{Result}
use Rattle.std.proofs.lemmas.List.{length-map}
use Rattle.sqlite_trees.specs.declared.store.Store.{Ghosts}
use Rattle.sqlite.specs.Held.{Held}
use Rattle.brk_desk.proofs.Made.{not_run, run_of}
use Rattle.brk_desk.specs.Answers.{model_outcome}
use Rattle.brk_desk.specs.Commands.{model_call}
use Rattle.brk_desk.specs.CallPosts.{OutcomePost}
use Rattle.brk_desk.specs.Runs.{IsRunWithOutcomes, IsSomeDeskRun}
use Rattle.brk_desk.specs.declared.call.Call.{Call}
use Rattle.brk_desk.specs.declared.call.Outcome.{Outcome}
use Rattle.brk_model.specs.Run as run
use Rattle.brk_money.specs.Spelling.{Text}
use Rattle.brk_io.specs.Calls.{IsCallSequence}
use Rattle.brk_io.specs.Span.{ClockAndWriterChange, environment_change_with_bases}
use Rattle.brk_http_engine.proofs.Counted.{tells_few}
use Rattle.brk_http_engine.proofs.Promised.{tells}
use Rattle.brk_http_engine.specs.Limits.{call_limit_of_stream}
use Rattle.brk_http_engine.proofs.Called.{without_clock}
use Rattle.brk_http_engine.specs.Promises.{CallWithClock, ChangesOnlyByCalls, ReadsClockForCalls, StreamMatchesScript}
use Rattle.brk_http_engine.specs.Turns.{IsStreamResult}
use Rattle.brk_io.specs.declared.stream_fault.ServeFault.{ServeFault}
use Rattle.brk_http.specs.CallOutcomes.{DeskCallHasOutcome}
use Rattle.brk_http.specs.Served.{DeskServesPeer}
use Rattle.brk_model_http.specs.Asked.{model_parsers}

still_few : (made : List (ℕ × Call)) (calls : List (ℕ × run.Call)) (n : ℕ) → map model_call made ≡ calls → length calls ≤ n → length made ≤ n
still_few made calls n is few = omega (arith, ap length is, length-map made model_call)

module _ {S : Type 0} (g : Ghosts S) where
  -- A call of the desk has this outcome (`DeskCallHasOutcome`).
  abbrev CallOutcome : Held S → ℕ → run.Call → run.Outcome → Held S → Type 0
  CallOutcome old now call outcome new = DeskCallHasOutcome g old now call outcome new

  as_made : (old new : Held S) (calls : List (ℕ × run.Call)) (outcomes : List run.Outcome) → IsCallSequence CallOutcome old calls outcomes new
      → (made : List (ℕ × Call)) × (came : List Outcome) × (map model_call made ≡ calls) × (map model_outcome came ≡ outcomes)
      × IsCallSequence (λ old now call outcome new. OutcomePost g old new now call outcome) old made came new
  as_made old new [] [] same = ([], [], refl, refl, same)
  as_made old new (c ∷ cs) (o ∷ os) (mid, acted, more) =
      let r = as_made mid new cs os more in (
        (c.0, acted.made) ∷ r.0,
        acted.came ∷ r.1,
        subst₂ (λ (x : ℕ × run.Call) (xs : List (ℕ × run.Call)). model_call (c.0, acted.made) ∷ map model_call r.0 ≡ x ∷ xs) acted.call_is r.2 refl,
        subst₂ (λ (x : run.Outcome) (xs : List run.Outcome). model_outcome acted.came ∷ map model_outcome r.1 ≡ x ∷ xs) acted.outcome_is r.3 refl,
        (mid, acted.is_made, r.4),
      )
  as_made old new [] (o ∷ os) made = absurd made
  as_made old new (c ∷ cs) [] made = absurd made

  -- whatever the reader gave, calls were made; where it tells its bytes, these are what they ask
  -- for
  pub tells_run : {C : Type 0} (gives : C → ℕ → C → Type 0) (input : Option Text) (first last : Held S) (outside : ClockAndWriterChange C)
      (result : Result ℕ ServeFault) → ChangesOnlyByCalls (CallWithClock CallOutcome gives) (call_limit_of_stream result) (first, outside.clock) (last, outside.later)
      → IfSome input (λ text. IsStreamResult model_parsers CallOutcome gives text (environment_change_with_bases first last outside) result)
      → (calls : List (ℕ × Call)) × (outcomes : List Outcome) × IsRunWithOutcomes g first last calls outcomes × (length calls ≤ call_limit_of_stream result)
      × IfSome input (λ text. StreamMatchesScript model_parsers gives text (map model_call calls, map model_outcome outcomes) outside result)
  tells_run gives None first last outside result (calls, outcomes, made, few) h =
      let r = as_made first last calls outcomes (without_clock CallOutcome gives (first, outside.clock) (last, outside.later) calls outcomes made).0 in (r.0, r.1, run_of g first last r.0 r.1 r.4, still_few r.0 calls _ r.2 few, tt)
  tells_run gives (Some text) first last outside result called h =
      let t = tells model_parsers CallOutcome gives last text first outside result h in
      let r = as_made first last t.0.0 t.0.1 t.1 in
      let few = tells_few model_parsers gives text t.0 outside result t.2 in
      (r.0, r.1, run_of g first last r.0 r.1 r.4, still_few r.0 t.0.0 _ r.2 few, subst₂ (λ cs os. StreamMatchesScript model_parsers gives text (cs, os) outside result) (sym r.2) (sym r.3) t.2)

  -- whatever the reader gave, the calls read the clock
  pub reads_clock : {C : Type 0} (gives : C → ℕ → C → Type 0) (most : ℕ) (first last : Held S) (clock later : C)
      → ChangesOnlyByCalls (CallWithClock CallOutcome gives) most (first, clock) (last, later)
      → (calls : List (ℕ × Call)) × (outcomes : List Outcome) × IsRunWithOutcomes g first last calls outcomes × (length calls ≤ most)
      × ReadsClockForCalls gives clock (map model_call calls) later
  reads_clock gives most first last clock later (calls, outcomes, made, few) =
      let both = without_clock CallOutcome gives (first, clock) (last, later) calls outcomes made in
      let r = as_made first last calls outcomes both.0 in (
        r.0,
        r.1,
        run_of g first last r.0 r.1 r.4,
        still_few r.0 calls most r.2 few,
        subst (λ (cs : List (ℕ × run.Call)). ReadsClockForCalls gives clock cs later) (sym r.2) both.1,
      )

  -- what the calls of a stream match, for a stream whose bytes are specified
  pub matches_if_known : {C : Type 0} (gives : C → ℕ → C → Type 0) (input : Option Text) (first last : Held S) (outside : ClockAndWriterChange C)
      (result : Result ℕ ServeFault) (most : ℕ)
      → ((calls : List (ℕ × Call)) × (outcomes : List Outcome) × IsRunWithOutcomes g first last calls outcomes × (length calls ≤ most)
      × IfSome input (λ text. StreamMatchesScript model_parsers gives text (map model_call calls, map model_outcome outcomes) outside result))
      → IfSome input (λ text. (calls : List (ℕ × Call)) × (outcomes : List Outcome) × IsRunWithOutcomes g first last calls outcomes
      × StreamMatchesScript model_parsers gives text (map model_call calls, map model_outcome outcomes) outside result)
  matches_if_known gives None first last outside result most h = tt
  matches_if_known gives (Some text) first last outside result most (calls, outcomes, run, few, matched) = (calls, outcomes, run, matched)

  -- whatever the peer sends, the desk makes a run for it
  pub runs_for_peer : {C P : Type 0} (gives : C → ℕ → C → Type 0) (sends received : P → Option Text) (clock : C) (old : Held S) (peer : P)
      (ended : Result ℕ ServeFault) (left : P) (later : C) (new : Held S) → DeskServesPeer g gives sends received clock old peer ended left later new
      → IsSomeDeskRun g old new
  runs_for_peer gives sends received clock old peer ended left later new (inl served) =
      record { calls = served.by_calls.calls; outcomes = served.by_calls.outcomes; run = served.by_calls.run }
  runs_for_peer gives sends received clock old peer ended left later new (inr refused) = not_run g old new refused.same_desk
