-- Calls of a desk in sequence are a run.
use Rattle.std.proofs.Common.{◌≡◌, ℕ, List, [], ◌∷◌, ◌++◌, refl, subst, subst₂, sym, append_assoc}
use Rattle.std.proofs.lemmas.List.{append-nil}
use Rattle.sqlite_trees.specs.declared.store.Store.{Ghosts}
use Rattle.sqlite.specs.Held.{Held}
use Rattle.brk_io.proofs.Calls.{made_then}
use Rattle.brk_io.specs.Calls.{IsCallSequence}
use Rattle.brk_desk.proofs.Promise.{promise_kept}
use Rattle.brk_desk.proofs.Running.{runs_more, runs_none}
use Rattle.brk_desk.specs.CallPosts.{OutcomePost, RunPost}
use Rattle.brk_desk.specs.Runs.{IsRunWithOutcomes, IsSomeDeskRun}
use Rattle.brk_desk.specs.declared.call.Call.{Call}
use Rattle.brk_desk.specs.declared.call.Outcome.{Outcome}

module _ {S : Type 0} (g : Ghosts S) where
  -- A call of the desk at the clock reading `now` satisfies its postcondition, with this outcome.
  abbrev OutcomeOfCall : Held S → ℕ → Call → Outcome → Held S → Type 0
  OutcomeOfCall old now call outcome new = OutcomePost g old new now call outcome

  -- some calls more
  runs_on : (a b c : Held S) (calls others : List (ℕ × Call)) (outcomes more : List Outcome) → RunPost g a b calls outcomes
      → IsCallSequence OutcomeOfCall b others more c → RunPost g a c (calls ++ others) (outcomes ++ more)
  runs_on a b c calls [] outcomes [] ran same =
      subst₂ (λ cs os. RunPost g a c cs os) (sym (append-nil calls)) (sym (append-nil outcomes)) (subst (λ d. RunPost g a d calls outcomes) (sym same) ran)
  runs_on a b c calls (x ∷ xs) outcomes (o ∷ os) ran (mid, is, made) =
      subst₂ (λ cs ps. RunPost g a c cs ps) (append_assoc calls (x ∷ []) xs) (append_assoc outcomes (o ∷ []) os)
      (runs_on a mid c (calls ++ x ∷ []) xs (outcomes ++ o ∷ []) os (runs_more g a b mid calls outcomes ran x.0 x.1 o is) made)
  runs_on a b c calls [] outcomes (o ∷ os) ran made = absurd made
  runs_on a b c calls (x ∷ xs) outcomes [] ran made = absurd made

  pub run_of : (old new : Held S) (calls : List (ℕ × Call)) (outcomes : List Outcome) → IsCallSequence OutcomeOfCall old calls outcomes new → IsRunWithOutcomes g old new calls outcomes
  run_of old new calls outcomes made =
      let ran : RunPost g old new calls outcomes = runs_on old old new [] calls [] outcomes (runs_none g old) made in
      record { executed = made; post = ran; guarantee = promise_kept g old new calls outcomes ran }

  pub not_run : (old new : Held S) → new ≡ old → IsSomeDeskRun g old new
  not_run old new same = record { calls = []; outcomes = []; run = run_of old new [] [] same }

  pub one_run : (old new : Held S) (now : ℕ) (call : Call) (outcome : Outcome) → OutcomePost g old new now call outcome → IsSomeDeskRun g old new
  one_run old new now call outcome is = record { calls = (now, call) ∷ []; outcomes = outcome ∷ []; run = run_of old new ((now, call) ∷ []) (outcome ∷ []) (new, is, refl) }

  -- two runs, one after the other
  pub runs_joined : (first mid last : Held S) (calls others : List (ℕ × Call)) (outcomes more : List Outcome) → IsRunWithOutcomes g first mid calls outcomes → IsRunWithOutcomes g mid last others more
      → IsRunWithOutcomes g first last (calls ++ others) (outcomes ++ more)
  runs_joined first mid last calls others outcomes more one two =
      run_of first last (calls ++ others) (outcomes ++ more) (made_then OutcomeOfCall first mid last calls others outcomes more one.executed two.executed)

  pub run_then : (first mid last : Held S) → IsSomeDeskRun g first mid → IsSomeDeskRun g mid last → IsSomeDeskRun g first last
  run_then first mid last one two = record {
    calls = one.calls ++ two.calls;
    outcomes = one.outcomes ++ two.outcomes;
    run = runs_joined first mid last one.calls two.calls one.outcomes two.outcomes one.run two.run;
  }
