-- A run with one more call.
use Rattle.std.proofs.Common.{◌≡◌, ◌∙◌, ◌+◌, ℕ, List, [], ◌∷◌, ◌++◌, map, length, Result, Ok, Err, IfErr, inl, inr, refl, sym, ap, subst, subst₂, IsTrue}
use Rattle.std.proofs.lemmas.List.{length-append, map-append}
use Rattle.std.specs.List.{AllByRecursion}
use Rattle.sqlite_trees.specs.Tree.{Trees}
use Rattle.brk_model.specs.Commands as model_commands
use Rattle.brk_model.specs.Keyed.{keyed_step}
use Rattle.brk_model.specs.Sheets.{sheets}
use Rattle.brk_audit_theorems.specs.Runs.{CallMeetsAuditFormats}
use Rattle.brk_store_transactions.specs.Holds.{IsDiskContentOfRows, WasOpenAndIsUnchanged, CrashStatesSatisfy}
use Rattle.brk_store_reads.proofs.Sequences.{same_then}
use Rattle.brk_desk.specs.CrashBases.{AcknowledgesNothing, CrashMayExposeBase}
use Rattle.brk_desk.proofs.Seen.{still}
use Rattle.brk_desk.proofs.Stopping.{may_be_there, quiet_leaves, stands_still}
use Rattle.brk_ref.specs.declared.answer.Answer.TheVariants as given
use Rattle.sqlite_trees.specs.declared.store.Store.{Ghosts}
use Rattle.sqlite.specs.Held.{Held, state}
use Rattle.sqlite.specs.State.{HasCleanDisk, State, Survives}
use Rattle.sqlite.proofs.StateLemmas.{survives_then, survives_weaker}
use Rattle.brk_money.specs.declared.fault.Fault.{Fault}
use Rattle.brk_money.specs.declared.refusal.Refusal.{Refusal}
use Rattle.brk_model.specs.Base.{Base}
use Rattle.brk_model.specs.Queries as model
use Rattle.brk_model.specs.Run.{IsOutcomeOfCall, Ask, IsCallFault, Run}
use Rattle.brk_view_rows.specs.Queries.{abstract_query}
use Rattle.brk_view_rows.specs.declared.view.View.{View}
use Rattle.brk_desk.specs.CommandAnswers.{CommandAnswer, IsNotDoneResult, model_answer}
use Rattle.brk_desk.specs.Answers.{outcome_of_command, model_outcome, outcome_of_query}
use Rattle.brk_desk_commands.specs.Commands.{abstract_command}
use Rattle.brk_desk.specs.Keys.{optional_model_key}
use Rattle.brk_desk.specs.Commands.{model_call}
use Rattle.brk_desk.specs.Booked.{CommandPost, IsDiskContentAfterCommand, base_after_keyed_command}
use Rattle.brk_store_transactions.specs.Audited.{Represents}
use Rattle.brk_desk.specs.CallPosts.{OutcomesAcknowledgeNothing, IsDiskContentWithAcknowledgedCommands, AskPost, FailsOnlyWithMemoryOrStore, CrashMayExposeDiskContent, OutcomePost, RunPost}
use Rattle.brk_desk.specs.declared.call.Call.{Call}
use Rattle.brk_desk.specs.declared.call.Call.TheVariants as call
use Rattle.brk_desk.specs.declared.call.Outcome.{Outcome}

run_more : (base mid after : Base) (calls : List (ℕ × Call)) (outcomes : List Outcome) (x : ℕ × Call) (o : Outcome) → Run base (map model_call calls) (map model_outcome outcomes) mid
    → IsOutcomeOfCall mid (model_call x).0 (model_call x).1 (model_outcome o) after → Run base (map model_call (calls ++ x ∷ [])) (map model_outcome (outcomes ++ o ∷ [])) after
run_more base mid after [] [] x o r a = (after, subst (λ b. IsOutcomeOfCall b (model_call x).0 (model_call x).1 (model_outcome o) after) r a, refl)
run_more base mid after (c ∷ cs) (p ∷ ps) x o r a = (r.0, r.1, run_more r.0 mid after cs ps x o r.2 a)
run_more base mid after [] (p ∷ ps) x o r a = absurd r
run_more base mid after (c ∷ cs) [] x o r a = absurd r

formed_more : (calls : List (ℕ × Call)) (x : ℕ × Call) → AllByRecursion CallMeetsAuditFormats (map model_call calls) → CallMeetsAuditFormats (model_call x)
    → AllByRecursion CallMeetsAuditFormats (map model_call (calls ++ x ∷ []))
formed_more [] x all one = (one, tt)
formed_more (c ∷ cs) x all one = (all.0, formed_more cs x all.1 one)

as_many : {A B : Type 0} (xs : List A) (ys : List B) (x : A) (y : B) → length xs ≡ length ys → length (xs ++ x ∷ []) ≡ length (ys ++ y ∷ [])
as_many xs ys x y e = length-append xs (x ∷ []) ∙ ap (λ n. n + 1) e ∙ sym (length-append ys (y ∷ []))

-- a property of each outcome, with one outcome more
all_more : {X : Type 0} (P : X → Type 0) (xs : List X) (x : X) → AllByRecursion P xs → P x → AllByRecursion P (xs ++ x ∷ [])
all_more P [] x all one = (one, tt)
all_more P (y ∷ ys) x all one = (all.0, all_more P ys x all.1 one)

quiet_more : (outcomes : List Outcome) (o : Outcome) → OutcomesAcknowledgeNothing outcomes → AcknowledgesNothing (model_outcome o) → OutcomesAcknowledgeNothing (outcomes ++ o ∷ [])
quiet_more [] o all quiet = (quiet, tt)
quiet_more (p ∷ ps) o all quiet = (all.0, quiet_more ps o all.1 quiet)

quiet_before : (outcomes : List Outcome) (o : Outcome) → OutcomesAcknowledgeNothing (outcomes ++ o ∷ []) → OutcomesAcknowledgeNothing outcomes × AcknowledgesNothing (model_outcome o)
quiet_before [] o all = (tt, all.0)
quiet_before (p ∷ ps) o all = let more = quiet_before ps o all.1 in ((all.0, more.0), more.1)

known_answer : (result : Result CommandAnswer Fault) → IfErr result IsCallFault → FailsOnlyWithMemoryOrStore (outcome_of_command result)
known_answer (Ok answer) h = tt
known_answer (Err fault) h = h

known_view : (result : Result (Result View Refusal) Fault) → IfErr result IsCallFault → FailsOnlyWithMemoryOrStore (outcome_of_query result)
known_view (Ok (Ok view)) h = tt
known_view (Ok (Err refusal)) h = tt
known_view (Err fault) h = h

-- what a crash exposes is known whatever it exposed before
survives_by : (a b : State) (P Q : Trees → Type 0) → Survives a b P → (HasCleanDisk b → (trees : Trees) → b.may_leave trees → Q trees) → Survives a b Q
survives_by a b P Q s only =
    record { clean = s.clean; shield = s.shield; counts = s.counts; limit = s.limit; closes = s.closes; crash = λ clean trees may. inr (only clean trees may) }

mapped : (base after : Base) (calls : List (ℕ × Call)) (outcomes : List Outcome) (x : ℕ × Call) (o : Outcome)
    → CrashMayExposeBase base (map model_call calls ++ model_call x ∷ []) (map model_outcome outcomes ++ model_outcome o ∷ []) after
    → CrashMayExposeBase base (map model_call (calls ++ x ∷ [])) (map model_outcome (outcomes ++ o ∷ [])) after
mapped base after calls outcomes x o h = subst₂ (λ cs os. CrashMayExposeBase base cs os after) (sym (map-append model_call calls (x ∷ []))) (sym (map-append model_outcome outcomes (o ∷ []))) h

quiet_view : (result : Result (Result View Refusal) Fault) → AcknowledgesNothing (model_outcome (outcome_of_query result))
quiet_view (Ok (Ok view)) = tt
quiet_view (Ok (Err refusal)) = tt
quiet_view (Err fault) = tt

module _ {S : Type 0} (g : Ghosts S) where
  pub runs_none : (store : Held S) → RunPost g store store [] []
  runs_none store = record {
    count = refl;
    refines_model = λ clean base keeps. (base, keeps, refl);
    fault = tt;
    unchanged_if_open = λ clean up quiet. record { was_open = up; now = refl; committed = refl };
    was_open = λ clean up. up;
    survives = survives_weaker (state g store) (state g store) (λ _. ⊥) (CrashMayExposeDiskContent g store [] []) (λ _ db none. absurd none) (still (state g store));
    durable = λ clean base keeps loud. absurd (loud tt);
    stays_durable = λ clean base keeps only trees may. (base, inl refl, only trees may, keeps.texts);
    clean = λ clean. clean;
    well_formed = tt;
  }

  -- what came of a query is its answer over each base whose books were kept
  by_answer : (old new : Held S) (query : model.Query) (result : Result (Result View Refusal) Fault) (now : ℕ) (base : Base) → AskPost g old new query result
      → HasCleanDisk (state g new) → Represents g old base → IsOutcomeOfCall base now (Ask query) (model_outcome (outcome_of_query result)) base
  by_answer old new query (Ok (Ok view)) now base asked clean keeps = (asked.answered clean base keeps, refl)
  by_answer old new query (Ok (Err refusal)) now base asked clean keeps = (asked.answered clean base keeps, refl)
  by_answer old new query (Err fault) now base asked clean keeps = (asked.fault, refl)

  module _ (a b c : Held S) (calls : List (ℕ × Call)) (outcomes : List Outcome) (run : RunPost g a b calls outcomes) (now : ℕ) where
    -- one call more that acknowledges nothing leaves recoverable trees so
    left_still : (made : Call) (o : Outcome) (base mid : Base) → Run base (map model_call calls) (map model_outcome outcomes) mid
        → IsOutcomeOfCall mid (model_call (now, made)).0 (model_call (now, made)).1 (model_outcome o) mid → AcknowledgesNothing (model_outcome o)
        → (trees : Trees) → IsDiskContentWithAcknowledgedCommands base calls outcomes trees → IsDiskContentWithAcknowledgedCommands base (calls ++ (now, made) ∷ []) (outcomes ++ o ∷ []) trees
    left_still made o base mid ran told quiet trees l = (
      l.0,
      mapped base l.0 calls outcomes (now, made) o
          (stands_still base mid (map model_call calls) (map model_outcome outcomes) (model_call (now, made)) (model_outcome o) ran told quiet l.0 l.1),
      l.2,
      l.3,
    )

    -- one call more that acknowledges nothing, and may have committed trees of `Comes`
    module _ (made : Call) (o : Outcome) (quiet : AcknowledgesNothing (model_outcome o)) (known : FailsOnlyWithMemoryOrStore o)
        (formed : CallMeetsAuditFormats (model_call (now, made))) (clean : HasCleanDisk (state g c) → HasCleanDisk (state g b))
        (same : HasCleanDisk (state g c) → IsTrue (state g c).is_open → WasOpenAndIsUnchanged (state g b) (state g c))
        (told : HasCleanDisk (state g c) → (mid : Base) → Represents g b mid → Represents g c mid
        × IsOutcomeOfCall mid (model_call (now, made)).0 (model_call (now, made)).1 (model_outcome o) mid) (Comes : Trees → Type 0)
        (come : HasCleanDisk (state g c) → (trees : Trees) → Comes trees
        → IsTrue (state g b).is_open
        × ((mid : Base) → Represents g b mid → (base : Base) → Run base (map model_call calls) (map model_outcome outcomes) mid
        → IsDiskContentWithAcknowledgedCommands base (calls ++ (now, made) ∷ []) (outcomes ++ o ∷ []) trees))
        (survives : Survives (state g b) (state g c) Comes) where
      found : HasCleanDisk (state g c) → (base : Base) → Represents g a base → CrashStatesSatisfy g b (IsDiskContentWithAcknowledgedCommands base calls outcomes)
          → CrashStatesSatisfy g c (IsDiskContentWithAcknowledgedCommands base (calls ++ (now, made) ∷ []) (outcomes ++ o ∷ []))
      found k base keeps before trees may =
          let r = run.refines_model (clean k) base keeps in
          elim (survives.crash k trees may) [
            | inl earlier ↦ left_still made o base r.0 r.2 (told k r.0 r.1).1 quiet trees (before trees earlier)
            | inr comes ↦ (come k trees comes).1 r.0 r.1 base r.2
          ]

      quiet_step : RunPost g a c (calls ++ (now, made) ∷ []) (outcomes ++ o ∷ [])
      quiet_step = record {
        count = as_many outcomes calls o (now, made) run.count;
        refines_model = λ k base keeps.
            let r = run.refines_model (clean k) base keeps in
            let s = told k r.0 r.1 in
            (r.0, s.0, run_more base r.0 r.0 calls outcomes (now, made) o r.2 s.1);
        fault = all_more FailsOnlyWithMemoryOrStore outcomes o run.fault known;
        unchanged_if_open = λ k up all. let s = same k up in same_then (state g a) (state g b) (state g c) (run.unchanged_if_open (clean k) s.was_open (quiet_before outcomes o all).0) s;
        was_open = λ k up. run.was_open (clean k) (same k up).was_open;
        survives = survives_then (state g a) (state g b) (state g c) (CrashMayExposeDiskContent g a calls outcomes) Comes
            (CrashMayExposeDiskContent g a (calls ++ (now, made) ∷ []) (outcomes ++ o ∷ []))
            (λ k trees before. (before.0, λ base keeps. let r = run.refines_model (clean k) base keeps in left_still made o base r.0 r.2 (told k r.0 r.1).1 quiet trees (before.1 base keeps)))
            (λ k trees comes.
            let at = come k trees comes in
            (run.was_open (clean k) at.0, λ base keeps. let r = run.refines_model (clean k) base keeps in at.1 r.0 r.1 base r.2))
            run.survives survives;
        durable = λ k base keeps loud. found k base keeps (run.durable (clean k) base keeps (λ all. loud (quiet_more outcomes o all quiet)));
        stays_durable = λ k base keeps only. found k base keeps (run.stays_durable (clean k) base keeps only);
        clean = λ k. run.clean (clean k);
        well_formed = formed_more calls (now, made) run.well_formed formed;
      }

    -- one command more that is booked
    done_found : (command : _) (key : _) (reply : _) → CommandPost g b c now (abstract_command command) (optional_model_key key) (Ok (given.Done reply))
        → HasCleanDisk (state g c) → (base : Base) → Represents g a base
        → CrashStatesSatisfy g c (IsDiskContentWithAcknowledgedCommands base (calls ++ (now, call.Do command key) ∷ []) (outcomes ++ outcome_of_command (Ok (given.Done reply)) ∷ []))
    done_found command key reply called k base keeps trees may =
        let r = run.refines_model (called.clean k) base keeps in
        let s = called.answered k r.0 r.1 in (
          s.0,
          inl (run_more base r.0 s.0 calls outcomes (now, call.Do command key) (outcome_of_command (Ok (given.Done reply))) r.2 s.2),
          subst (λ x. IsDiskContentOfRows (sheets x) trees) (ap (λ (x : model_commands.Answer × Base). x.1) s.2) (called.durable k tt r.0 r.1 trees may),
          s.1.texts,
        )

    by_done : (command : _) (key : _) (reply : _) → CommandPost g b c now (abstract_command command) (optional_model_key key) (Ok (given.Done reply))
        → RunPost g a c (calls ++ (now, call.Do command key) ∷ []) (outcomes ++ outcome_of_command (Ok (given.Done reply)) ∷ [])
    by_done command key reply called = record {
      count = as_many outcomes calls (outcome_of_command (Ok (given.Done reply))) (now, call.Do command key) run.count;
      refines_model = λ k base keeps.
          let r = run.refines_model (called.clean k) base keeps in
          let s = called.answered k r.0 r.1 in
          (s.0, s.1, run_more base r.0 s.0 calls outcomes (now, call.Do command key) (outcome_of_command (Ok (given.Done reply))) r.2 s.2);
      fault = all_more FailsOnlyWithMemoryOrStore outcomes (outcome_of_command (Ok (given.Done reply))) run.fault tt;
      unchanged_if_open = λ k up all. absurd (quiet_before outcomes (outcome_of_command (Ok (given.Done reply))) all).1;
      was_open = λ k up. run.was_open (called.clean k) (called.open_and_committed k tt).0;
      survives = survives_by (state g a) (state g c) (λ _. Unit {0})
          (CrashMayExposeDiskContent g a (calls ++ (now, call.Do command key) ∷ []) (outcomes ++ outcome_of_command (Ok (given.Done reply)) ∷ []))
          (survives_then (state g a) (state g b) (state g c) (CrashMayExposeDiskContent g a calls outcomes)
          (IsDiskContentAfterCommand g b now (abstract_command command) (optional_model_key key)) (λ _. Unit {0}) (λ _ db may. tt) (λ _ db may. tt)
          run.survives called.survives)
          (λ k trees may. (run.was_open (called.clean k) (called.open_and_committed k tt).0, λ base keeps. done_found command key reply called k base keeps trees may));
      durable = λ k base keeps loud. done_found command key reply called k base keeps;
      stays_durable = λ k base keeps only. done_found command key reply called k base keeps;
      clean = λ k. run.clean (called.clean k);
      well_formed = formed_more calls (now, call.Do command key) run.well_formed called.well_formed;
    }

    -- one command more that is answered without a change
    quiet_told : (command : _) (key : _) (answer : CommandAnswer) → AcknowledgesNothing (model_outcome (outcome_of_command (Ok answer)))
        → CommandPost g b c now (abstract_command command) (optional_model_key key) (Ok answer) → HasCleanDisk (state g c)
        → (mid : Base) → Represents g b mid → Represents g c mid × (keyed_step mid now (abstract_command command) (optional_model_key key) ≡ (model_answer answer, mid))
    quiet_told command key answer quiet called k mid keeps =
        let s = called.answered k mid keeps in
        let same : s.0 ≡ mid = quiet_leaves mid now (abstract_command command) (optional_model_key key) (model_answer answer) s.0 s.2 quiet in
        (subst (Represents g c) same s.1, subst (λ x. keyed_step mid now (abstract_command command) (optional_model_key key) ≡ (model_answer answer, x)) same s.2)

    by_quiet : (command : _) (key : _) (answer : CommandAnswer) → AcknowledgesNothing (model_outcome (outcome_of_command (Ok answer)))
        → IsNotDoneResult (Ok answer) → CommandPost g b c now (abstract_command command) (optional_model_key key) (Ok answer)
        → RunPost g a c (calls ++ (now, call.Do command key) ∷ []) (outcomes ++ outcome_of_command (Ok answer) ∷ [])
    by_quiet command key answer quiet booked called =
        quiet_step (call.Do command key) (outcome_of_command (Ok answer)) quiet tt called.well_formed called.clean
        (λ k up. called.unchanged_if_open k up booked) (quiet_told command key answer quiet called)
        (IsDiskContentAfterCommand g b now (abstract_command command) (optional_model_key key))
        (λ k trees p. (
          p.0,
          λ mid keeps base ran.
              let e = (quiet_told command key answer quiet called k mid keeps).1 in (
                mid,
                inl (run_more base mid mid calls outcomes (now, call.Do command key) (outcome_of_command (Ok answer)) ran e),
                subst
                    (λ x. IsDiskContentOfRows (sheets x) trees) (ap (λ (x : model_commands.Answer × Base). x.1) e) (p.1 mid keeps),
                keeps.texts,
              ),
        ))
        called.survives

    -- one command more that failed
    by_fault : (command : _) (key : _) (fault : Fault) → CommandPost g b c now (abstract_command command) (optional_model_key key) (Err fault)
        → RunPost g a c (calls ++ (now, call.Do command key) ∷ []) (outcomes ++ outcome_of_command (Err fault) ∷ [])
    by_fault command key fault called =
        quiet_step (call.Do command key) (outcome_of_command (Err fault)) tt called.fault called.well_formed called.clean
        (λ k up. called.unchanged_if_open k up tt) (λ k mid keeps. (called.same_bases_at_error mid keeps, (called.fault, refl)))
        (IsDiskContentAfterCommand g b now (abstract_command command) (optional_model_key key))
        (λ k trees p. (
          p.0,
          λ mid keeps base ran. (
            base_after_keyed_command mid now (abstract_command command) (optional_model_key key),
            mapped base (base_after_keyed_command mid now (abstract_command command) (optional_model_key key)) calls outcomes (now, call.Do command key) (outcome_of_command (Err fault))
                (may_be_there base mid (map model_call calls) (map model_outcome outcomes) now (abstract_command command) (optional_model_key key) fault ran),
            p.1 mid keeps,
            p.2 mid keeps,
          ),
        ))
        called.survives

    by_result : (command : _) (key : _) (result : Result CommandAnswer Fault) → CommandPost g b c now (abstract_command command) (optional_model_key key) result
        → RunPost g a c (calls ++ (now, call.Do command key) ∷ []) (outcomes ++ outcome_of_command result ∷ [])
    by_result command key (Ok (given.Done reply)) called = by_done command key reply called
    by_result command key (Ok (given.Again line)) called = by_quiet command key (given.Again line) tt tt called
    by_result command key (Ok (given.Refused refusal)) called = by_quiet command key (given.Refused refusal) tt tt called
    by_result command key (Err fault) called = by_fault command key fault called

    by_view : (query : _) (result : Result (Result View Refusal) Fault) → AskPost g b c (abstract_query query) result
        → RunPost g a c (calls ++ (now, call.Ask query) ∷ []) (outcomes ++ outcome_of_query result ∷ [])
    by_view query result asked =
        quiet_step (call.Ask query) (outcome_of_query result) (quiet_view result) (known_view result asked.fault) tt asked.clean asked.unchanged_if_open
        (λ k mid keeps. (asked.same_bases mid keeps, by_answer b c (abstract_query query) result now mid asked k keeps)) (λ _. ⊥)
        (λ k trees none. absurd none) asked.survives

    pub runs_more : (made : Call) (outcome : Outcome) → OutcomePost g b c now made outcome → RunPost g a c (calls ++ (now, made) ∷ []) (outcomes ++ outcome ∷ [])
    runs_more (call.Do command key) outcome it =
        subst (λ o. RunPost g a c (calls ++ (now, call.Do command key) ∷ []) (outcomes ++ o ∷ [])) (sym it.1) (by_result command key it.0 it.2)
    runs_more (call.Ask query) outcome it =
        subst (λ o. RunPost g a c (calls ++ (now, call.Ask query) ∷ []) (outcomes ++ o ∷ [])) (sym it.1) (by_view query it.0 it.2)
