-- The bases that a crash may expose after one more call.
use Rattle.std.proofs.Common.{◌≡◌, ◌∙◌, inl, inr, ℕ, List, [], ◌∷◌, ◌++◌, Option, Some, None, Result, Ok, Err, refl, sym, ap, subst}
use Rattle.std.specs.List.{AllByRecursion}
use Rattle.std.proofs.lemmas.List.{append_assoc}
use Rattle.brk_money.specs.declared.fault.Fault.{Fault}
use Rattle.brk_model.specs.Base.{Base}
use Rattle.brk_money.specs.declared.refusal.Refusal.{Refusal}
use Rattle.brk_model.specs.Commands.{Answer, Command, Reply}
use Rattle.brk_model.specs.Keyed.{answer_and_base_of_step, stored_row_with_optional_key, answer_and_base_by_stored_row, keyed_step}
use Rattle.brk_model.specs.Records.{Kept, Key}
use Rattle.brk_model.specs.Run.{IsOutcomeOfCall, Ask, Call, Did, Do, Outcome, Failed, NoView, Run, Saw}
use Rattle.brk_model.specs.Step.{step}
use Rattle.brk_desk.specs.CrashBases.{AcknowledgesNothing, CrashMayExposeBase}

pub run_then : (base mid after : Base) (calls : List (ℕ × Call)) (outcomes : List Outcome) (x : ℕ × Call) (o : Outcome) → Run base calls outcomes mid → IsOutcomeOfCall mid x.0 x.1 o after
    → Run base (calls ++ x ∷ []) (outcomes ++ o ∷ []) after
run_then base mid after [] [] x o r a = (after, subst (λ b. IsOutcomeOfCall b x.0 x.1 o after) r a, refl)
run_then base mid after (c ∷ cs) (p ∷ ps) x o r a = (r.0, r.1, run_then r.0 mid after cs ps x o r.2 a)
run_then base mid after [] (p ∷ ps) x o r a = absurd r
run_then base mid after (c ∷ cs) [] x o r a = absurd r

quiet_then : (rest : List Outcome) (o : Outcome) → AllByRecursion AcknowledgesNothing rest → AcknowledgesNothing o → AllByRecursion AcknowledgesNothing (rest ++ o ∷ [])
quiet_then [] o all q = (q, tt)
quiet_then (p ∷ ps) o all q = (all.0, quiet_then ps o all.1 q)

-- an outcome settles the base after it
answers_once : (base : Base) (now : ℕ) (call : Call) (o : Outcome) (a b : Base) → IsOutcomeOfCall base now call o a → IsOutcomeOfCall base now call o b → a ≡ b
answers_once base now (Do command key) (Did answer) a b p q = ap (λ (x : Answer × Base). x.1) (sym p ∙ q)
answers_once base now (Ask query) (Did answer) a b p q = absurd p
answers_once base now (Ask query) (Saw view) a b p q = p.1 ∙ sym q.1
answers_once base now (Do command key) (Saw view) a b p q = absurd p
answers_once base now (Ask query) (NoView refusal) a b p q = p.1 ∙ sym q.1
answers_once base now (Do command key) (NoView refusal) a b p q = absurd p
answers_once base now call (Failed fault) a b p q = p.1 ∙ sym q.1

-- and so do the outcomes of a run
run_once : (base : Base) (calls : List (ℕ × Call)) (outcomes : List Outcome) (a b : Base) → Run base calls outcomes a → Run base calls outcomes b → a ≡ b
run_once base [] [] a b p q = p ∙ sym q
run_once base (c ∷ cs) (o ∷ os) a b p q =
    let same = answers_once base c.0 c.1 o q.0 p.0 q.1 p.1 in
    run_once p.0 cs os a b p.2 (subst (λ m. Run m cs os b) same q.2)
run_once base [] (o ∷ os) a b p q = absurd p
run_once base (c ∷ cs) [] a b p q = absurd p

-- a command that books nothing leaves the base
acted_quiet : (base : Base) (key : Option Key) (command : Command) (r : Result (Reply × Base) Refusal) (answer : Answer) (after : Base)
    → answer_and_base_of_step base key command r ≡ (answer, after) → AcknowledgesNothing (Did answer) → after ≡ base
acted_quiet base key command (Ok booked) answer after e quiet = absurd (subst (λ (x : Answer × Base). AcknowledgesNothing (Did x.0)) (sym e) quiet)
acted_quiet base key command (Err refusal) answer after e quiet = ap (λ (x : Answer × Base). x.1) (sym e)

keyed_quiet : (base : Base) (now : ℕ) (command : Command) (key : Option Key) (k : Option Kept) (answer : Answer) (after : Base)
    → answer_and_base_by_stored_row base now command key k ≡ (answer, after) → AcknowledgesNothing (Did answer) → after ≡ base
keyed_quiet base now command key (Some k) answer after e quiet = ap (λ (x : Answer × Base). x.1) (sym e)
keyed_quiet base now command key None answer after e quiet = acted_quiet base key command (step base now command) answer after e quiet

pub quiet_leaves : (base : Base) (now : ℕ) (command : Command) (key : Option Key) (answer : Answer) (after : Base)
    → keyed_step base now command key ≡ (answer, after) → AcknowledgesNothing (Did answer) → after ≡ base
unfolding keyed_step
quiet_leaves base now command key answer after e quiet = keyed_quiet base now command key (stored_row_with_optional_key base key) answer after e quiet

-- after a run to a base, a call that acknowledges nothing leaves what may stand
pub stands_still : (base mid : Base) (calls : List (ℕ × Call)) (outcomes : List Outcome) (x : ℕ × Call) (o : Outcome) → Run base calls outcomes mid
    → IsOutcomeOfCall mid x.0 x.1 o mid → AcknowledgesNothing o
    → (after : Base) → CrashMayExposeBase base calls outcomes after → CrashMayExposeBase base (calls ++ x ∷ []) (outcomes ++ o ∷ []) after
stands_still base mid calls outcomes x o ran told quiet after (inl other) =
    inl (subst (Run base (calls ++ x ∷ []) (outcomes ++ o ∷ [])) (run_once base calls outcomes mid after ran other) (run_then base mid mid calls outcomes x o ran told))
stands_still base mid calls outcomes x o ran told quiet after (inr w) = inr (record {
  earlier = w.earlier;
  now = w.now;
  command = w.command;
  key = w.key;
  later = w.later ++ x ∷ [];
  calls_are = ap (λ l. l ++ x ∷ []) w.calls_are ∙ append_assoc w.earlier ((w.now, Do w.command w.key) ∷ w.later) (x ∷ []);
  earlier_outcomes = w.earlier_outcomes;
  fault = w.fault;
  later_outcomes = w.later_outcomes ++ o ∷ [];
  outcomes_are = ap (λ l. l ++ o ∷ []) w.outcomes_are ∙ append_assoc w.earlier_outcomes (Failed w.fault ∷ w.later_outcomes) (o ∷ []);
  before = w.before;
  earlier_run = w.earlier_run;
  none_later_is_done = quiet_then w.later_outcomes o w.none_later_is_done quiet;
  after_is = w.after_is;
})

-- a command that was answered with a fault may be there all the same
pub may_be_there : (base mid : Base) (calls : List (ℕ × Call)) (outcomes : List Outcome) (now : ℕ) (command : Command) (key : Option Key) (fault : Fault) → Run base calls outcomes mid
    → CrashMayExposeBase base (calls ++ (now, Do command key) ∷ []) (outcomes ++ Failed fault ∷ []) (keyed_step mid now command key).1
may_be_there base mid calls outcomes now command key fault ran = inr (record {
  earlier = calls;
  now = now;
  command = command;
  key = key;
  later = [];
  calls_are = refl;
  earlier_outcomes = outcomes;
  fault = fault;
  later_outcomes = [];
  outcomes_are = refl;
  before = mid;
  earlier_run = ran;
  none_later_is_done = tt;
  after_is = refl;
})
