-- A property of the empty base that each accepted command preserves holds of every reachable base.
use Rattle.std.proofs.Common.{◌≡◌, ℕ, Bool, true, false, cond, List, [], ◌∷◌, ◌++◌, refl, sym, ap, subst, Option, Some, None, Result, Ok, Err, find}
use Rattle.std.specs.Prelude.{bytes_eq, option_map}
use Rattle.std.specs.List.{AllByRecursion}
use Rattle.brk_money.specs.declared.refusal.Refusal.{Refusal}
use Rattle.brk_model.specs.Records.{Kept, Key}
use Rattle.brk_model.specs.Base.{Base, empty_base}
use Rattle.brk_model.specs.Commands.{Command, Reply}
use Rattle.brk_model.specs.Rows.{row_text}
use Rattle.brk_model.specs.Tests.{RefusalCheck, stamp_of_next_command, checks_of_command, refusal_of_command}
use Rattle.brk_model.specs.Step.{base_after_accepted_command, step}
use Rattle.brk_model.specs.Keyed.{keyed_step, answer_and_base_by_stored_row, answer_and_base_of_step, stored_row_with_optional_key, base_with_stored_reply}
use Rattle.brk_model.specs.Run.{Call, Do, Ask, Outcome, Did, Saw, NoView, Failed, IsOutcomeOfCall, Run}
use Rattle.brk_model_theorems.specs.Laws.{IsReachableFromEmptyBase}
use Rattle.brk_model_theorems.proofs.Steps.{Accepted, accepted}

-- Accepted commands preserve the property `P`, and so does storing a row with its reply.
pub record IsKept (P : Base → Type 0) : Type 0 where
  pub steps : (base : Base) (now : ℕ) (command : Command) → refusal_of_command base now command ≡ None → P base → P (base_after_accepted_command base (stamp_of_next_command base now) command)
  pub rows : (key : Option Key) (command : Command) (reply : Reply) (base : Base) → P base → P (base_with_stored_reply key command reply base)

acted-kept : (P : Base → Type 0) → IsKept P → (base : Base) (now : ℕ) (key : Option Key) (command : Command) (r : Result (Reply × Base) Refusal) → step base now command ≡ r → P base
    → P (answer_and_base_of_step base key command r).1
acted-kept P k base now key command (Err refusal) h p = p
acted-kept P k base now key command (Ok booked) h p =
    let a : Accepted base now command booked.0 booked.1 = accepted base now command booked.0 booked.1 h in
    k.rows key command booked.0 booked.1 (subst P (sym a.moved) (k.steps base now command a.passes p))

keyed-kept : (P : Base → Type 0) → IsKept P → (base : Base) (now : ℕ) (command : Command) (key : Option Key) (found : Option Kept) → P base
    → P (answer_and_base_by_stored_row base now command key found).1
keyed-kept P k base now command key None p = acted-kept P k base now key command (step base now command) refl p
keyed-kept P k base now command key (Some row) p = at (bytes_eq row.row_text (row_text command))
  where
    at : (b : Bool) → P base
    at b = p

keyed_step-kept : (P : Base → Type 0) → IsKept P → (base : Base) (now : ℕ) (command : Command) (key : Option Key) → P base → P (keyed_step base now command key).1
unfolding keyed_step
keyed_step-kept P k base now command key p = keyed-kept P k base now command key (stored_row_with_optional_key base key) p

call-kept : (P : Base → Type 0) → IsKept P → (base : Base) (now : ℕ) (call : Call) (outcome : Outcome) (after : Base) → IsOutcomeOfCall base now call outcome after → P base → P after
call-kept P k base now (Do command key) (Did answer) after a p = subst P (ap (λ r. r.1) a) (keyed_step-kept P k base now command key p)
call-kept P k base now (Ask query) (Did answer) after a p = absurd a
call-kept P k base now (Do command key) (Saw view) after a p = absurd a
call-kept P k base now (Ask query) (Saw view) after a p = subst P (sym a.1) p
call-kept P k base now (Do command key) (NoView refusal) after a p = absurd a
call-kept P k base now (Ask query) (NoView refusal) after a p = subst P (sym a.1) p
call-kept P k base now call (Failed fault) after a p = subst P (sym a.1) p

pub run-kept : (P : Base → Type 0) → IsKept P → (calls : List (ℕ × Call)) (outcomes : List Outcome) (base after : Base) → Run base calls outcomes after → P base → P after
run-kept P k [] [] base after r p = subst P (sym r) p
run-kept P k [] (outcome ∷ outcomes) base after r p = absurd r
run-kept P k (call ∷ calls) [] base after r p = absurd r
run-kept P k (call ∷ calls) (outcome ∷ outcomes) base after r p =
    run-kept P k calls outcomes r.0 after r.2 (call-kept P k base call.0 call.1 outcome r.0 r.1 p)

pub reached : (P : Base → Type 0) → IsKept P → P empty_base → (base : Base) → IsReachableFromEmptyBase base → P base
reached P k p base r = run-kept P k r.0 r.1 empty_base base r.2 p

-- ---- what an accepted command passed

none-passed : (ts : List RefusalCheck) → find (λ t. t.0) ts ≡ None → AllByRecursion (λ t. t.0 ≡ false) ts
none-passed [] h = tt
none-passed (t ∷ ts) h = at t.0 refl h (none-passed ts)
  where
    at : (b : Bool) → t.0 ≡ b → cond b (Some t) (find (λ u. u.0) ts) ≡ None → (find (λ u. u.0) ts ≡ None → AllByRecursion (λ u. u.0 ≡ false) ts) → (t.0 ≡ false) × AllByRecursion (λ u. u.0 ≡ false) ts
    at true e g rest = absurd (cc)
    at false e g rest = (e, rest g)

found-none : (o : Option RefusalCheck) → option_map (λ t. t.1) o ≡ None → o ≡ None
found-none None h = refl
found-none (Some t) h = absurd (cc)

All-front : {X : Type 0} (P : X → Type 0) (xs ys : List X) → AllByRecursion P (xs ++ ys) → AllByRecursion P xs
All-front P [] ys h = tt
All-front P (x ∷ xs) ys h = (h.0, All-front P xs ys h.1)

-- no test of an accepted command found anything wrong
pub passed : (base : Base) (now : ℕ) (command : Command) → refusal_of_command base now command ≡ None
    → AllByRecursion (λ t. t.0 ≡ false) (checks_of_command base (stamp_of_next_command base now) command)
unfolding refusal_of_command
passed base now command h = All-front (λ t. t.0 ≡ false) (checks_of_command base (stamp_of_next_command base now) command) _ (none-passed _ (found-none _ h))
