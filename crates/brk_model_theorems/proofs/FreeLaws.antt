-- A key is unused until a row under it is accepted.
use Rattle.std.proofs.Common.{◌≡◌, ℕ, ◌==◌, ◌&&◌, Bool, true, false, cond, List, [], ◌∷◌, ◌++◌, refl, sym, ◌∙◌, ap, Option, Some, None, Result, Ok, Err, find}
use Rattle.std.specs.Prelude.{bytes_eq}
use Rattle.std.proofs.lemmas.Slice.Eq.{bytes_eq-Decides}
use Rattle.std.specs.Cmp.{unsigned_Decides}
use Rattle.brk_money.specs.Spelling.{Text}
use Rattle.brk_money.specs.declared.refusal.Refusal.{Refusal}
use Rattle.brk_money.specs.declared.refusal.Refusal.TheVariants.{KeyReused}
use Rattle.brk_model.specs.Records.{Key, Kept}
use Rattle.brk_model.specs.Base.{Base}
use Rattle.brk_model.specs.Commands.{Command, Reply, Answer, Done, Again, Refused}
use Rattle.brk_model.specs.Rows.{row_text}
use Rattle.brk_model.specs.Lines.{is_refused_answer}
use Rattle.brk_model.specs.Keyed.{stored_row_with_key, keyed_step, answer_and_base_by_stored_row, answer_and_base_of_step, base_with_stored_reply}
use Rattle.brk_model.specs.Step.{step}
use Rattle.brk_model.specs.Run.{Call, Do, Ask, Outcome, Did, Saw, NoView, Failed, IsOutcomeOfCall, Run}
use Rattle.brk_model_theorems.specs.Laws.{IsAcceptedUnderKey, AcceptsNothingUnderKey}
use Rattle.brk_model_theorems.proofs.Steps.{Accepted, accepted, records-kept}
use Rattle.brk_model_theorems.proofs.KeyLaws.{matches, row_kept, Keeps, keeps}
use Rattle.brk_model_theorems.proofs.RunLaws.{keyed_step-says}

-- ---- a refused row

pub keeps-none : (base : Base) (now : ℕ) (command : Command) (key : Key) (refusal : Refusal) (after : Base) → keyed_step base now command (Some key) ≡ (Refused refusal, after)
    → stored_row_with_key base key ≡ None → (after ≡ base) × (stored_row_with_key after key ≡ None)
keeps-none base now command key refusal after e none =
    let same = keyed_step-says base now command (Some key) (Refused refusal) after e in (same, ap (λ b. stored_row_with_key b key) same ∙ none)

refusal_in : Refusal → Answer → Refusal
refusal_in d (Done reply) = d
refusal_in d (Again line) = d
refusal_in d (Refused refusal) = refusal

by_row : (base : Base) (line : Text) (refusal : Refusal) (after : Base) (b : Bool)
    → ◌≡◌ {A = Answer × Base} (cond b (Again line) (Refused KeyReused), base) (Refused refusal, after) → refusal ≡ KeyReused
unfolding refusal_in
by_row base line refusal after true e = let no : false ≡ true = ap (λ r. is_refused_answer r.0) e in absurd (cc)
by_row base line refusal after false e = sym (ap (λ r. refusal_in refusal r.0) e)

by_found : (base : Base) (now : ℕ) (command : Command) (key : Key) (refusal : Refusal) (after : Base) (found : Option Kept)
    → answer_and_base_by_stored_row base now command (Some key) found ≡ (Refused refusal, after) → ¬ (refusal ≡ KeyReused) → found ≡ None
by_found base now command key refusal after None e other = refl
by_found base now command key refusal after (Some k) e other = absurd (other (by_row base k.line refusal after (bytes_eq k.row_text (row_text command)) e))

-- where it is refused for anything but its key
pub was-free : (base : Base) (now : ℕ) (command : Command) (key : Key) (refusal : Refusal) (after : Base) → keyed_step base now command (Some key) ≡ (Refused refusal, after)
    → ¬ (refusal ≡ KeyReused) → stored_row_with_key base key ≡ None
unfolding keyed_step
was-free base now command key refusal after e other = by_found base now command key refusal after (stored_row_with_key base key) e other

-- where nothing is kept the row is answered by the step
pub acts : (base : Base) (now : ℕ) (command : Command) (key : Key) (reply : Reply) (booked : Base) → stored_row_with_key base key ≡ None → step base now command ≡ Ok (reply, booked)
    → keyed_step base now command (Some key) ≡ (Done reply, base_with_stored_reply (Some key) command reply booked)
unfolding keyed_step
acts base now command key reply booked none h = ap (answer_and_base_by_stored_row base now command (Some key)) none ∙ ap (answer_and_base_of_step base (Some key) command) h

-- ---- calls under other keys

find-none : {X : Type 0} (p : X → Bool) (xs : List X) (x : X) → find p xs ≡ None → p x ≡ false → find p (xs ++ x ∷ []) ≡ None
find-none p [] x none h = rw h refl
find-none p (y ∷ xs) x none h = one (p y) y (find p xs) (find p (xs ++ x ∷ [])) none (λ e. find-none p xs x e h)
  where
    one : {X : Type 0} (b : Bool) (y : X) (found more : Option X) → cond b (Some y) found ≡ None → (found ≡ None → more ≡ None) → cond b (Some y) more ≡ None
    one true y found more none rest = absurd (cc)
    one false y found more none rest = rest none

keyed_by : Text → ℕ → Key
keyed_by batch row = record { batch = batch; n = row }

-- a row under another key is not found
other_key : (key other : Key) (command : Command) (reply : Reply) → ¬ (other ≡ key) → matches key (row_kept other command reply) ≡ false
unfolding keyed_by
other_key key other command reply differs = at (bytes_eq other.batch key.batch) refl (other.n == key.n) refl
  where
    at : (b : Bool) → bytes_eq other.batch key.batch ≡ b → (r : Bool) → (other.n == key.n) ≡ r → (b && r) ≡ false
    at false h r k = refl
    at true h false k = refl
    at true h true k = absurd (differs (ap (λ x. keyed_by x other.n) ((bytes_eq-Decides other.batch key.batch).0 h) ∙ ap (keyed_by key.batch) ((unsigned_Decides other.n key.n).0 k)))

-- a command without a key keeps no row
by_step : (base : Base) (now : ℕ) (command : Command) (answer : Answer) (after : Base) (r : Result (Reply × Base) Refusal) → step base now command ≡ r
    → answer_and_base_of_step base None command r ≡ (answer, after) → after.kept ≡ base.kept
by_step base now command answer after (Err refusal) h e = ap (λ r. r.1.kept) (sym e)
by_step base now command answer after (Ok booked) h e =
    let k : Accepted base now command booked.0 booked.1 = accepted base now command booked.0 booked.1 h in
    ap (λ r. r.1.kept) (sym e) ∙ ap (λ b. b.kept) k.moved ∙ records-kept base _ command

without_key : (base : Base) (now : ℕ) (command : Command) (answer : Answer) (after : Base) → keyed_step base now command None ≡ (answer, after) → after.kept ≡ base.kept
unfolding keyed_step
without_key base now command answer after e = by_step base now command answer after (step base now command) refl e

-- a base that keeps what another one keeps
free_as : (base after : Base) (key : Key) → stored_row_with_key base key ≡ None → after.kept ≡ base.kept → stored_row_with_key after key ≡ None
free_as base after key none same = ap (find (matches key)) same ∙ none

answer-free : (base : Base) (now : ℕ) (call : Call) (answer : Answer) (after : Base) (key : Key) → stored_row_with_key base key ≡ None → IsOutcomeOfCall base now call (Did answer) after
    → ¬ (IsAcceptedUnderKey key call (Did answer)) → stored_row_with_key after key ≡ None
answer-free base now (Ask query) answer after key none a other = absurd a
answer-free base now (Do command None) answer after key none a other = free_as base after key none (without_key base now command answer after a)
answer-free base now (Do command (Some k)) (Done reply) after key none a other =
    let kept : Keeps base k command reply after = keeps base now command k reply after a in
    ap (find (matches key)) kept.kept ∙ find-none (matches key) base.kept (row_kept k command reply) none (other_key key k command reply other)
answer-free base now (Do command (Some k)) (Again line) after key none a other = free_as base after key none (ap (λ b. b.kept) (keyed_step-says base now command (Some k) (Again line) after a))
answer-free base now (Do command (Some k)) (Refused refusal) after key none a other =
    free_as base after key none (ap (λ b. b.kept) (keyed_step-says base now command (Some k) (Refused refusal) after a))

call-free : (base : Base) (now : ℕ) (call : Call) (outcome : Outcome) (after : Base) (key : Key) → stored_row_with_key base key ≡ None → IsOutcomeOfCall base now call outcome after
    → ¬ (IsAcceptedUnderKey key call outcome) → stored_row_with_key after key ≡ None
call-free base now call (Did answer) after key none a other = answer-free base now call answer after key none a other
call-free base now (Do command k) (Saw view) after key none a other = absurd a
call-free base now (Ask query) (Saw view) after key none a other = free_as base after key none (ap (λ b. b.kept) a.1)
call-free base now (Do command k) (NoView refusal) after key none a other = absurd a
call-free base now (Ask query) (NoView refusal) after key none a other = free_as base after key none (ap (λ b. b.kept) a.1)
call-free base now call (Failed fault) after key none a other = free_as base after key none (ap (λ b. b.kept) a.1)

pub stays-free : (key : Key) (calls : List (ℕ × Call)) (outcomes : List Outcome) (base later : Base) → stored_row_with_key base key ≡ None → Run base calls outcomes later
    → AcceptsNothingUnderKey key calls outcomes → stored_row_with_key later key ≡ None
stays-free key [] [] base later none r others = free_as base later key none (ap (λ b. b.kept) r)
stays-free key [] (outcome ∷ outcomes) base later none r others = absurd r
stays-free key (call ∷ calls) [] base later none r others = absurd r
stays-free key (call ∷ calls) (outcome ∷ outcomes) base later none r others =
    stays-free key calls outcomes r.0 later (call-free base call.0 call.1 outcome r.0 key none r.1 others.0) r.2 others.1
