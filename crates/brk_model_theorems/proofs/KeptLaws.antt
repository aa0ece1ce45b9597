-- Stored rows remain stored, and a row that is stored is answered with its stored line.
use Rattle.std.proofs.Common.{◌≡◌, ℕ, Bool, true, false, cond, List, [], ◌∷◌, ◌++◌, refl, sym, ◌∙◌, ap, subst, append_assoc, append-nil, Option, Some, None, Result, Ok, Err, find}
use Rattle.std.specs.Prelude.{bytes_eq}
use Rattle.std.proofs.lemmas.Slice.Eq.{bytes_eq-Decides}
use Rattle.brk_money.specs.Spelling.{Text}
use Rattle.brk_money.specs.declared.refusal.Refusal.{Refusal}
use Rattle.brk_money.specs.declared.refusal.Refusal.TheVariants.{KeyReused}
use Rattle.brk_model.specs.Records.{Key, Kept}
use Rattle.brk_model.specs.Base.{Base}
use Rattle.brk_model.specs.Commands.{Command, Reply, Answer, Done, Again, Refused}
use Rattle.brk_model.specs.Rows.{row_text}
use Rattle.brk_model.specs.Keyed.{stored_row_with_key, keyed_step, answer_and_base_by_stored_row, answer_and_base_of_step, stored_row_with_optional_key}
use Rattle.brk_model.specs.Step.{step}
use Rattle.brk_model.specs.Run.{Call, Do, Ask, Outcome, Did, Saw, NoView, Failed, IsOutcomeOfCall, Run}
use Rattle.brk_model.specs.Lines.{is_refused_answer}
use Rattle.brk_model_theorems.specs.Laws.{answer_to_retry}
use Rattle.brk_model_theorems.proofs.Steps.{Accepted, accepted, records-kept}
use Rattle.brk_model_theorems.proofs.KeyLaws.{matches, row_kept, keeps, found_again}

-- ---- kept rows stay

-- The stored rows of `after` begin with the stored rows of `base`.
abbrev pub Grows : Base → Base → Type 0
Grows base after = (more : List Kept) × (after.kept ≡ base.kept ++ more)

same-grows : (base after : Base) → after.kept ≡ base.kept → Grows base after
same-grows base after h = ([], h ∙ sym (append-nil base.kept))

pub grows-on : (base mid after : Base) → Grows base mid → Grows mid after → Grows base after
grows-on base mid after g h = (g.0 ++ h.0, h.1 ∙ ap (λ ks. ks ++ h.0) g.1 ∙ append_assoc base.kept g.0 h.0)

acted-grows : (base : Base) (now : ℕ) (key : Option Key) (command : Command) (r : Result (Reply × Base) Refusal) → step base now command ≡ r → Grows base (answer_and_base_of_step base key command r).1
acted-grows base now key command (Err refusal) h = same-grows base base refl
acted-grows base now None command (Ok booked) h =
    let k : Accepted base now command booked.0 booked.1 = accepted base now command booked.0 booked.1 h in
    same-grows base booked.1 (ap (λ b. b.kept) k.moved ∙ records-kept base _ command)
acted-grows base now (Some key) command (Ok booked) h =
    let k : Accepted base now command booked.0 booked.1 = accepted base now command booked.0 booked.1 h in
    (row_kept key command booked.0 ∷ [], ap (λ ks. ks ++ row_kept key command booked.0 ∷ []) (ap (λ b. b.kept) k.moved ∙ records-kept base _ command))

keyed-grows : (base : Base) (now : ℕ) (command : Command) (key : Option Key) (found : Option Kept) → Grows base (answer_and_base_by_stored_row base now command key found).1
keyed-grows base now command key (Some k) = same-grows base base refl
keyed-grows base now command key None = acted-grows base now key command (step base now command) refl

pub keyed_step-grows : (base : Base) (now : ℕ) (command : Command) (key : Option Key) → Grows base (keyed_step base now command key).1
unfolding keyed_step
keyed_step-grows base now command key = keyed-grows base now command key (stored_row_with_optional_key base key)

call-grows : (base : Base) (now : ℕ) (call : Call) (outcome : Outcome) (after : Base) → IsOutcomeOfCall base now call outcome after → Grows base after
call-grows base now (Do command key) (Did answer) after a = subst (λ r. Grows base r.1) a (keyed_step-grows base now command key)
call-grows base now (Ask query) (Did answer) after a = absurd a
call-grows base now (Do command key) (Saw view) after a = absurd a
call-grows base now (Ask query) (Saw view) after a = same-grows base after (ap (λ b. b.kept) a.1)
call-grows base now (Do command key) (NoView refusal) after a = absurd a
call-grows base now (Ask query) (NoView refusal) after a = same-grows base after (ap (λ b. b.kept) a.1)
call-grows base now call (Failed fault) after a = same-grows base after (ap (λ b. b.kept) a.1)

pub run-grows : (calls : List (ℕ × Call)) (outcomes : List Outcome) (base after : Base) → Run base calls outcomes after → Grows base after
run-grows [] [] base after r = same-grows base after (ap (λ b. b.kept) r)
run-grows [] (outcome ∷ outcomes) base after r = absurd r
run-grows (call ∷ calls) [] base after r = absurd r
run-grows (call ∷ calls) (outcome ∷ outcomes) base after r =
    grows-on base r.0 after (call-grows base call.0 call.1 outcome r.0 r.1) (run-grows calls outcomes r.0 after r.2)

find-stays : {X : Type 0} (p : X → Bool) (xs ys : List X) (x : X) → find p xs ≡ Some x → find p (xs ++ ys) ≡ Some x
find-stays p [] ys x h = absurd (cc)
find-stays p (z ∷ xs) ys x h = one (p z) (find p xs) (find p (xs ++ ys)) z x h (find-stays p xs ys x)
  where
    one : {X : Type 0} (b : Bool) (found more : Option X) (z x : X) → cond b (Some z) found ≡ Some x → (found ≡ Some x → more ≡ Some x) → cond b (Some z) more ≡ Some x
    one true found more z x h rest = h
    one false found more z x h rest = rest h

pub stays : (base after : Base) (key : Key) (k : Kept) → Grows base after → stored_row_with_key base key ≡ Some k → stored_row_with_key after key ≡ Some k
stays base after key k g h = ap (find (matches key)) g.1 ∙ find-stays (matches key) base.kept g.0 k h

-- ---- a row that is kept with its answer

-- The base stores the row of the command under the key, with the line with which a retry is
-- answered.
pub record Remembers (base : Base) (key : Key) (command : Command) (answer : Answer) : Type 0 where
  pub kept : Kept
  pub found : stored_row_with_key base key ≡ Some kept
  pub same : bytes_eq kept.row_text (row_text command) ≡ true
  pub line : answer_to_retry answer ≡ Again kept.line

line_in : Answer → Option Text
line_in (Done reply) = None
line_in (Again line) = Some line
line_in (Refused refusal) = None

by_again : (base : Base) (command : Command) (key : Key) (k : Kept) (line : Text) (after : Base) → stored_row_with_key base key ≡ Some k → (b : Bool) → bytes_eq k.row_text (row_text command) ≡ b
    → ◌≡◌ {A = Answer × Base} (cond b (Again k.line) (Refused KeyReused), base) (Again line, after) → Remembers after key command (Again line)
unfolding line_in
by_again base command key k line after h true s e = record {
  kept = k;
  found = ap (λ b. stored_row_with_key b key) (sym (ap (λ r. r.1) e)) ∙ h;
  same = s;
  line = sym (ap (λ r. r.0) e);
}
by_again base command key k line after h false s e = let no : None ≡ Some line = ap (λ r. line_in r.0) e in absurd (cc)

acted-again : (base : Base) (command : Command) (key : Key) (line : Text) (after : Base) (r : Result (Reply × Base) Refusal)
    → answer_and_base_of_step base (Some key) command r ≡ (Again line, after) → ⊥
unfolding line_in
acted-again base command key line after (Ok booked) e = let no : None ≡ Some line = ap (λ r. line_in r.0) e in absurd (cc)
acted-again base command key line after (Err refusal) e = let no : None ≡ Some line = ap (λ r. line_in r.0) e in absurd (cc)

by_kept : (base : Base) (now : ℕ) (command : Command) (key : Key) (line : Text) (after : Base) (found : Option Kept) → stored_row_with_key base key ≡ found
    → answer_and_base_by_stored_row base now command (Some key) found ≡ (Again line, after) → Remembers after key command (Again line)
by_kept base now command key line after (Some k) h e = by_again base command key k line after h (bytes_eq k.row_text (row_text command)) refl e
by_kept base now command key line after None h e = absurd (acted-again base command key line after (step base now command) e)

-- after an answer that is no refusal
pub remembers : (base : Base) (now : ℕ) (command : Command) (key : Key) (answer : Answer) (after : Base) → keyed_step base now command (Some key) ≡ (answer, after) → is_refused_answer answer ≡ false
    → Remembers after key command answer
unfolding keyed_step
remembers base now command key (Done reply) after e h = record {
  kept = row_kept key command reply;
  found = found_again base command key reply after (keeps base now command key reply after e);
  same = (bytes_eq-Decides (row_text command) (row_text command)).1 refl;
  line = refl;
}
remembers base now command key (Again line) after e h = by_kept base now command key line after (stored_row_with_key base key) refl e
remembers base now command key (Refused refusal) after e h = absurd (cc)

pub still : (base after : Base) (key : Key) (command : Command) (answer : Answer) → Grows base after → Remembers base key command answer → Remembers after key command answer
still base after key command answer g r = record { kept = r.kept; found = stays base after key r.kept g r.found; same = r.same; line = r.line }

-- so it is answered with that line
pub answers-again : (base : Base) (now : ℕ) (command : Command) (key : Key) (answer : Answer) → Remembers base key command answer
    → keyed_step base now command (Some key) ≡ (answer_to_retry answer, base)
unfolding keyed_step
answers-again base now command key answer r =
    ap (answer_and_base_by_stored_row base now command (Some key)) r.found ∙ ap (λ b. (cond b (Again r.kept.line) (Refused KeyReused), base)) r.same ∙ ap (λ a. (a, base)) (sym r.line)
