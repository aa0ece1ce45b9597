-- A command is accepted at most once under a key.
use Rattle.std.proofs.Common.{◌≡◌, ℕ, ◌==◌, ◌&&◌, Bool, true, false, cond, List, [], ◌∷◌, ◌++◌, refl, sym, ◌∙◌, ap, Option, Some, None, Result, Ok, Err, find}
use Rattle.std.specs.Prelude.{bytes_eq}
use Rattle.std.proofs.lemmas.Slice.Eq.{bytes_eq-Decides}
use Rattle.std.specs.Cmp.{unsigned_Decides}
use Rattle.brk_money.specs.Spelling.{Text}
use Rattle.brk_money.specs.declared.refusal.Refusal.{Refusal}
use Rattle.brk_money.specs.declared.refusal.Refusal.TheVariants.{KeyReused}
use Rattle.brk_model.specs.Records.{Key, Kept}
use Rattle.brk_model.specs.Base.{Base}
use Rattle.brk_model.specs.Commands.{Command, Reply, Answer, Done, Again, Refused}
use Rattle.brk_model.specs.Rows.{row_text, line_text}
use Rattle.brk_model.specs.Keyed.{stored_row_with_key, keyed_step, answer_and_base_by_stored_row, answer_and_base_of_step, answer_and_base_of_retry, base_with_stored_reply}
use Rattle.brk_model.specs.Step.{step}
use Rattle.brk_model_theorems.proofs.Steps.{Accepted, accepted, records-kept}

-- ---- by an answer

reply_in : Reply → Answer → Reply
reply_in d (Done reply) = reply
reply_in d (Again line) = d
reply_in d (Refused refusal) = d

pub done-inj : {x y : Reply} → Done x ≡ Done y → x ≡ y
unfolding reply_in
done-inj {x = x} e = ap (reply_in x) e

-- ---- what is found under a key

-- True if the stored row has the key `key`.
abbrev pub matches : Key → Kept → Bool
matches key k = bytes_eq k.key.batch key.batch && (k.key.n == key.n)

same_key : (key : Key) (row line : Text) → (bytes_eq key.batch key.batch && (key.n == key.n)) ≡ true
same_key key row line = rw ((bytes_eq-Decides key.batch key.batch).1 refl) ((unsigned_Decides key.n key.n).1 refl)

find-one : {X : Type 0} (p : X → Bool) (y : X) (ys zs : List X) (x : X) (b : Bool) → cond b (Some y) (find p ys) ≡ None → (find p ys ≡ None → find p zs ≡ Some x) → cond b (Some y) (find p zs) ≡ Some x
find-one p y ys zs x true none rest = absurd (cc)
find-one p y ys zs x false none rest = rest none

-- what stands last is found, where nothing before it is
find-last : {X : Type 0} (p : X → Bool) (xs : List X) (x : X) → find p xs ≡ None → p x ≡ true → find p (xs ++ x ∷ []) ≡ Some x
find-last p [] x none h = rw h refl
find-last p (y ∷ ys) x none h = find-one p y ys (ys ++ x ∷ []) x (p y) none (λ e. find-last p ys x e h)

-- The stored row of an accepted command: its key, the text of its row and the line of its reply.
abbrev pub row_kept : Key → Command → Reply → Kept
row_kept key command reply = record { key = key; row_text = row_text command; line = line_text reply }

-- The key is not stored in `base`, and `after` stores in addition the row of the command and its
-- reply.
pub record Keeps (base : Base) (key : Key) (command : Command) (reply : Reply) (after : Base) : Type 0 where
  pub fresh : stored_row_with_key base key ≡ None
  pub kept : after.kept ≡ base.kept ++ row_kept key command reply ∷ []

base_in : Answer × Base → Base
base_in answered = answered.1

answer_in : Answer × Base → Answer
answer_in answered = answered.0

is_done : Answer → Bool
is_done (Done reply) = true
is_done (Again line) = false
is_done (Refused refusal) = false

by_step : (base : Base) (now : ℕ) (command : Command) (key : Key) (reply : Reply) (after : Base) → stored_row_with_key base key ≡ None → (r : Result (Reply × Base) Refusal) → step base now command ≡ r
    → answer_and_base_of_step base (Some key) command r ≡ (Done reply, after) → Keeps base key command reply after
unfolding base_in answer_in is_done
by_step base now command key reply after fresh (Err refusal) h e = let no : false ≡ true = ap (λ a. is_done (answer_in a)) e in absurd (cc)
by_step base now command key reply after fresh (Ok booked) h e =
    let told : booked.0 ≡ reply = done-inj (ap answer_in e) in
    let k : Accepted base now command booked.0 booked.1 = accepted base now command booked.0 booked.1 h in
    let same : after ≡ base_with_stored_reply (Some key) command booked.0 booked.1 = sym (ap base_in e) in
    record {
      fresh = fresh;
      kept = ap (λ b. b.kept) same ∙ ap (λ b. b.kept ++ row_kept key command booked.0 ∷ []) k.moved
          ∙ ap (λ ks. ks ++ row_kept key command booked.0 ∷ []) (records-kept base _ command) ∙ ap (λ r. base.kept ++ row_kept key command r ∷ []) told;
    }

repeated-not_done : (base : Base) (command : Command) (k : Kept) (reply : Reply) (after : Base) → answer_and_base_of_retry base command k ≡ (Done reply, after) → ⊥
unfolding answer_in is_done
repeated-not_done base command k reply after e = at (bytes_eq k.row_text (row_text command)) (ap (λ a. is_done (answer_in a)) e)
  where
    at : (b : Bool) → is_done (cond b (Again k.line) (Refused KeyReused)) ≡ true → ⊥
    at true h = absurd (cc)
    at false h = absurd (cc)

by_kept : (base : Base) (now : ℕ) (command : Command) (key : Key) (reply : Reply) (after : Base) (found : Option Kept) → stored_row_with_key base key ≡ found
    → answer_and_base_by_stored_row base now command (Some key) found ≡ (Done reply, after) → Keeps base key command reply after
by_kept base now command key reply after (Some k) h e = absurd (repeated-not_done base command k reply after e)
by_kept base now command key reply after None h e = by_step base now command key reply after h (step base now command) refl e

pub keeps : (base : Base) (now : ℕ) (command : Command) (key : Key) (reply : Reply) (after : Base) → keyed_step base now command (Some key) ≡ (Done reply, after) → Keeps base key command reply after
unfolding keyed_step
keeps base now command key reply after e = by_kept base now command key reply after (stored_row_with_key base key) refl e

-- and it is found again
pub found_again : (base : Base) (command : Command) (key : Key) (reply : Reply) (after : Base) → Keeps base key command reply after → stored_row_with_key after key ≡ Some (row_kept key command reply)
found_again base command key reply after k =
    ap (find (matches key)) k.kept ∙ find-last (matches key) base.kept (row_kept key command reply) k.fresh (same_key key (row_text command) (line_text reply))

-- ---- the laws

-- the same row is answered with its line, at any moment, and leaves the base
pub again : (base : Base) (now later : ℕ) (command : Command) (key : Key) (reply : Reply) (after : Base) → keyed_step base now command (Some key) ≡ (Done reply, after)
    → keyed_step after later command (Some key) ≡ (Again (line_text reply), after)
unfolding keyed_step
again base now later command key reply after e =
    ap (answer_and_base_by_stored_row after later command (Some key)) (found_again base command key reply after (keeps base now command key reply after e))
    ∙ ap (λ b. (cond b (Again (line_text reply)) (Refused KeyReused), after)) ((bytes_eq-Decides (row_text command) (row_text command)).1 refl)

-- another row is refused, and leaves it
pub changed : (base : Base) (now later : ℕ) (command other : Command) (key : Key) (reply : Reply) (after : Base) → keyed_step base now command (Some key) ≡ (Done reply, after)
    → bytes_eq (row_text command) (row_text other) ≡ false → keyed_step after later other (Some key) ≡ (Refused KeyReused, after)
unfolding keyed_step
changed base now later command other key reply after e h =
    ap (answer_and_base_by_stored_row after later other (Some key)) (found_again base command key reply after (keeps base now command key reply after e))
    ∙ ap (λ b. (cond b (Again (line_text reply)) (Refused KeyReused), after)) h
