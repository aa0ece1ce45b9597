-- Commands whose key has a stored reply, and commands whose key has none.
use Rattle.std.proofs.Common.{◌≡◌, ◌∙◌, ℕ, Option, Some, None, refl, sym, ap}
use Rattle.brk_model.specs.Base.{Base}
use Rattle.brk_model.specs.Sheets.{sheets}
use Rattle.brk_model.specs.Commands.{Answer, Command, Reply}
use Rattle.brk_model.specs.Keyed.{answer_and_base_of_step, stored_row_with_key, answer_and_base_by_stored_row, keyed_step, base_with_stored_reply, answer_and_base_of_retry}
use Rattle.brk_model.specs.Records.{Key, Kept}
use Rattle.brk_model.specs.Step.{base_after_accepted_command, step}
use Rattle.brk_trade_books.proofs.Keeping.{kept_rows, reads_kept}
use Rattle.brk_desk.specs.Keys.{kept_row_under_key, tables_with_stored_command}
use Rattle.brk_desk.proofs.Leaving.{leaves_kept}

none_some : {A B : Type 0} {x : A} → None ≡ Some x → B
none_some e = absurd (cc)

-- where nothing is kept under its key a command does its step
pub steps_anew : (base : Base) (now : ℕ) (command : Command) (key : Option Key) → None ≡ kept_row_under_key (sheets base) key
    → keyed_step base now command key ≡ answer_and_base_of_step base key command (step base now command)
unfolding keyed_step
steps_anew base now command None e = refl
steps_anew base now command (Some key) e = ap (answer_and_base_by_stored_row base now command (Some key)) (sym (e ∙ reads_kept base key))

-- where a row is, it is answered by that row
pub steps_again : (base : Base) (now : ℕ) (command : Command) (key : Option Key) (k : Kept) (told : Answer × Base) → Some k ≡ kept_row_under_key (sheets base) key
    → answer_and_base_of_retry base command k ≡ told → keyed_step base now command key ≡ told
unfolding keyed_step
steps_again base now command None k told e r = none_some (sym e)
steps_again base now command (Some key) k told e r = ap (answer_and_base_by_stored_row base now command (Some key)) (sym (e ∙ reads_kept base key)) ∙ r

-- the tables after a command that is kept under its key
pub rows_with_key : (base : Base) (stamp : ℕ) (command : Command) (key : Option Key) (reply : Reply) → None ≡ kept_row_under_key (sheets base) key
    → sheets (base_with_stored_reply key command reply (base_after_accepted_command base stamp command))
    ≡ tables_with_stored_command key command reply (sheets (base_after_accepted_command base stamp command))
rows_with_key base stamp command None reply e = refl
rows_with_key base stamp command (Some key) reply e =
    let after = base_after_accepted_command base stamp command in
    kept_rows after key command reply (under after base key (leaves_kept base stamp command) ∙ sym (e ∙ reads_kept base key))
  where
    under : (a b : Base) (key : Key) → a.kept ≡ b.kept → stored_row_with_key a key ≡ stored_row_with_key b key
    under a b key s = rw s refl
