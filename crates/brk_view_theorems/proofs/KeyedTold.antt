-- The explanation after a result with a key prints the figures of the reply, as after one without.
use Rattle.std.proofs.Common.{◌≡◌, ℕ, Bool, true, false, cond, Option, Some, None, refl, sym, ◌∙◌, ap, subst}
use Rattle.std.specs.Prelude.{Err, Ok, Result, bytes_eq}
use Rattle.brk_money.specs.Spelling.{Text}
use Rattle.brk_money.specs.declared.refusal.Refusal.{Refusal}
use Rattle.brk_money.specs.declared.refusal.Refusal.TheVariants.{KeyReused}
use Rattle.brk_model.specs.Base.{Base, trade_with_id}
use Rattle.brk_model.specs.Commands.{Again, Answer, Command, CompleteTrade, CompletedTrade, Completion, Done, Refused, Reply}
use Rattle.brk_model.specs.Keyed.{answer_and_base_of_step, base_with_stored_reply, stored_row_with_optional_key, answer_and_base_by_stored_row, keyed_step}
use Rattle.brk_model.specs.Records.{Kept, Key, Trade}
use Rattle.brk_model.specs.Rows.{row_text}
use Rattle.brk_model.specs.Sheets.{tables_sorted_by_key}
use Rattle.brk_model.specs.Step.{step}
use Rattle.brk_model.specs.Tables.{tables_of_base_in_schema}
use Rattle.brk_trade_books.specs.Books.{BooksInvariant}
use Rattle.brk_view_theorems.specs.ReplyFigures.{PrintsReplyFigures}
use Rattle.brk_view_theorems.proofs.Told.{replies_told}

-- the step of a command that was done, and what was kept under its key
record IsStep (base : Base) (now : ℕ) (command : Command) (key : Option Key) (reply : Reply) (after : Base) : Type 0 where
  moved : Base
  steps : step base now command ≡ Ok (reply, moved)
  kept : base_with_stored_reply key command reply moved ≡ after

is_again : (b : Bool) (line : Text) (base after : Base) (reply : Reply)
    → let pair : Answer × Base = (cond b (Again line) (Refused KeyReused), base) in pair ≡ (Done reply, after) → ⊥
is_again true line base after reply e = let k : Again line ≡ Done reply = ap (λ p. p.0) e in absurd (cc)
is_again false line base after reply e = let k : Refused KeyReused ≡ Done reply = ap (λ p. p.0) e in absurd (cc)

by_result : (base : Base) (now : ℕ) (command : Command) (key : Option Key) (reply : Reply) (after : Base) (r : Result (Reply × Base) Refusal) → step base now command ≡ r
    → answer_and_base_of_step base key command r ≡ (Done reply, after) → IsStep base now command key reply after
by_result base now command key reply after (Ok booked) e k =
    let done : Done booked.0 ≡ Done reply = ap (λ p. p.0) k in
    let same : booked.0 ≡ reply = cc in
    record { moved = booked.1; steps = e ∙ (λ i. Ok (same i, booked.1)); kept = ap (λ r. base_with_stored_reply key command r booked.1) (sym same) ∙ ap (λ p. p.1) k }
by_result base now command key reply after (Err refusal) e k = let j : Refused refusal ≡ Done reply = ap (λ p. p.0) k in absurd (cc)

done_steps : (base : Base) (now : ℕ) (command : Command) (key : Option Key) (reply : Reply) (after : Base) → keyed_step base now command key ≡ (Done reply, after)
    → IsStep base now command key reply after
unfolding keyed_step
done_steps base now command key reply after e = by_kept (stored_row_with_optional_key base key) e
  where
    by_kept : (o : Option Kept) → answer_and_base_by_stored_row base now command key o ≡ (Done reply, after) → IsStep base now command key reply after
    by_kept (Some k) e = absurd (is_again (bytes_eq k.row_text (row_text command)) k.line base after reply e)
    by_kept None e = by_result base now command key reply after (step base now command) refl e

-- what is kept under a key changes no row of a view
kept_tells : (base : Base) (key : Option Key) (command : Command) (reply : Reply) (u : Trade) (c : Completion) → PrintsReplyFigures base u c
    → PrintsReplyFigures (base_with_stored_reply key command reply base) u c
unfolding tables_of_base_in_schema tables_sorted_by_key
kept_tells base None command reply u c k = k
kept_tells base (Some key) command reply u c k =
    record { commission = k.commission; tax = k.tax; settlement = k.settlement; due = k.due; bought = k.bought; sold = k.sold; balance = k.balance }

kept_found : (base : Base) (key : Option Key) (command : Command) (reply : Reply) (id : ℕ) (u : Trade) → trade_with_id base id ≡ Some u
    → trade_with_id (base_with_stored_reply key command reply base) id ≡ Some u
kept_found base None command reply id u e = e
kept_found base (Some key) command reply id u e = e

pub calls_told : (base after : Base) (now id price stamp : ℕ) (key : Option Key) (c : Completion) → BooksInvariant base
    → keyed_step base now (CompleteTrade id price) key ≡ (Done (CompletedTrade stamp c), after) → (u : Trade) × (trade_with_id after id ≡ Some u) × PrintsReplyFigures after u c
calls_told base after now id price stamp key c books e =
    let s : IsStep base now (CompleteTrade id price) key (CompletedTrade stamp c) after = done_steps base now (CompleteTrade id price) key (CompletedTrade stamp c) after e in
    let t = replies_told base s.moved now id price stamp c books s.steps in (
      t.0,
      subst (λ b. trade_with_id b id ≡ Some t.0) s.kept (kept_found s.moved key (CompleteTrade id price) (CompletedTrade stamp c) id t.0 t.1),
      subst (λ b. PrintsReplyFigures b t.0 c) s.kept (kept_tells s.moved key (CompleteTrade id price) (CompletedTrade stamp c) t.0 c t.2),
    )
