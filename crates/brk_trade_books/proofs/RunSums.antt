-- A run of calls preserves the books invariant, the sums of rows and the taxes of its results.
use Rattle.std.proofs.Common.{◌≡◌, ℕ, Bool, true, false, cond, List, [], ◌∷◌, map, refl, sym, subst, ap, Option, Some, None}
use Rattle.brk_lots.specs.Lots.{abstract_lot}
use Rattle.brk_money.specs.declared.refusal.Refusal.{Refusal}
use Rattle.brk_money.specs.declared.refusal.Refusal.TheVariants.{KeyReused}
use Rattle.brk_money.specs.Spelling.{Text}
use Rattle.brk_model.specs.Base.{Base, completed_trades, trade_with_id}
use Rattle.brk_model.specs.Derived.{deals_of_position, shares_of_position}
use Rattle.brk_model.specs.Shares.{lots_of_shares, replay}
use Rattle.brk_model.specs.Commands.{Again, Answer, Command, CompleteTrade, Done, Refused, Reply}
use Rattle.brk_model.specs.Keyed.{answer_and_base_of_step, base_with_stored_reply, stored_row_with_optional_key, answer_and_base_by_stored_row, keyed_step}
use Rattle.brk_model.specs.Records.{Kept, Key, Trade}
use Rattle.brk_model.specs.Rows.{row_text}
use Rattle.brk_model.specs.Run.{IsOutcomeOfCall, Call, Did, Do, Outcome, Run}
use Rattle.brk_model.specs.Sheets.{sheets}
use Rattle.brk_model.specs.Step.{base_after_accepted_command, reply_to_command, step, value_unless_refused}
use Rattle.brk_model.specs.Tests.{stamp_of_next_command, refusal_of_command}
use Rattle.std.specs.Prelude.{bytes_eq}
use Rattle.brk_trade_books.specs.Books.{BooksInvariant}
use Rattle.brk_trade_books.specs.Steps.{base_after_command}
use Rattle.brk_trade_books.specs.TradeReads.{lots_of_position}
use Rattle.brk_trade_books.specs.Runs.{TradeRowHasTax, CompletedTradeHasTax, IsRunWithSumsAndTaxes, RecordsTaxOfResult, RecordsTaxesOfResults, tax_at_completion}
use Rattle.brk_trade_books.proofs.AddingUp.{sums_add_up}
use Rattle.brk_trade_books.proofs.ResultKeeping.{result_named}
use Rattle.brk_trade_books.proofs.RunKeeping.{run_books}
use Rattle.brk_trade_books.proofs.RunLaws.{costs_sum, lots_spelled, result_taxed, run_taxes, taxed_kept, taxed_row}

-- ---- a call that was done

-- a command was accepted, and kept under its key where it has one
record IsAccepted (base : Base) (now : ℕ) (command : Command) (key : Option Key) (after : Base) : Type 0 where
  reply : Reply
  passed : refusal_of_command base now command ≡ None
  moved : after ≡ base_with_stored_reply key command reply (base_after_command base now command)

is_again : (b : Bool) (line : Text) (base after : Base) (reply : Reply)
    → let pair : Answer × Base = (cond b (Again line) (Refused KeyReused), base) in pair ≡ (Done reply, after) → ⊥
is_again true line base after reply e = let k : Again line ≡ Done reply = ap (λ p. p.0) e in absurd (cc)
is_again false line base after reply e = let k : Refused KeyReused ≡ Done reply = ap (λ p. p.0) e in absurd (cc)

by_refusal : (base : Base) (now : ℕ) (command : Command) (key : Option Key) (reply : Reply) (after : Base) (o : Option Refusal) → refusal_of_command base now command ≡ o
    → answer_and_base_of_step base key command
    (value_unless_refused o
    (reply_to_command base (stamp_of_next_command base now) command, base_after_accepted_command base (stamp_of_next_command base now) command))
    ≡ (Done reply, after)
    → IsAccepted base now command key after
by_refusal base now command key reply after None e k = record { reply = reply_to_command base (stamp_of_next_command base now) command; passed = e; moved = sym (ap (λ p. p.1) k) }
by_refusal base now command key reply after (Some refusal) e k = let j : Refused refusal ≡ Done reply = ap (λ p. p.0) k in absurd (cc)

done_is_accepted : (base : Base) (now : ℕ) (command : Command) (key : Option Key) (reply : Reply) (after : Base) → keyed_step base now command key ≡ (Done reply, after)
    → IsAccepted base now command key after
unfolding keyed_step step
done_is_accepted base now command key reply after e = by_kept (stored_row_with_optional_key base key) e
  where
    by_kept : (o : Option Kept) → answer_and_base_by_stored_row base now command key o ≡ (Done reply, after) → IsAccepted base now command key after
    by_kept (Some k) e = absurd (is_again (bytes_eq k.row_text (row_text command)) k.line base after reply e)
    by_kept None e = by_refusal base now command key reply after (refusal_of_command base now command) refl e

-- ---- an accepted result

pub taxed_by_call : (base mid : Base) (now id price : ℕ) (key : Option Key) (reply : Reply) → BooksInvariant base → keyed_step base now (CompleteTrade id price) key ≡ (Done reply, mid)
    → (t : Trade) × (trade_with_id base id ≡ Some t) × CompletedTradeHasTax id (tax_at_completion base now price t) mid
taxed_by_call base mid now id price key reply books e =
    let a = done_is_accepted base now (CompleteTrade id price) key reply mid e in
    let t = result_named base now id price a.passed in (
      t.0,
      t.1,
      subst (CompletedTradeHasTax id (tax_at_completion base now price t.0)) (sym a.moved)
          (taxed_kept (base_after_command base now (CompleteTrade id price)) key (CompleteTrade id price) a.reply id (tax_at_completion base now price t.0)
          (result_taxed base now id price t.0 books t.1 a.passed)),
    )

pub tax_stays : (base mid : Base) (now id price : ℕ) (key : Option Key) (reply : Reply) (calls : List (ℕ × Call)) (outcomes : List Outcome) (after : Base)
    → BooksInvariant base → BooksInvariant mid → keyed_step base now (CompleteTrade id price) key ≡ (Done reply, mid) → Run mid calls outcomes after
    → (t : Trade) × (trade_with_id base id ≡ Some t) × TradeRowHasTax (sheets after) id (tax_at_completion base now price t)
tax_stays base mid now id price key reply calls outcomes after books next e r =
    let k = taxed_by_call base mid now id price key reply books e in
    (k.0, k.1, taxed_row after id (tax_at_completion base now price k.0) (run_taxes mid calls outcomes after id (tax_at_completion base now price k.0) next r k.2))

pub taxes_stand : (base : Base) (calls : List (ℕ × Call)) (outcomes : List Outcome) (after : Base) → BooksInvariant base → Run base calls outcomes after
    → RecordsTaxesOfResults (sheets after) base calls outcomes
taxes_stand base [] [] after books r = tt
taxes_stand base [] (outcome ∷ outcomes) after books r = tt
taxes_stand base (call ∷ calls) [] after books r = tt
taxes_stand base (call ∷ calls) (outcome ∷ outcomes) after books r =
    (one call.1 outcome r.1, (r.0, r.1, taxes_stand r.0 calls outcomes after next r.2))
  where
    next : BooksInvariant r.0
    next = run_books base (call ∷ []) (outcome ∷ []) r.0 books (r.0, r.1, refl)

    one : (c : Call) (o : Outcome) → IsOutcomeOfCall base call.0 c o r.0 → RecordsTaxOfResult (sheets after) base call.0 c o
    one (Do (CompleteTrade id price) key) (Did (Done reply)) k = tax_stays base r.0 call.0 id price key reply calls outcomes after books next k r.2
    one c o k = tt

-- ---- all of it

replayed_lots : (base : Base) (account : ℕ) (symbol : Text) → BooksInvariant base
    → map abstract_lot (lots_of_position (sheets base) account symbol) ≡ lots_of_shares (replay (deals_of_position (completed_trades base) account symbol))
unfolding shares_of_position
replayed_lots base account symbol books = lots_spelled base account symbol books

pub run_adds_up : (base : Base) (calls : List (ℕ × Call)) (outcomes : List Outcome) (after : Base) → BooksInvariant base → Run base calls outcomes after
    → IsRunWithSumsAndTaxes base calls outcomes after
run_adds_up base calls outcomes after books r =
    let order : BooksInvariant after = run_books base calls outcomes after books r in
    record { run = r; order = order; sums = sums_add_up after order; taxes = taxes_stand base calls outcomes after books r; lots = λ account symbol. replayed_lots after account symbol order; costs = λ account symbol. costs_sum after account symbol order }
