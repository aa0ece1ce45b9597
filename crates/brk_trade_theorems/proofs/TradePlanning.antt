-- Cancels and feeds are refused by the tables as in the base, and their plans implement the
-- commands.
use Rattle.std.proofs.Common.{◌≡◌, ◌≤◌, ℕ, true, false, not, List, [], ◌∷◌, ◌++◌, refl, sym, ◌∙◌, ap, Bool, Option, Some, None}
use Rattle.std.specs.Prelude.{is_some, is_none, nat_lt, option_map, Ok, Err}
use Rattle.std.specs.Option.{option_map_or}
use Rattle.std.specs.List.{list_any}
use Rattle.brk_money.specs.Moments.{greatest_stamp, stamp_after, unlimited_stamp_after}
use Rattle.brk_money.specs.Kinds.{is_same_trade_status}
use Rattle.brk_money.specs.declared.refusal.Refusal.{Refusal}
use Rattle.brk_money.specs.declared.refusal.Refusal.TheVariants.{NoTrade, NoSecurity, WrongStatus, Range, ClockEnd, TooEarly}
use Rattle.brk_money.specs.declared.refusal.Limit.TheVariants as limit
use Rattle.brk_money.specs.declared.status.Status.TheVariants.{Pending, Canceled}
use Rattle.brk_model.specs.Limits.{greatest_amount}
use Rattle.brk_model.specs.Records.{StatusChange, Trade}
use Rattle.brk_model.specs.Base.{Base, has_last_status, last_status_change, security_with_symbol, trade_with_id}
use Rattle.brk_model.specs.Tables.{Tables, last_trade_row, last_status_of_trade, trade_row}
use Rattle.brk_model.specs.Joins.{trade_row_with_id}
use Rattle.brk_model.specs.Sheets.{sheets}
use Rattle.brk_model.specs.Commands.{Command, Reply, Tick, FeedTicks, CancelTrade, Ticked, CanceledTrade}
use Rattle.brk_model.specs.Feed.{base_after_ticks}
use Rattle.brk_model.specs.Tests.{RefusalCheck, checks_of_command, refusal_of_command, first_refusal, stamp_of_next_command, status_check}
use Rattle.brk_model.specs.Step.{reply_to_command, step, value_unless_refused}
use Rattle.brk_trade_rows.specs.Changes.{tables_with_last_stamp}
use Rattle.brk_trade_plans.specs.Reference.{later_stamp_check}
use Rattle.brk_trade_plans.proofs.Refusals.{first_joined, first_of}
use Rattle.brk_trade_books.specs.Books.{BooksInvariant}
use Rattle.brk_trade_books.specs.Steps.{base_after_command, HasTableEffect, IsAcceptedWithEffect, PreservesBooksInvariant}
use Rattle.brk_trade_books.specs.Trading.{tables_after_cancel, tables_after_feed, trade_ids_triggered_by_feed}
use Rattle.brk_trade_theorems.specs.TradeTests.{cancel_checks_on_trade_row, feed_checks_on_tables}
use Rattle.brk_trade_books.specs.Ticks.{is_symbol_volume_above_limit, is_tick_of_unknown_symbol}
use Rattle.brk_trade_books.proofs.Same.{All-map, any-none}
use Rattle.brk_trade_books.proofs.Reading.{is_none-map, reads_last}
use Rattle.brk_trade_books.proofs.TermReading.{reads_last_trade}
use Rattle.brk_trade_books.proofs.Stamps.{stamp_is}
use Rattle.brk_trade_books.proofs.Tested.{not_not}
use Rattle.brk_trade_theorems.proofs.Planning.{clock_read}
use Rattle.brk_trade_books.proofs.TradeReading.{reads_trade}
use Rattle.brk_trade_books.proofs.Volumes.{any-same, reads_exceeds}
use Rattle.brk_trade_books.proofs.Trades.{step_cancel, step_feed, step_triggered}
use Rattle.brk_trade_books.proofs.TradeKeepers.{books_cancel, books_feed}

-- ---- of any command

-- a refused command steps to its refusal
pub refused_step : (base : Base) (now : ℕ) (command : Command) (refusal : Refusal) → refusal_of_command base now command ≡ Some refusal → step base now command ≡ Err refusal
unfolding step
refused_step base now command refusal e = ap (λ o. value_unless_refused o (reply_to_command base (stamp_of_next_command base now) command, base_after_command base now command)) e

-- the stamp after the last one that was read is the next stamp
pub stamp_read : (base : Base) (last : Option ℕ) (now stamp : ℕ) → last ≡ (sheets base).last → stamp_after last now ≡ Some stamp → stamp ≡ stamp_of_next_command base now
stamp_read base last now stamp l e = stamp_is last now stamp e ∙ ap (λ o. unlimited_stamp_after o now) (l ∙ reads_last base)

-- an accepted command is done by a change that leads to its rows
pub is_done : (base : Base) (now : ℕ) (command : Command) (stamp : ℕ) (reply : Reply) (change : ℕ → Tables → Tables) → BooksInvariant base → refusal_of_command base now command ≡ None
    → stamp ≡ stamp_of_next_command base now → reply_to_command base (stamp_of_next_command base now) command ≡ reply
    → HasTableEffect base now command (change (stamp_of_next_command base now)) → PreservesBooksInvariant base now command
    → IsAcceptedWithEffect base now command stamp reply (change stamp)
unfolding step
is_done base now command stamp reply change books e s told rows kept = record {
  steps = ap (λ o. value_unless_refused o (reply_to_command base (stamp_of_next_command base now) command, base_after_command base now command)) e
      ∙ ap (λ reply. Ok (reply, base_after_command base now command)) told;
  rows = rows books e ∙ ap (λ stamp. tables_with_last_stamp stamp (change stamp (sheets base))) (sym s);
  books_after = kept books e;
}

-- a first test that fails
pub refused_first : (b c : Bool) (refusal : Refusal) (xs ys : List RefusalCheck) → b ≡ true → c ≡ true → first_refusal ((b, refusal) ∷ xs) ≡ first_refusal ((c, refusal) ∷ ys)
refused_first b c refusal xs ys e f = ap (λ b. first_refusal ((b, refusal) ∷ xs)) e ∙ sym (ap (λ c. first_refusal ((c, refusal) ∷ ys)) f)

-- what has no day is not too early
pub never_early : (ts : List RefusalCheck) (b : Bool) → first_refusal (ts ++ (b, ClockEnd) ∷ []) ≡ first_refusal (ts ++ (b, ClockEnd) ∷ (false, TooEarly) ∷ [])
never_early ts b =
    first_joined ts ((b, ClockEnd) ∷ []) ∙ ap (λ later. first_of (first_refusal ts) later) (same b) ∙ sym (first_joined ts ((b, ClockEnd) ∷ (false, TooEarly) ∷ []))
  where
    same : (b : Bool) → first_refusal ((b, ClockEnd) ∷ []) ≡ first_refusal ((b, ClockEnd) ∷ (false, TooEarly) ∷ [])
    same true = refl
    same false = refl

-- ---- a cancel

mark_status : (o : Option StatusChange) → is_same_trade_status (option_map_or (λ m. m.status) o Canceled) Pending ≡ option_map_or (λ m. is_same_trade_status m.status Pending) o false
mark_status None = refl
mark_status (Some m) = refl

same_tests : (o : Option Trade) (last : Option ℕ) (now : ℕ)
    → cancel_checks_on_trade_row (option_map trade_row o) last now ≡ option_map_or (λ t. status_check (has_last_status Pending t) t ∷ []) o ((true, NoTrade) ∷ []) ++ later_stamp_check last now ∷ []
same_tests None last now = refl
same_tests (Some t) last now = ap (λ b. (not b, WrongStatus (last_status_of_trade t)) ∷ later_stamp_check last now ∷ []) (mark_status (last_status_change t))

pub cancel_refusal : (base : Base) (now id : ℕ) → BooksInvariant base → now ≤ greatest_stamp
    → first_refusal (cancel_checks_on_trade_row (trade_row_with_id (sheets base) id) (sheets base).last now) ≡ refusal_of_command base now (CancelTrade id)
unfolding refusal_of_command checks_of_command
cancel_refusal base now id books h =
    let clock = clock_read base (sheets base).last now books refl h in
    ap (λ o. first_refusal (cancel_checks_on_trade_row o (sheets base).last now)) (reads_trade base id)
    ∙ ap first_refusal (same_tests (trade_with_id base id) (sheets base).last now)
    ∙ ap (λ b. first_refusal (option_map_or (λ t. status_check (has_last_status Pending t) t ∷ []) (trade_with_id base id) ((true, NoTrade) ∷ []) ++ (b, ClockEnd) ∷ [])) clock
    ∙ never_early (option_map_or (λ t. status_check (has_last_status Pending t) t ∷ []) (trade_with_id base id) ((true, NoTrade) ∷ [])) (nat_lt greatest_stamp (stamp_of_next_command base now))

pub cancel_done : (base : Base) (now id stamp : ℕ) → BooksInvariant base → now ≤ greatest_stamp
    → first_refusal (cancel_checks_on_trade_row (trade_row_with_id (sheets base) id) (sheets base).last now) ≡ None → stamp_after (sheets base).last now ≡ Some stamp
    → IsAcceptedWithEffect base now (CancelTrade id) stamp (CanceledTrade stamp) (tables_after_cancel stamp id)
unfolding reply_to_command
cancel_done base now id stamp books h e s =
    let next = stamp_read base (sheets base).last now stamp refl s in
    is_done base now (CancelTrade id) stamp (CanceledTrade stamp) (λ stamp. tables_after_cancel stamp id) books (sym (cancel_refusal base now id books h) ∙ e) next
    (ap CanceledTrade (sym next)) (step_cancel base now id) (books_cancel base now id)

-- ---- a feed

pub feed_refusal : (base : Base) (now : ℕ) (ticks : List Tick) → BooksInvariant base → now ≤ greatest_stamp
    → first_refusal (feed_checks_on_tables (sheets base) ticks (sheets base).last now) ≡ refusal_of_command base now (FeedTicks ticks)
unfolding refusal_of_command checks_of_command
feed_refusal base now ticks books h = by_unknown (list_any unknown ticks) refl
  where
    unknown : Tick → Bool
    unknown tick = is_none (security_with_symbol base tick.symbol)

    same : list_any (is_tick_of_unknown_symbol (sheets base)) ticks ≡ list_any unknown ticks
    same = any-same (is_tick_of_unknown_symbol (sheets base)) unknown ticks
        (λ tick. ap is_none (reads_last_trade base tick.symbol) ∙ is_none-map last_trade_row (security_with_symbol base tick.symbol))

    clock : is_none (stamp_after (sheets base).last now) ≡ nat_lt greatest_stamp (stamp_of_next_command base now)
    clock = clock_read base (sheets base).last now books refl h

    exceeds : Bool
    exceeds = list_any (λ s. nat_lt greatest_amount s.volume) (base_after_ticks (stamp_of_next_command base now) base ticks).securities

    by_unknown : (b : Bool) → list_any unknown ticks ≡ b → first_refusal (feed_checks_on_tables (sheets base) ticks (sheets base).last now)
        ≡ first_refusal ((list_any unknown ticks, NoSecurity) ∷ (exceeds, Range limit.Volume) ∷ (nat_lt greatest_stamp (stamp_of_next_command base now), ClockEnd) ∷ [])
    by_unknown true e =
        refused_first (list_any (is_tick_of_unknown_symbol (sheets base)) ticks) (list_any unknown ticks) NoSecurity
        ((list_any (is_symbol_volume_above_limit (sheets base) ticks) ticks, Range limit.Volume) ∷ later_stamp_check (sheets base).last now ∷ [])
        ((exceeds, Range limit.Volume) ∷ (nat_lt greatest_stamp (stamp_of_next_command base now), ClockEnd) ∷ []) (same ∙ e) e
    by_unknown false e =
        let known = All-map ticks (λ tick n. not_not (is_some (security_with_symbol base tick.symbol)) n) (any-none unknown ticks e) in
        let volumes = reads_exceeds base (stamp_of_next_command base now) ticks books known in
        λ i. first_refusal ((same i, NoSecurity) ∷ (volumes i, Range limit.Volume) ∷ (clock i, ClockEnd) ∷ [])

pub feed_done : (base : Base) (now : ℕ) (ticks : List Tick) (stamp : ℕ) → BooksInvariant base → now ≤ greatest_stamp
    → first_refusal (feed_checks_on_tables (sheets base) ticks (sheets base).last now) ≡ None → stamp_after (sheets base).last now ≡ Some stamp
    → IsAcceptedWithEffect base now (FeedTicks ticks) stamp (Ticked stamp (trade_ids_triggered_by_feed stamp ticks (sheets base))) (tables_after_feed stamp ticks)
unfolding reply_to_command
feed_done base now ticks stamp books h e s =
    let next = stamp_read base (sheets base).last now stamp refl s in
    let accepted : refusal_of_command base now (FeedTicks ticks) ≡ None = sym (feed_refusal base now ticks books h) ∙ e in
    is_done base now (FeedTicks ticks) stamp (Ticked stamp (trade_ids_triggered_by_feed stamp ticks (sheets base))) (λ stamp. tables_after_feed stamp ticks) books accepted next
    (ap (Ticked (stamp_of_next_command base now)) (step_triggered base now ticks books accepted) ∙ ap (λ stamp. Ticked stamp (trade_ids_triggered_by_feed stamp ticks (sheets base))) (sym next))
    (step_feed base now ticks) (books_feed base now ticks)
