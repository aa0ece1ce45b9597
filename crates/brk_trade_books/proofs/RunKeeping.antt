-- Every accepted command and every run of calls preserves the books invariant.
use Rattle.std.proofs.Common.{◌≡◌, ◌≤◌, ℕ, ◌==◌, Bool, true, false, cond, List, [], ◌∷◌, refl, sym, subst, ◌∙◌, ap, filter, Option, Some, None}
use Rattle.std.specs.Prelude.{Result, Ok, Err}
use Rattle.std.specs.Option.{option_map_or}
use Rattle.std.specs.List.{AllByRecursion, last_or}
use Rattle.brk_money.specs.Kinds.{is_same_trade_status}
use Rattle.brk_money.specs.Spelling.{Text}
use Rattle.brk_money.specs.declared.refusal.Refusal.{Refusal}
use Rattle.brk_money.specs.declared.status.Status.{Status}
use Rattle.brk_money.specs.declared.status.Status.TheVariants.{Completed}
use Rattle.brk_model.specs.Base.{Base, has_last_status, is_completed, last_status_stamp_of_trade, base_with_updated_trades}
use Rattle.brk_model.specs.Commands.{AddAccount, AddBand, AddBroker, AddCharge, AddCustomer, AddCustomerTax, AddPermission, AddSecurity, AddTaxRate, Answer}
use Rattle.brk_model.specs.Commands.{CancelTrade, ChangeCashNames, ChangeCashTypes, ChangeExecutors, Command, CompleteTrade, FeedTicks, PlaceOrder, Reply}
use Rattle.brk_model.specs.Commands.{DepositCash, WithdrawCash, SetOneDay}
use Rattle.brk_model.specs.Keyed.{answer_and_base_of_step, base_with_stored_reply, stored_row_with_optional_key, answer_and_base_by_stored_row, keyed_step}
use Rattle.brk_model.specs.Lists.{contains_number, update_where}
use Rattle.brk_model.specs.Queries.{Query, View}
use Rattle.brk_model.specs.Records.{Key, Kept, Movement, Trade}
use Rattle.brk_model.specs.Run.{IsOutcomeOfCall, Ask, Call, Did, Do, Failed, IsResultOfQuery, NoView, Outcome, Run, Saw}
use Rattle.brk_model.specs.Step.{base_after_accepted_command, base_after_command_unstamped, reply_to_command, step, value_unless_refused}
use Rattle.brk_model.specs.Tests.{stamp_of_next_command, refusal_of_command}
use Rattle.brk_model.specs.Updates.{updated_cash_row_name, updated_cash_type, updated_executor_name, selected_trade_ids_of_account, selected_trade_ids_of_symbol}
use Rattle.brk_model.specs.Names.{AccountOfTradeExists, SecurityOfTradeExists}
use Rattle.brk_trade_books.specs.Books.{HasNoCompletionIfSubmitted, BooksInvariant, TradeStampIsAtMostLastStamp, HasLastStatusAtOtherStamp}
use Rattle.brk_trade_books.specs.Books.{HasDistinctLastStatusStamps, HasDistinctMovementStamps, HasOneStatusChangeIfPending}
use Rattle.brk_trade_books.specs.Steps.{PreservesBooksInvariant, base_after_command}
use Rattle.brk_trade_books.proofs.MovementOrder.{movements_later}
use Rattle.brk_trade_books.proofs.Completions.{later}
use Rattle.brk_trade_books.proofs.Keepers.{books_account, books_band, books_broker, books_charge, books_customer, books_customer_tax, books_kept, books_permission, books_security, books_tax_rate}
use Rattle.brk_trade_books.proofs.Movements.{books_deposit, books_one_day, books_withdrawal}
use Rattle.brk_trade_books.proofs.Numbering.{numbered_updated}
use Rattle.brk_trade_books.proofs.Places.{All-updated}
use Rattle.brk_trade_books.proofs.ResultKeeping.{books_result}
use Rattle.brk_trade_books.proofs.Tested.{in_time}
use Rattle.brk_trade_books.proofs.TradeKeepers.{books_cancel, books_feed, books_order}

-- ---- trades of which words are changed

-- a trade that names and did the same
pub record IsSame (t u : Trade) : Type 0 where
  pub id : u.id ≡ t.id
  pub account : u.account ≡ t.account
  pub symbol : u.symbol ≡ t.symbol
  pub marks : u.marks ≡ t.marks
  pub tax : u.tax ≡ t.tax

pub same_status_of : (status : Status) (t u : Trade) → IsSame t u → has_last_status status u ≡ has_last_status status t
same_status_of status t u s = ap (λ ms. option_map_or (λ m. is_same_trade_status m.status status) (last_or None ms) false) s.marks

same_moment : (t u : Trade) → IsSame t u → last_status_stamp_of_trade u ≡ last_status_stamp_of_trade t
same_moment t u s = ap (λ ms. option_map_or (λ m. m.stamp) (last_or None ms) 0) s.marks

itself : (t : Trade) → IsSame t t
itself t = record { id = refl; account = refl; symbol = refl; marks = refl; tax = refl }

changed_or : (p : Trade → Bool) (f : Trade → Trade) → ((t : Trade) → IsSame t (f t)) → (t : Trade) → IsSame t (cond (p t) (f t) t)
changed_or p f s t = by_test (p t)
  where
    by_test : (b : Bool) → IsSame t (cond b (f t) t)
    by_test true = s t
    by_test false = itself t

-- what holds of the completed ones holds of them after
done_changed : (P : Trade → Type 0) (p : Trade → Bool) (f : Trade → Trade) (ts : List Trade) → ((t : Trade) → IsSame t (f t)) → ((t u : Trade) → IsSame t u → P t → P u)
    → AllByRecursion P (filter is_completed ts) → AllByRecursion P (filter is_completed (update_where p f ts))
done_changed P p f [] s c h = tt
done_changed P p f (t ∷ ts) s c h =
    let k : IsSame t (cond (p t) (f t) t) = changed_or p f s t in
    subst (λ b. AllByRecursion P (cond b (cond (p t) (f t) t ∷ filter is_completed (update_where p f ts)) (filter is_completed (update_where p f ts))))
    (sym (same_status_of Completed t (cond (p t) (f t) t) k))
    (by_test (is_completed t) k h (done_changed P p f ts s c))
  where
    by_test : (b : Bool) → IsSame t (cond (p t) (f t) t) → AllByRecursion P (cond b (t ∷ filter is_completed ts) (filter is_completed ts))
        → (AllByRecursion P (filter is_completed ts) → AllByRecursion P (filter is_completed (update_where p f ts)))
        → AllByRecursion P (cond b (cond (p t) (f t) t ∷ filter is_completed (update_where p f ts)) (filter is_completed (update_where p f ts)))
    by_test true k h ih = (c t (cond (p t) (f t) t) k h.0, ih h.1)
    by_test false k h ih = ih h

early_same : (last : Option ℕ) (t u : Trade) → IsSame t u → TradeStampIsAtMostLastStamp last t → TradeStampIsAtMostLastStamp last u
early_same None t u s e = absurd e
early_same (Some l) t u s e = subst (λ (m : ℕ). m ≤ l) (sym (same_moment t u s)) e

moments_changed : (p : Trade → Bool) (f : Trade → Trade) (ts : List Trade) → ((t : Trade) → IsSame t (f t)) → HasDistinctLastStatusStamps (filter is_completed ts)
    → HasDistinctLastStatusStamps (filter is_completed (update_where p f ts))
moments_changed p f [] s m = tt
moments_changed p f (t ∷ ts) s m =
    let k : IsSame t (cond (p t) (f t) t) = changed_or p f s t in
    subst (λ b. HasDistinctLastStatusStamps
    (cond b (cond (p t) (f t) t ∷ filter is_completed (update_where p f ts)) (filter is_completed (update_where p f ts))))
    (sym (same_status_of Completed t (cond (p t) (f t) t) k))
    (by_test (is_completed t) k m (moments_changed p f ts s))
  where
    by_test : (b : Bool) → IsSame t (cond (p t) (f t) t) → HasDistinctLastStatusStamps (cond b (t ∷ filter is_completed ts) (filter is_completed ts))
        → (HasDistinctLastStatusStamps (filter is_completed ts) → HasDistinctLastStatusStamps (filter is_completed (update_where p f ts)))
        → HasDistinctLastStatusStamps (cond b (cond (p t) (f t) t ∷ filter is_completed (update_where p f ts)) (filter is_completed (update_where p f ts)))
    by_test true k m ih = (
      done_changed (λ v. (last_status_stamp_of_trade v == last_status_stamp_of_trade (cond (p t) (f t) t)) ≡ false) p f ts s
          (λ v w same e. ap (λ (n : ℕ). n == last_status_stamp_of_trade (cond (p t) (f t) t)) (same_moment v w same) ∙ e)
          (subst (λ (n : ℕ). AllByRecursion (λ v. (last_status_stamp_of_trade v == n) ≡ false) (filter is_completed ts)) (sym (same_moment t (cond (p t) (f t) t) k)) m.0),
      ih m.1,
    )
    by_test false k m ih = ih m

apart_changed : (p : Trade → Bool) (f : Trade → Trade) (ts : List Trade) → ((t : Trade) → IsSame t (f t)) → (ms : List Movement) → HasDistinctMovementStamps (filter is_completed ts) ms
    → HasDistinctMovementStamps (filter is_completed (update_where p f ts)) ms
apart_changed p f ts s [] h = tt
apart_changed p f ts s (m ∷ ms) h =
    (done_changed (HasLastStatusAtOtherStamp m.stamp) p f ts s (λ v w same e. ap (λ (n : ℕ). n == m.stamp) (same_moment v w same) ∙ e) h.0, h.1, apart_changed p f ts s ms h.2)

books_changed : (base : Base) (now : ℕ) (command : Command) (p : Trade → Bool) (f : Trade → Trade) → ((t : Trade) → IsSame t (f t)) → BooksInvariant base → refusal_of_command base now command ≡ None
    → BooksInvariant (record (base_with_updated_trades p f base) { last = Some (stamp_of_next_command base now) })
books_changed base now command p f s k e = record {
  parties = k.parties;
  market = k.market;
  trades = record {
    accounts = All-updated (AccountOfTradeExists base) p f base.trades (λ t h. subst (λ (a : ℕ). AccountOfTradeExists base (record t { account = a })) (sym (s t).account) h) k.accounts;
    securities = All-updated (SecurityOfTradeExists base) p f base.trades (λ t h. subst (λ (a : Text). SecurityOfTradeExists base (record t { symbol = a })) (sym (s t).symbol) h) k.securities;
    numbered = numbered_updated 1 p f base.trades (λ t. (s t).id) k.numbered;
    ways = All-updated HasOneStatusChangeIfPending p f base.trades (λ t h. subst (λ ms. HasOneStatusChangeIfPending (record t { marks = ms })) (sym (s t).marks) h) k.ways;
    completions = All-updated HasNoCompletionIfSubmitted p f base.trades (λ t h. subst (λ ms. HasNoCompletionIfSubmitted (record t { marks = ms })) (sym (s t).marks) h) k.completions;
  };
  times = record {
    early = done_changed (TradeStampIsAtMostLastStamp (Some (stamp_of_next_command base now))) p f base.trades s (early_same (Some (stamp_of_next_command base now))) (later base now k.early);
    moments = moments_changed p f base.trades s k.moments;
    clock = in_time base now command e;
  };
  movements = record {
    holders = k.movements.holders;
    early = (movements_later base now k.movements).early;
    apart = apart_changed p f base.trades s base.movements k.movements.apart;
  };
}

pub executor_same : (t : Trade) → IsSame t (record t { executor = updated_executor_name t.executor })
executor_same t = record { id = refl; account = refl; symbol = refl; marks = refl; tax = refl }

pub cash_type_same : (t : Trade) → IsSame t (record t { cash_type = updated_cash_type t })
cash_type_same t = record { id = refl; account = refl; symbol = refl; marks = refl; tax = refl }

pub cash_name_same : (base : Base) (t : Trade) → IsSame t (record t { cash_name = updated_cash_row_name base t })
cash_name_same base t = record { id = refl; account = refl; symbol = refl; marks = refl; tax = refl }

books_executors : (base : Base) (now : ℕ) (ids : List ℕ) → PreservesBooksInvariant base now (ChangeExecutors ids)
unfolding base_after_command_unstamped
books_executors base now ids k e =
    books_changed base now (ChangeExecutors ids) (λ t. contains_number t.id ids) (λ t. record t { executor = updated_executor_name t.executor }) executor_same k e

books_cash_types : (base : Base) (now account first last : ℕ) → PreservesBooksInvariant base now (ChangeCashTypes account first last)
unfolding base_after_command_unstamped
books_cash_types base now account first last k e =
    books_changed base now (ChangeCashTypes account first last) (λ t. contains_number t.id (selected_trade_ids_of_account base account first last))
    (λ t. record t { cash_type = updated_cash_type t }) cash_type_same k e

books_cash_names : (base : Base) (now : ℕ) (symbol : Text) (first last : ℕ) → PreservesBooksInvariant base now (ChangeCashNames symbol first last)
unfolding base_after_command_unstamped
books_cash_names base now symbol first last k e =
    books_changed base now (ChangeCashNames symbol first last) (λ t. contains_number t.id (selected_trade_ids_of_symbol base symbol first last))
    (λ t. record t { cash_name = updated_cash_row_name base t }) (cash_name_same base) k e

-- ---- every command

pub books_command : (base : Base) (now : ℕ) (command : Command) → PreservesBooksInvariant base now command
books_command base now (AddBroker b) = books_broker base now b
books_command base now (AddCustomer c) = books_customer base now c
books_command base now (AddAccount a) = books_account base now a
books_command base now (AddPermission p) = books_permission base now p
books_command base now (AddSecurity l) = books_security base now l
books_command base now (AddCharge c) = books_charge base now c
books_command base now (AddBand b) = books_band base now b
books_command base now (AddTaxRate r) = books_tax_rate base now r
books_command base now (AddCustomerTax x) = books_customer_tax base now x
books_command base now (PlaceOrder o) = books_order base now o
books_command base now (FeedTicks ticks) = books_feed base now ticks
books_command base now (CancelTrade id) = books_cancel base now id
books_command base now (CompleteTrade id price) = books_result base now id price
books_command base now (ChangeExecutors ids) = books_executors base now ids
books_command base now (ChangeCashTypes account first last) = books_cash_types base now account first last
books_command base now (ChangeCashNames symbol first last) = books_cash_names base now symbol first last
books_command base now (DepositCash account amount) = books_deposit base now account amount
books_command base now (WithdrawCash account amount) = books_withdrawal base now account amount
books_command base now (SetOneDay day) = books_one_day base now day

-- ---- a call

-- what holds of the base after each accepted command, where it holds before, holds of it after a
-- call
acted_keeps : (P : Base → Type 0) (base : Base) (now : ℕ) (command : Command) (key : Option Key) → ((after : Base) (reply : Reply) → P after → P (base_with_stored_reply key command reply after))
    → P base → (refusal_of_command base now command ≡ None → P (base_after_command base now command)) → P (answer_and_base_of_step base key command (step base now command)).1
unfolding step
acted_keeps P base now command key kept h after = by_refusal (refusal_of_command base now command) refl
  where
    by_refusal : (o : Option Refusal) → refusal_of_command base now command ≡ o
        → P (answer_and_base_of_step base key command
        (value_unless_refused (refusal_of_command base now command)
        (reply_to_command base (stamp_of_next_command base now) command, base_after_accepted_command base (stamp_of_next_command base now) command))).1
    by_refusal None e =
        subst (λ o. P (answer_and_base_of_step base key command
        (value_unless_refused o
        (reply_to_command base (stamp_of_next_command base now) command, base_after_accepted_command base (stamp_of_next_command base now) command))).1)
        (sym e)
        (kept (base_after_command base now command) (reply_to_command base (stamp_of_next_command base now) command) (after e))
    by_refusal (Some refusal) e =
        subst (λ o. P (answer_and_base_of_step base key command
        (value_unless_refused o
        (reply_to_command base (stamp_of_next_command base now) command, base_after_accepted_command base (stamp_of_next_command base now) command))).1)
        (sym e) h

pub call_keeps : (P : Base → Type 0) → ((base : Base) (key : Option Key) (command : Command) (reply : Reply) → P base → P (base_with_stored_reply key command reply base))
    → ((base : Base) (now : ℕ) (command : Command) → P base → refusal_of_command base now command ≡ None → P (base_after_command base now command))
    → (base : Base) (now : ℕ) (command : Command) (key : Option Key) → P base → P (keyed_step base now command key).1
unfolding keyed_step
call_keeps P kept step_keeps base now command key h = by_kept (stored_row_with_optional_key base key)
  where
    by_kept : (o : Option Kept) → P (answer_and_base_by_stored_row base now command key o).1
    by_kept (Some k) = h
    by_kept None = acted_keeps P base now command key (λ after reply. kept after key command reply) h (step_keeps base now command h)

pub run_keeps : (P : Base → Type 0) → ((base : Base) (key : Option Key) (command : Command) (reply : Reply) → P base → P (base_with_stored_reply key command reply base))
    → ((base : Base) (now : ℕ) (command : Command) → P base → refusal_of_command base now command ≡ None → P (base_after_command base now command))
    → (base : Base) (calls : List (ℕ × Call)) (outcomes : List Outcome) (after : Base) → Run base calls outcomes after → P base → P after
run_keeps P kept step_keeps base [] [] after r h = subst P (sym r) h
run_keeps P kept step_keeps base [] (outcome ∷ outcomes) after r h = absurd r
run_keeps P kept step_keeps base (call ∷ calls) [] after r h = absurd r
run_keeps P kept step_keeps base (call ∷ calls) (outcome ∷ outcomes) after r h =
    run_keeps P kept step_keeps r.0 calls outcomes after r.2 (answered call.1 outcome r.1)
  where
    seen : (query : Query) (view : Result View Refusal) → IsResultOfQuery base (Ask query) view r.0 → P r.0
    seen query view k = subst P (sym k.1) h

    answered : (c : Call) (o : Outcome) → IsOutcomeOfCall base call.0 c o r.0 → P r.0
    answered (Do command key) (Did answer) k = subst P (ap (λ (x : Answer × Base). x.1) k) (call_keeps P kept step_keeps base call.0 command key h)
    answered (Ask query) (Did answer) k = absurd k
    answered (Do command key) (Saw view) k = absurd k
    answered (Ask query) (Saw view) k = seen query (Ok view) k
    answered (Do command key) (NoView refusal) k = absurd k
    answered (Ask query) (NoView refusal) k = seen query (Err refusal) k
    answered c (Failed fault) k = subst P (sym k.1) h

pub run_books : (base : Base) (calls : List (ℕ × Call)) (outcomes : List Outcome) (after : Base) → BooksInvariant base → Run base calls outcomes after → BooksInvariant after
run_books base calls outcomes after k r = run_keeps BooksInvariant (λ base key command reply k. books_kept base key command reply k) books_keep base calls outcomes after r k
  where
    books_keep : (base : Base) (now : ℕ) (command : Command) → BooksInvariant base → refusal_of_command base now command ≡ None → BooksInvariant (base_after_command base now command)
    books_keep base now command k e = books_command base now command k e
