-- Accepted commands change no account, no movement up to a stamp, and of a trade that was completed
-- up to it no column but its executor, its cash type and its cash name.
use Rattle.std.proofs.Common.{◌≡◌, ◌≤◌, ◌<◌, ℕ, ◌+◌, ◌==◌, ◌&&◌, max, Bool, true, false, cond, List, [], ◌∷◌, ◌++◌, Option, Some, None, refl, sym, ◌∙◌, ap, subst, map, filter, arith}
use Rattle.std.specs.Prelude.{nat_le, nat_lt}
use Rattle.std.specs.Option.{option_map_or}
use Rattle.std.specs.List.{AllByRecursion}
use Rattle.std.proofs.lemmas.Bool.Decides.{nat_tests}
use Rattle.brk_money.specs.declared.status.Status.TheVariants.{Canceled, Completed}
use Rattle.brk_model.specs.Base.{Base, completed_trades, is_completed, trade_with_status_change, last_status_stamp_of_trade, trade_with_id}
use Rattle.brk_model.specs.Commands.{AddAccount, AddBand, AddBroker, AddCharge, AddCustomer, AddCustomerTax, AddPermission, AddSecurity, AddTaxRate}
use Rattle.brk_model.specs.Commands.{CancelTrade, ChangeCashNames, ChangeCashTypes, ChangeExecutors, Command, CompleteTrade, DepositCash, FeedTicks, PlaceOrder}
use Rattle.brk_model.specs.Commands.{Reply, SetOneDay, Tick, WithdrawCash}
use Rattle.brk_model.specs.Feed.{base_after_tick, base_after_ticks}
use Rattle.brk_model.specs.Keyed.{base_with_stored_reply}
use Rattle.brk_model.specs.Lists.{contains_number, update_where}
use Rattle.brk_model.specs.Movements.{deposit_movement, withdrawal_movement}
use Rattle.brk_model.specs.Derived.{due_day}
use Rattle.brk_model.specs.Records.{Account, Key, Movement, SettleRule, Trade}
use Rattle.brk_model.specs.Results.{trade_after_completion, base_after_result}
use Rattle.brk_model.specs.Run.{Call, Outcome, Run}
use Rattle.brk_model.specs.Step.{base_after_command_unstamped}
use Rattle.brk_model.specs.Tests.{stamp_of_next_command, refusal_of_command, checks_of_command}
use Rattle.brk_model.specs.Updates.{updated_cash_row_name, updated_cash_type, updated_executor_name, selected_trade_ids_of_account, selected_trade_ids_of_symbol}
use Rattle.brk_view_theorems.specs.Before.{trades_completed_before_stamp}
use Rattle.brk_trade_books.specs.Books.{BooksInvariant}
use Rattle.brk_trade_books.specs.Steps.{base_after_command}
use Rattle.brk_trade_books.proofs.Completions.{completed_ticks, completed_unseen, named_waits}
use Rattle.brk_trade_books.proofs.Keepers.{books_kept}
use Rattle.brk_trade_books.proofs.LotOrder.{both_hold}
use Rattle.brk_trade_books.proofs.LotReading.{filter-both, filter-map}
use Rattle.brk_trade_books.proofs.Movements.{due_days_stay}
use Rattle.brk_trade_books.proofs.Numbering.{status_of_marked}
use Rattle.brk_trade_books.proofs.Order.{append_nil}
use Rattle.brk_trade_books.proofs.Ordering.{ordered_done}
use Rattle.brk_trade_books.proofs.Places.{append_assoc, filter-append, filter-not_one}
use Rattle.brk_trade_books.proofs.ResultKeeping.{Found, found_at, result_named, submitted}
use Rattle.brk_trade_books.proofs.ResultRows.{done_now, done_then, moment_then}
use Rattle.brk_trade_books.proofs.RunKeeping.{books_command, run_keeps}
use Rattle.brk_trade_books.proofs.Same.{All-filter, All-map, All-mapped, All-of}
use Rattle.brk_trade_books.proofs.Tested.{passed}

-- ---- what is kept

-- the trade without its words
abbrev pub core : Trade → Trade
core t = record t { executor = []; cash_type = []; cash_name = [] }

-- the trades that were completed by the stamp
abbrev pub done_by : Base → ℕ → List Trade
done_by base s = map core (filter (λ t. nat_le (last_status_stamp_of_trade t) s) (completed_trades base))

-- the movements by the stamp
abbrev pub moved_by : Base → ℕ → List Movement
moved_by base s = filter (λ m. nat_le m.stamp s) base.movements

pub record Keeps (s : ℕ) (base later : Base) : Type 0 where
  pub more : List Account
  pub accounts : later.accounts ≡ base.accounts ++ more
  pub done : done_by later s ≡ done_by base s
  pub moved : moved_by later s ≡ moved_by base s
  pub due : AllByRecursion (λ t. due_day later.rule t ≡ due_day base.rule t) (done_by base s)

-- the stamp is at most the last one
abbrev pub IsPast : Option ℕ → ℕ → Type 0
IsPast None s = ⊥
IsPast (Some last) s = s ≤ last

same_rule : (s : ℕ) (base : Base) (rule : SettleRule) → rule ≡ base.rule → AllByRecursion (λ t. due_day rule t ≡ due_day base.rule t) (done_by base s)
same_rule s base rule e = All-of (done_by base s) (λ t. ap (λ (r : SettleRule). due_day r t) e)

pub keeps_itself : (s : ℕ) (base : Base) → Keeps s base base
keeps_itself s base = record { more = []; accounts = sym (append_nil base.accounts); done = refl; moved = refl; due = same_rule s base base.rule refl }

pub keeps_through : (s : ℕ) (base mid later : Base) → Keeps s base mid → Keeps s mid later → Keeps s base later
keeps_through s base mid later k h = record {
  more = k.more ++ h.more;
  accounts = h.accounts ∙ ap (λ xs. xs ++ h.more) k.accounts ∙ append_assoc base.accounts k.more h.more;
  done = h.done ∙ k.done;
  moved = h.moved ∙ k.moved;
  due = All-map (done_by base s) (λ t p. p.0 ∙ p.1)
      (both_hold (λ t. due_day later.rule t ≡ due_day mid.rule t) (λ t. due_day mid.rule t ≡ due_day base.rule t) (done_by base s)
      (subst (AllByRecursion (λ t. due_day later.rule t ≡ due_day mid.rule t)) k.done h.due) k.due);
}

-- ---- a stamp that comes

next_after : (last : Option ℕ) (now s : ℕ) → IsPast last s → s < option_map_or (λ l. max now (l + 1)) last now
next_after None now s h = absurd h
next_after (Some l) now s h = omega (arith, h)

pub past_then : (base : Base) (now s : ℕ) → IsPast base.last s → IsPast (Some (stamp_of_next_command base now)) s
past_then base now s h = below s (stamp_of_next_command base now) (next_after base.last now s h)
  where
    below : (m n : ℕ) → m < n → m ≤ n
    below m n h = omega (arith, h)

not_by : (m n : ℕ) → m < n → nat_le n m ≡ false
not_by m n h = grind (arith, nat_tests)

-- ---- commands that complete nothing

same_done : (s : ℕ) (base later : Base) → later.accounts ≡ base.accounts → completed_trades later ≡ completed_trades base → later.movements ≡ base.movements
    → later.rule ≡ base.rule → Keeps s base later
same_done s base later a e m r = record {
  more = [];
  accounts = a ∙ sym (append_nil base.accounts);
  done = ap (λ ts. map core (filter (λ t. nat_le (last_status_stamp_of_trade t) s) ts)) e;
  moved = ap (filter (λ m. nat_le m.stamp s)) m;
  due = same_rule s base later.rule r;
}

ticks_accounts : (base : Base) (stamp : ℕ) (ticks : List Tick) → (base_after_ticks stamp base ticks).accounts ≡ base.accounts
unfolding base_after_ticks
ticks_accounts base stamp [] = refl
ticks_accounts base stamp (tick ∷ ticks) = ticks_accounts (base_after_tick stamp base tick) stamp ticks

ticks_movements : (base : Base) (stamp : ℕ) (ticks : List Tick) → (base_after_ticks stamp base ticks).movements ≡ base.movements
unfolding base_after_ticks
ticks_movements base stamp [] = refl
ticks_movements base stamp (tick ∷ ticks) = ticks_movements (base_after_tick stamp base tick) stamp ticks

ticks_rule : (base : Base) (stamp : ℕ) (ticks : List Tick) → (base_after_ticks stamp base ticks).rule ≡ base.rule
unfolding base_after_ticks
ticks_rule base stamp [] = refl
ticks_rule base stamp (tick ∷ ticks) = ticks_rule (base_after_tick stamp base tick) stamp ticks

keeps_feed : (s : ℕ) (base : Base) (now : ℕ) (ticks : List Tick) → Keeps s base (base_after_command base now (FeedTicks ticks))
unfolding base_after_command_unstamped
keeps_feed s base now ticks =
    same_done s base (base_after_command base now (FeedTicks ticks)) (ticks_accounts base (stamp_of_next_command base now) ticks)
    (completed_ticks base (stamp_of_next_command base now) ticks) (ticks_movements base (stamp_of_next_command base now) ticks)
    (ticks_rule base (stamp_of_next_command base now) ticks)

keeps_cancel : (s : ℕ) (base : Base) (now id : ℕ) → BooksInvariant base → refusal_of_command base now (CancelTrade id) ≡ None → Keeps s base (base_after_command base now (CancelTrade id))
unfolding base_after_command_unstamped checks_of_command
keeps_cancel s base now id books e =
    same_done s base (base_after_command base now (CancelTrade id)) refl
    (completed_unseen (λ t. t.id == id) (trade_with_status_change (stamp_of_next_command base now) Canceled) base.trades (λ t. status_of_marked (stamp_of_next_command base now) Canceled Completed t)
    (named_waits base id (trade_with_id base id) books.numbered refl (passed base now (CancelTrade id) e)))
    refl refl

-- ---- a completion, and a movement

keeps_result : (s : ℕ) (base : Base) (now id price : ℕ) → BooksInvariant base → IsPast base.last s → refusal_of_command base now (CompleteTrade id price) ≡ None
    → Keeps s base (base_after_command base now (CompleteTrade id price))
unfolding base_after_command_unstamped
keeps_result s base now id price books past e =
    let stamp : ℕ = stamp_of_next_command base now in
    let t = result_named base now id price e in
    let f : Found base now price t.0 = found_at base now id price t.0 books t.1 (submitted base now id price t.0 t.1 e) in
    let A : List Trade = filter is_completed f.front in
    let Z : List Trade = filter is_completed f.back in
    let u : Trade = trade_after_completion base stamp price t.0 in
    let E : Trade → Bool = λ v. nat_le (last_status_stamp_of_trade v) s in
    let out : E u ≡ false = ap (λ (n : ℕ). nat_le n s) (moment_then base stamp price t.0) ∙ not_by s stamp (next_after base.last now s past) in
    let same : done_by (base_after_result base stamp price t.0) s ≡ done_by base s =
    ap (λ ts. map core (filter E ts)) (done_then base stamp price t.0 f.front f.back f.result)
    ∙ ap (map core) (filter-not_one E A u Z out ∙ sym (filter-append E A Z)) ∙ ap (λ ts. map core (filter E ts)) (sym (done_now base stamp price t.0 f.front f.back f.result)) in
    subst (λ o. Keeps s base (record (option_map_or (base_after_result base stamp price) o base) { last = Some stamp })) (sym t.1)
    (record { more = []; accounts = sym (append_nil base.accounts); done = same; moved = refl; due = same_rule s base base.rule refl })

keeps_moved : (s : ℕ) (base : Base) (now : ℕ) (m : Movement) (later : Base) → IsPast base.last s → m.stamp ≡ stamp_of_next_command base now
    → later.accounts ≡ base.accounts → completed_trades later ≡ completed_trades base
    → later.movements ≡ base.movements ++ m ∷ [] → later.rule ≡ base.rule → Keeps s base later
keeps_moved s base now m later past e a d moved r = record {
  more = [];
  accounts = a ∙ sym (append_nil base.accounts);
  done = ap (λ ts. map core (filter (λ t. nat_le (last_status_stamp_of_trade t) s) ts)) d;
  moved = ap (filter B) moved
      ∙ filter-not_one B base.movements m [] (ap (λ (n : ℕ). nat_le n s) e ∙ not_by s (stamp_of_next_command base now) (next_after base.last now s past))
      ∙ append_nil (filter B base.movements);
  due = same_rule s base later.rule r;
}
  where
    B : Movement → Bool
    B n = nat_le n.stamp s

-- ---- changed words

by_core : (s : ℕ) (p : Trade → Bool) (f : Trade → Trade) (ts : List Trade) → ((t : Trade) → core (f t) ≡ core t)
    → map core (filter (λ t. is_completed t && nat_le (last_status_stamp_of_trade t) s) (update_where p f ts)) ≡ map core (filter (λ t. is_completed t && nat_le (last_status_stamp_of_trade t) s) ts)
by_core s p f [] h = refl
by_core s p f (t ∷ ts) h =
    ap (λ b. map core (cond b (u ∷ U) U)) (ap E same) ∙ put (E t) (by_core s p f ts h)
  where
    E : Trade → Bool
    E v = is_completed v && nat_le (last_status_stamp_of_trade v) s

    u : Trade
    u = cond (p t) (f t) t

    U : List Trade
    U = filter E (update_where p f ts)

    chosen : (b : Bool) → core (cond b (f t) t) ≡ core t
    chosen true = h t
    chosen false = refl

    same : core u ≡ core t
    same = chosen (p t)

    put : (b : Bool) → map core U ≡ map core (filter E ts) → map core (cond b (u ∷ U) U) ≡ map core (cond b (t ∷ filter E ts) (filter E ts))
    put true ih = λ i. same i ∷ ih i
    put false ih = ih

keeps_words : (s : ℕ) (base : Base) (p : Trade → Bool) (f : Trade → Trade) (later : Base) → ((t : Trade) → core (f t) ≡ core t) → later.accounts ≡ base.accounts
    → later.trades ≡ update_where p f base.trades → later.movements ≡ base.movements → later.rule ≡ base.rule → Keeps s base later
keeps_words s base p f later h a e m r = record {
  more = [];
  accounts = a ∙ sym (append_nil base.accounts);
  done = ap (map core) (sym (filter-both is_completed E later.trades)) ∙ ap (λ ts. map core (filter (λ t. is_completed t && E t) ts)) e
      ∙ by_core s p f base.trades h ∙ ap (map core) (filter-both is_completed E base.trades);
  moved = ap (filter (λ m. nat_le m.stamp s)) m;
  due = same_rule s base later.rule r;
}
  where
    E : Trade → Bool
    E t = nat_le (last_status_stamp_of_trade t) s

-- ---- every command

same_base : (s : ℕ) (base later : Base) → later.accounts ≡ base.accounts → later.trades ≡ base.trades → later.movements ≡ base.movements → later.rule ≡ base.rule → Keeps s base later
same_base s base later a t m r = same_done s base later a (ap (filter is_completed) t) m r

-- a first day of one-day settlement changes none that was due
keeps_one_day : (s : ℕ) (base : Base) (now day : ℕ) → BooksInvariant base → refusal_of_command base now (SetOneDay day) ≡ None → Keeps s base (base_after_command base now (SetOneDay day))
unfolding base_after_command_unstamped
keeps_one_day s base now day books e = record {
  more = [];
  accounts = sym (append_nil base.accounts);
  done = refl;
  moved = refl;
  due = All-mapped (λ t. due_day (Some day) t ≡ due_day base.rule t) core (filter (λ t. nat_le (last_status_stamp_of_trade t) s) (completed_trades base))
      (All-filter (λ t. due_day (Some day) t ≡ due_day base.rule t) (λ t. nat_le (last_status_stamp_of_trade t) s) (completed_trades base) (due_days_stay base now day books e));
}

pub keeps_command : (s : ℕ) (base : Base) (now : ℕ) (command : Command) → BooksInvariant base → IsPast base.last s → refusal_of_command base now command ≡ None
    → Keeps s base (base_after_command base now command)
unfolding base_after_command_unstamped
keeps_command s base now (AddBroker b) books past e = same_base s base (base_after_command base now (AddBroker b)) refl refl refl refl
keeps_command s base now (AddCustomer c) books past e = same_base s base (base_after_command base now (AddCustomer c)) refl refl refl refl
keeps_command s base now (AddAccount a) books past e = record { more = a ∷ []; accounts = refl; done = refl; moved = refl; due = same_rule s base base.rule refl }
keeps_command s base now (AddPermission p) books past e = same_base s base (base_after_command base now (AddPermission p)) refl refl refl refl
keeps_command s base now (AddSecurity l) books past e = same_base s base (base_after_command base now (AddSecurity l)) refl refl refl refl
keeps_command s base now (AddCharge c) books past e = same_base s base (base_after_command base now (AddCharge c)) refl refl refl refl
keeps_command s base now (AddBand b) books past e = same_base s base (base_after_command base now (AddBand b)) refl refl refl refl
keeps_command s base now (AddTaxRate r) books past e = same_base s base (base_after_command base now (AddTaxRate r)) refl refl refl refl
keeps_command s base now (AddCustomerTax x) books past e = same_base s base (base_after_command base now (AddCustomerTax x)) refl refl refl refl
keeps_command s base now (PlaceOrder o) books past e = same_done s base (base_after_command base now (PlaceOrder o)) refl (ordered_done base (stamp_of_next_command base now) o) refl refl
keeps_command s base now (FeedTicks ticks) books past e = keeps_feed s base now ticks
keeps_command s base now (CancelTrade id) books past e = keeps_cancel s base now id books e
keeps_command s base now (CompleteTrade id price) books past e = keeps_result s base now id price books past e
keeps_command s base now (ChangeExecutors ids) books past e =
    keeps_words s base (λ t. contains_number t.id ids) (λ t. record t { executor = updated_executor_name t.executor })
    (base_after_command base now (ChangeExecutors ids)) (λ t. refl) refl refl refl refl
keeps_command s base now (ChangeCashTypes account first last) books past e =
    keeps_words s base (λ t. contains_number t.id (selected_trade_ids_of_account base account first last)) (λ t. record t { cash_type = updated_cash_type t })
    (base_after_command base now (ChangeCashTypes account first last)) (λ t. refl) refl refl refl refl
keeps_command s base now (ChangeCashNames symbol first last) books past e =
    keeps_words s base (λ t. contains_number t.id (selected_trade_ids_of_symbol base symbol first last))
    (λ t. record t { cash_name = updated_cash_row_name base t }) (base_after_command base now (ChangeCashNames symbol first last)) (λ t. refl) refl refl
    refl refl
keeps_command s base now (DepositCash account amount) books past e =
    keeps_moved s base now (deposit_movement (stamp_of_next_command base now) account amount) (base_after_command base now (DepositCash account amount)) past
    refl refl refl refl refl
keeps_command s base now (WithdrawCash account amount) books past e =
    keeps_moved s base now (withdrawal_movement (stamp_of_next_command base now) account amount) (base_after_command base now (WithdrawCash account amount))
    past refl refl refl refl refl
keeps_command s base now (SetOneDay day) books past e = keeps_one_day s base now day books e

-- ---- every run

-- what a run leaves of a base: it is in order, the stamp is past, and all by the stamp is kept
record Left (s : ℕ) (base later : Base) : Type 0 where
  books : BooksInvariant later
  past : IsPast later.last s
  kept : Keeps s base later

pub keeps_run : (s : ℕ) (base : Base) (calls : List (ℕ × Call)) (outcomes : List Outcome) (later : Base) → BooksInvariant base → IsPast base.last s → Run base calls outcomes later → Keeps s base later
keeps_run s base calls outcomes later books past r =
    let l : Left s base later = run_keeps (Left s base) kept after base calls outcomes later r (record { books = books; past = past; kept = keeps_itself s base }) in l.kept
  where
    kept : (mid : Base) (key : Option Key) (command : Command) (reply : Reply) → Left s base mid → Left s base (base_with_stored_reply key command reply mid)
    kept mid key command reply k = by_key key
      where
        by_key : (o : Option Key) → Left s base (base_with_stored_reply o command reply mid)
        by_key None = k
        by_key (Some key) = record {
          books = books_kept mid (Some key) command reply k.books;
          past = k.past;
          kept =
              record { more = k.kept.more; accounts = k.kept.accounts; done = k.kept.done; moved = k.kept.moved; due = k.kept.due };
        }

    after : (mid : Base) (now : ℕ) (command : Command) → Left s base mid → refusal_of_command mid now command ≡ None → Left s base (base_after_command mid now command)
    after mid now command k e = record {
      books = books_command mid now command k.books e;
      past = past_then mid now s k.past;
      kept = keeps_through s base mid (base_after_command mid now command) k.kept (keeps_command s mid now command k.books k.past e);
    }

-- ---- before a stamp

pub implied : {X : Type 0} (p q : X → Bool) (xs : List X) → ((x : X) → p x ≡ true → q x ≡ true) → filter p (filter q xs) ≡ filter p xs
implied p q [] h = refl
implied {X = X} p q (x ∷ xs) h = by_test (q x) (p x) refl refl (implied p q xs h)
  where
    by_test : (b c : Bool) → q x ≡ b → p x ≡ c → filter p (filter q xs) ≡ filter p xs → filter p (cond b (x ∷ filter q xs) (filter q xs)) ≡ cond c (x ∷ filter p xs) (filter p xs)
    by_test true c e g ih = (λ i. cond (g i) (x ∷ ih i) (ih i))
    by_test false true e g ih = let k : true ≡ false = sym (h x g) ∙ e in absurd (cc)
    by_test false false e g ih = ih

below : (m n : ℕ) → nat_lt m n ≡ true → nat_le m n ≡ true
below m n e = grind (arith, nat_tests)

pub before_core : (base : Base) (s : ℕ) → map core (trades_completed_before_stamp base s) ≡ filter (λ t. nat_lt (last_status_stamp_of_trade t) s) (done_by base s)
before_core base s =
    ap (map core) (sym (implied (λ t. nat_lt (last_status_stamp_of_trade t) s) (λ t. nat_le (last_status_stamp_of_trade t) s) (completed_trades base)
    (λ t e. below (last_status_stamp_of_trade t) s e)))
    ∙ sym (filter-map (λ t. nat_lt (last_status_stamp_of_trade t) s) core (filter (λ t. nat_le (last_status_stamp_of_trade t) s) (completed_trades base)))
