-- Orders, cancels and ticks do not change when trades were completed.
use Rattle.std.proofs.Common.{◌≡◌, ◌≤◌, ℕ, ◌+◌, ◌==◌, Bool, true, false, cond, max, List, [], ◌∷◌, refl, sym, ◌∙◌, ap, subst, filter, arith, Option, Some, None}
use Rattle.std.specs.Prelude.{◌&&◌, bytes_eq}
use Rattle.std.specs.List.{AllByRecursion}
use Rattle.std.specs.Option.{option_map_or}
use Rattle.std.proofs.lemmas.Bool.{eqb-true}
use Rattle.brk_money.specs.Kinds.{is_same_trade_status}
use Rattle.brk_money.specs.Moments.{greatest_stamp}
use Rattle.brk_money.specs.declared.status.Status.{Status}
use Rattle.brk_money.specs.declared.status.Status.TheVariants.{Completed, Active, Submitted, Pending, Canceled}
use Rattle.brk_model.specs.Lists.{update_where}
use Rattle.brk_model.specs.Records.{StatusChange, Trade}
use Rattle.brk_model.specs.Base.{Base, completed_trades, has_last_status, is_completed, trade_with_status_change, trade_with_id}
use Rattle.brk_model.specs.Commands.{Tick}
use Rattle.brk_model.specs.Feed.{is_triggered_by_tick, is_triggering_price, base_after_tick, base_after_ticks}
use Rattle.brk_model.specs.Tests.{stamp_of_next_command, status_check}
use Rattle.brk_money.specs.declared.refusal.Refusal.TheVariants.{NoTrade}
use Rattle.brk_model.specs.Names.{TradesAreNumberedFrom}
use Rattle.brk_trade_books.specs.Books.{CompletionBooksInvariant, HasNoCompletionIfSubmitted, TradeStampIsAtMostLastStamp, IsNotCompletion, HasOneStatusChange, HasOneStatusChangeIfPending}
use Rattle.brk_trade_books.proofs.Same.{All-append, All-map, All-of}
use Rattle.brk_trade_books.proofs.Places.{FoundAt, find-at}
use Rattle.brk_trade_books.proofs.Numbering.{numbered_after, pending_not_completed, status_of_marked}
use Rattle.brk_trade_books.proofs.Tested.{not_not}

-- ---- the last stamp moves on

early_then : (last : Option ℕ) (now : ℕ) (t : Trade) → TradeStampIsAtMostLastStamp last t → TradeStampIsAtMostLastStamp (Some (option_map_or (λ l. max now (l + 1)) last now)) t
early_then None now t e = absurd e
early_then (Some l) now t e = omega arith

pub later : (base : Base) (now : ℕ) → AllByRecursion (TradeStampIsAtMostLastStamp base.last) (completed_trades base)
    → AllByRecursion (TradeStampIsAtMostLastStamp (Some (stamp_of_next_command base now))) (completed_trades base)
later base now h = All-map (completed_trades base) (λ t e. early_then base.last now t e) h

-- moments stay in order where a stamp comes and no completion
pub later_times : (base : Base) (now : ℕ) → stamp_of_next_command base now ≤ greatest_stamp → CompletionBooksInvariant base.last (completed_trades base)
    → CompletionBooksInvariant (Some (stamp_of_next_command base now)) (completed_trades base)
later_times base now h k = record { early = later base now k.early; moments = k.moments; clock = h }

-- ---- trades that got another status, and were not completed before or after

pub completed_unseen : (p : Trade → Bool) (f : Trade → Trade) (ts : List Trade) → ((t : Trade) → is_completed (f t) ≡ false)
    → AllByRecursion (λ t. p t ≡ true → is_completed t ≡ false) ts → filter is_completed (update_where p f ts) ≡ filter is_completed ts
completed_unseen p f [] g h = refl
completed_unseen p f (t ∷ ts) g h = by_test (p t) refl ∙ ap (λ us. cond (is_completed t) (t ∷ us) us) (completed_unseen p f ts g h.1)
  where
    U : List Trade
    U = filter is_completed (update_where p f ts)

    by_test : (b : Bool) → p t ≡ b → filter is_completed (cond (p t) (f t) t ∷ update_where p f ts) ≡ cond (is_completed t) (t ∷ U) U
    by_test true e = ap (λ b. filter is_completed (cond b (f t) t ∷ update_where p f ts)) e ∙ ap (λ b. cond b (f t ∷ U) U) (g t) ∙ sym (ap (λ b. cond b (t ∷ U) U) (h.0 e))
    by_test false e = ap (λ b. filter is_completed (cond b (f t) t ∷ update_where p f ts)) e

-- ---- a trade at the market was never completed

-- one that gets another status than the market's is not there
pub moved_elsewhere : (stamp : ℕ) (status : Status) (t : Trade) → is_same_trade_status status Submitted ≡ false → HasNoCompletionIfSubmitted (trade_with_status_change stamp status t)
moved_elsewhere stamp status t s p = let k : has_last_status Submitted (trade_with_status_change stamp status t) ≡ false = status_of_marked stamp status Submitted t ∙ s in absurd (cc)

waiting_mark : (status : Status) → is_same_trade_status status Pending ≡ true → is_same_trade_status status Completed ≡ false
waiting_mark Completed e = cc
waiting_mark Active e = refl
waiting_mark Submitted e = refl
waiting_mark Pending e = refl
waiting_mark Canceled e = refl

-- nor was one that waited
pub moved_to_market : (stamp : ℕ) (t : Trade) → HasOneStatusChangeIfPending t → has_last_status Pending t ≡ true → HasNoCompletionIfSubmitted (trade_with_status_change stamp Submitted t)
moved_to_market stamp t w p s = All-append IsNotCompletion t.marks (record { stamp = stamp; status = Submitted } ∷ []) (one t.marks refl (w p)) (refl, tt)
  where
    one : (marks : List StatusChange) → t.marks ≡ marks → HasOneStatusChange marks → AllByRecursion IsNotCompletion t.marks
    one [] e o = absurd o
    one (m ∷ n ∷ ms) e o = absurd o
    one (m ∷ []) e o =
        let q : is_same_trade_status m.status Pending ≡ true = rw e at p in
        rw e (waiting_mark m.status q, tt)

-- a new trade, with one status
pub first_mark : (t : Trade) (m : StatusChange) → t.marks ≡ m ∷ [] → is_same_trade_status m.status Completed ≡ false → HasNoCompletionIfSubmitted t
first_mark t m e s p = rw e (s, tt)

-- ---- a cancel

-- an id of a trade that is not completed is of no completed one
pub named_open : (base : Base) (id : ℕ) (t : Trade) → TradesAreNumberedFrom 1 base.trades → trade_with_id base id ≡ Some t → is_completed t ≡ false
    → AllByRecursion (λ u. (u.id == id) ≡ true → is_completed u ≡ false) base.trades
named_open base id t n e w =
    let f : FoundAt Trade (λ u. u.id == id) t base.trades = find-at (λ u. u.id == id) base.trades t e in
    let same : t.id ≡ id = eqb-true t.id id f.passes in
    let behind = subst (λ m. AllByRecursion (λ u. (u.id == m) ≡ false) f.after) same (numbered_after 1 f.before t f.after (subst (TradesAreNumberedFrom 1) f.stands n)) in
    let others : (us : List Trade) → AllByRecursion (λ u. (u.id == id) ≡ false) us → AllByRecursion (λ u. (u.id == id) ≡ true → is_completed u ≡ false) us =
    λ us h. All-map us (λ u other same. false_true (u.id == id) other same) h in
    subst (AllByRecursion (λ u. (u.id == id) ≡ true → is_completed u ≡ false)) (sym f.stands)
    (All-append (λ u. (u.id == id) ≡ true → is_completed u ≡ false) f.before (t ∷ f.after) (others f.before f.others) ((λ same. w), others f.after behind))
  where
    false_true : {A : Type 0} (b : Bool) → b ≡ false → b ≡ true → A
    false_true b other same = absurd (cc)

-- the trade that a cancel names waits
pub named_waits : (base : Base) (id : ℕ) (o : Option Trade) → TradesAreNumberedFrom 1 base.trades → trade_with_id base id ≡ o
    → AllByRecursion (λ test. test.0 ≡ false) (option_map_or (λ t. status_check (has_last_status Pending t) t ∷ []) o ((true, NoTrade) ∷ []))
    → AllByRecursion (λ t. (t.id == id) ≡ true → is_completed t ≡ false) base.trades
named_waits base id None n e k = let h : true ≡ false = k.0 in absurd (cc)
named_waits base id (Some t) n e k = named_open base id t n e (pending_not_completed t (not_not (has_last_status Pending t) k.0))

-- ---- a feed

pub triggered_waits : (tick : Tick) (t : Trade) → is_triggered_by_tick tick t ≡ true → has_last_status Pending t ≡ true
triggered_waits tick t e = first (has_last_status Pending t) (bytes_eq t.symbol tick.symbol) (is_triggering_price t.kind t.bid tick.price) e
  where
    first : (a b c : Bool) → a && b && c ≡ true → a ≡ true
    first true b c e = refl
    first false b c e = e

pub completed_tick : (base : Base) (stamp : ℕ) (tick : Tick) → completed_trades (base_after_tick stamp base tick) ≡ completed_trades base
completed_tick base stamp tick =
    completed_unseen (is_triggered_by_tick tick) (trade_with_status_change stamp Submitted) base.trades (λ t. status_of_marked stamp Submitted Completed t)
    (All-of base.trades (λ t k. pending_not_completed t (triggered_waits tick t k)))

pub completed_ticks : (base : Base) (stamp : ℕ) (ticks : List Tick) → completed_trades (base_after_ticks stamp base ticks) ≡ completed_trades base
unfolding base_after_ticks
completed_ticks base stamp [] = refl
completed_ticks base stamp (tick ∷ ticks) = completed_ticks (base_after_tick stamp base tick) stamp ticks ∙ completed_tick base stamp tick

pub completions_tick : (stamp : ℕ) (tick : Tick) (ts : List Trade) → AllByRecursion HasOneStatusChangeIfPending ts → AllByRecursion HasNoCompletionIfSubmitted ts
    → AllByRecursion HasNoCompletionIfSubmitted (update_where (is_triggered_by_tick tick) (trade_with_status_change stamp Submitted) ts)
completions_tick stamp tick [] w h = tt
completions_tick stamp tick (t ∷ ts) w h = (by_test (is_triggered_by_tick tick t) refl, completions_tick stamp tick ts w.1 h.1)
  where
    by_test : (b : Bool) → is_triggered_by_tick tick t ≡ b → HasNoCompletionIfSubmitted (cond b (trade_with_status_change stamp Submitted t) t)
    by_test true e = moved_to_market stamp t w.0 (triggered_waits tick t e)
    by_test false e = h.0
