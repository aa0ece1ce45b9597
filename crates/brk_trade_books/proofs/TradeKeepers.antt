-- An accepted order, cancel or feed preserves the books invariant.
use Rattle.std.proofs.Common.{◌≡◌, ℕ, ◌+◌, ◌==◌, false, List, [], ◌∷◌, Some, refl, sym, subst, length, arith}
use Rattle.std.specs.Prelude.{is_some, nat_lt}
use Rattle.std.specs.List.{AllByRecursion, list_any}
use Rattle.std.proofs.lemmas.Bool.{ltb-false}
use Rattle.brk_money.specs.OrderTypes.{trade_type_of_order_type}
use Rattle.brk_money.specs.declared.status.Status.TheVariants.{Completed, Submitted, Canceled}
use Rattle.brk_model.specs.Limits.{greatest_amount}
use Rattle.brk_model.specs.Records.{Security, Trade}
use Rattle.brk_model.specs.Base.{Base, account_with_id, completed_trades, security_with_symbol, trade_with_status_change, trade_with_id, base_with_updated_trades}
use Rattle.brk_model.specs.Commands.{Order, Tick, PlaceOrder, FeedTicks, CancelTrade}
use Rattle.brk_model.specs.Orders.{first_status, trade_of_order}
use Rattle.brk_model.specs.Feed.{is_triggered_by_tick, base_after_tick, base_after_ticks}
use Rattle.brk_model.specs.Tests.{checks_of_command, stamp_of_next_command}
use Rattle.brk_model.specs.Step.{base_after_command_unstamped}
use Rattle.brk_model.specs.Names.{AccountOfTradeExists, SecurityOfTradeExists}
use Rattle.brk_trade_books.specs.Books.{CompletionBooksInvariant, MovementBooksInvariant, AccountBooksInvariant, TradeBooksInvariant, HasDisjointBands}
use Rattle.brk_trade_books.specs.Books.{HasNoCompletionIfSubmitted, HasDistinctSymbols, HasOrderedBounds, HasVolumeWithinLimit, HasOneStatusChangeIfPending}
use Rattle.brk_trade_books.specs.Steps.{PreservesBooksInvariant}
use Rattle.brk_trade_books.proofs.Same.{All-append, All-map, any-none}
use Rattle.brk_trade_books.proofs.Places.{All-updated}
use Rattle.brk_trade_books.proofs.Numbering.{moved_way, numbered_more, numbered_updated, status_of_marked}
use Rattle.brk_trade_books.proofs.Completions.{completed_tick, completed_ticks, completed_unseen, completions_tick, first_mark, later_times, moved_elsewhere, named_waits}
use Rattle.brk_trade_books.proofs.MovementOrder.{movements_beside, movements_later}
use Rattle.brk_trade_books.proofs.Ordering.{first_not_completed, ordered_done}
use Rattle.brk_trade_books.proofs.Feeding.{Ready, ready_tick, known_after}
use Rattle.brk_trade_books.proofs.Tested.{passed, in_time, not_not}

-- ---- an order

next_number : (n : ℕ) → n + 1 ≡ 1 + n
next_number n = omega arith

pub books_order : (base : Base) (now : ℕ) (o : Order) → PreservesBooksInvariant base now (PlaceOrder o)
unfolding base_after_command_unstamped checks_of_command
books_order base now o k e =
    let p = passed base now (PlaceOrder o) e in
    let t : Trade = trade_of_order base (stamp_of_next_command base now) o in
    record {
      parties = k.parties;
      market = k.market;
      trades = record {
        accounts = All-append (AccountOfTradeExists base) base.trades (t ∷ []) k.accounts (not_not (is_some (account_with_id base o.account)) p.0, tt);
        securities = All-append (SecurityOfTradeExists base) base.trades (t ∷ []) k.securities (not_not (is_some (security_with_symbol base o.symbol)) p.1.0, tt);
        numbered = numbered_more 1 base.trades t (next_number (length base.trades)) k.numbered;
        ways = All-append HasOneStatusChangeIfPending base.trades (t ∷ []) k.ways ((λ waits. tt), tt);
        completions = All-append HasNoCompletionIfSubmitted base.trades (t ∷ []) k.completions (
          first_mark t (record { stamp = stamp_of_next_command base now; status = first_status (trade_type_of_order_type o.order_type) }) refl
              (first_not_completed (trade_type_of_order_type o.order_type)),
          tt,
        );
      };
      times = subst (CompletionBooksInvariant (Some (stamp_of_next_command base now))) (sym (ordered_done base (stamp_of_next_command base now) o))
          (later_times base now (in_time base now (PlaceOrder o) e) k.times);
      movements = movements_beside (sym (ordered_done base (stamp_of_next_command base now) o)) (movements_later base now k.movements);
    }

-- ---- a cancel

pub books_cancel : (base : Base) (now id : ℕ) → PreservesBooksInvariant base now (CancelTrade id)
unfolding base_after_command_unstamped checks_of_command
books_cancel base now id k e =
    let stamp : ℕ = stamp_of_next_command base now in
    let done : completed_trades (base_with_updated_trades (λ t. t.id == id) (trade_with_status_change stamp Canceled) base) ≡ completed_trades base =
    completed_unseen (λ t. t.id == id) (trade_with_status_change stamp Canceled) base.trades (λ t. status_of_marked stamp Canceled Completed t)
    (named_waits base id (trade_with_id base id) k.numbered refl (passed base now (CancelTrade id) e)) in
    record {
      parties = k.parties;
      market = k.market;
      trades = record {
        accounts = All-updated (AccountOfTradeExists base) (λ t. t.id == id) (trade_with_status_change stamp Canceled) base.trades (λ t h. h) k.accounts;
        securities = All-updated (SecurityOfTradeExists base) (λ t. t.id == id) (trade_with_status_change stamp Canceled) base.trades (λ t h. h) k.securities;
        numbered = numbered_updated 1 (λ t. t.id == id) (trade_with_status_change stamp Canceled) base.trades (λ t. refl) k.numbered;
        ways = All-updated HasOneStatusChangeIfPending (λ t. t.id == id) (trade_with_status_change stamp Canceled) base.trades (λ t h. moved_way stamp Canceled t refl) k.ways;
        completions = All-updated HasNoCompletionIfSubmitted (λ t. t.id == id) (trade_with_status_change stamp Canceled) base.trades (λ t h. moved_elsewhere stamp Canceled t refl) k.completions;
      };
      times = subst (CompletionBooksInvariant (Some stamp)) (sym done) (later_times base now (in_time base now (CancelTrade id) e) k.times);
      movements = movements_beside (sym done) (movements_later base now k.movements);
    }

-- ---- a feed: its volumes are tested at its end alone

-- in order but for the volumes
record Between (stamp : ℕ) (base : Base) : Type 0 where
  pub parties : AccountBooksInvariant base.brokers base.customers base.accounts base.permissions
  pub symbols : HasDistinctSymbols base.securities
  pub bands : AllByRecursion HasOrderedBounds base.bands
  pub apart : HasDisjointBands base.bands
  pub trades : TradeBooksInvariant base.accounts base.securities base.trades
  pub movements : MovementBooksInvariant base.accounts (Some stamp) (completed_trades base) base.movements

between_tick : (base : Base) (stamp : ℕ) (tick : Tick) → Between stamp base → Between stamp (base_after_tick stamp base tick)
between_tick base stamp tick k =
    let r : Ready (base_after_tick stamp base tick) = ready_tick base stamp tick (record { symbols = k.symbols; numbered = k.trades.numbered; ways = k.trades.ways }) in
    record {
      parties = k.parties;
      symbols = r.symbols;
      bands = k.bands;
      apart = k.apart;
      trades = record {
        accounts = All-updated (AccountOfTradeExists base) (is_triggered_by_tick tick) (trade_with_status_change stamp Submitted) base.trades (λ t h. h) k.trades.accounts;
        securities = All-updated (SecurityOfTradeExists (base_after_tick stamp base tick)) (is_triggered_by_tick tick) (trade_with_status_change stamp Submitted) base.trades (λ t h. h)
            (All-map base.trades (λ t h. known_after base stamp tick t.symbol h) k.trades.securities);
        numbered = r.numbered;
        ways = r.ways;
        completions = completions_tick stamp tick base.trades k.trades.ways k.trades.completions;
      };
      movements = movements_beside (sym (completed_tick base stamp tick)) k.movements;
    }

between_ticks : (base : Base) (stamp : ℕ) (ticks : List Tick) → Between stamp base → Between stamp (base_after_ticks stamp base ticks)
unfolding base_after_ticks
between_ticks base stamp [] k = k
between_ticks base stamp (tick ∷ ticks) k = between_ticks (base_after_tick stamp base tick) stamp ticks (between_tick base stamp tick k)

within_limit : (ss : List Security) → list_any (λ s. nat_lt greatest_amount s.volume) ss ≡ false → AllByRecursion HasVolumeWithinLimit ss
within_limit ss e = All-map ss (λ s h. ltb-false greatest_amount s.volume h) (any-none (λ s. nat_lt greatest_amount s.volume) ss e)

pub books_feed : (base : Base) (now : ℕ) (ticks : List Tick) → PreservesBooksInvariant base now (FeedTicks ticks)
unfolding base_after_command_unstamped checks_of_command
books_feed base now ticks k e =
    let p = passed base now (FeedTicks ticks) e in
    let after : Base = base_after_ticks (stamp_of_next_command base now) base ticks in
    let done : completed_trades after ≡ completed_trades base = completed_ticks base (stamp_of_next_command base now) ticks in
    let b : Between (stamp_of_next_command base now) after = between_ticks base (stamp_of_next_command base now) ticks
    (record { parties = k.parties; symbols = k.symbols; bands = k.bands; apart = k.apart; trades = k.trades; movements = movements_later base now k.movements }) in
    record {
      parties = b.parties;
      market = record { symbols = b.symbols; volumes = within_limit after.securities p.1.0; bands = b.bands; apart = b.apart };
      trades = b.trades;
      times = subst (CompletionBooksInvariant (Some (stamp_of_next_command base now))) (sym done) (later_times base now (in_time base now (FeedTicks ticks) e) k.times);
      movements = b.movements;
    }
