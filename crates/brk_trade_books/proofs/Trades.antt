-- The rows after an accepted order, cancel or feed.
use Rattle.std.proofs.Common.{◌≡◌, ℕ, ◌==◌, true, false, not, List, [], ◌∷◌, refl, ◌∙◌, ap, Option, Some, None}
use Rattle.std.specs.Prelude.{is_some}
use Rattle.std.specs.Option.{option_map_or}
use Rattle.std.specs.List.{AllByRecursion}
use Rattle.brk_money.specs.OrderTypes.{trade_type_of_order_type}
use Rattle.brk_money.specs.Kinds.{is_market_type}
use Rattle.brk_money.specs.declared.refusal.Refusal.TheVariants.{NoTrade}
use Rattle.brk_money.specs.declared.status.Status.TheVariants.{Pending, Canceled}
use Rattle.brk_model.specs.Records.{Trade}
use Rattle.brk_model.specs.Base.{Base, broker_id_of_account, has_last_status, trade_with_status_change, security_with_symbol, trade_with_id, base_with_updated_trades}
use Rattle.brk_model.specs.Derived.{shares_of_position, holding_summary_quantity, balance_of_account, trade_count_of_broker, commission_total_of_broker}
use Rattle.brk_model.specs.Tables.{Tables, tables_of_base_in_schema, trade_row}
use Rattle.brk_model.specs.Sheets.{sheets, tables_sorted_by_key}
use Rattle.brk_model.specs.Commands.{Order, Tick, PlaceOrder, FeedTicks, CancelTrade}
use Rattle.brk_model.specs.Orders.{trade_of_order, base_after_order}
use Rattle.brk_model.specs.Feed.{triggered_trade_ids, base_after_ticks}
use Rattle.brk_model.specs.Tests.{checks_of_command, refusal_of_command, stamp_of_next_command, status_check}
use Rattle.brk_model.specs.Step.{base_after_command_unstamped}
use Rattle.brk_trade_rows.specs.Changes.{tables_with_last_stamp}
use Rattle.brk_trade_books.specs.Books.{BooksInvariant}
use Rattle.brk_trade_books.specs.Steps.{HasTableEffect}
use Rattle.brk_trade_books.specs.Trading.{tables_after_cancel, tables_after_feed, trade_ids_triggered_by_feed, tables_after_order}
use Rattle.brk_trade_books.proofs.Same.{All-map, any-none}
use Rattle.brk_trade_books.proofs.Tested.{passed, not_not}
use Rattle.brk_trade_books.proofs.Ordering.{ordered_rows}
use Rattle.brk_trade_books.proofs.Feeding.{Ready, KnowsTicks, canceled_rows, fed_rows, fed_triggered}

-- the last stamp is in no other table
last_set : (base : Base) (stamp : ℕ) → sheets (record base { last = Some stamp }) ≡ tables_with_last_stamp stamp (sheets base)
unfolding tables_of_base_in_schema tables_sorted_by_key shares_of_position holding_summary_quantity balance_of_account trade_count_of_broker commission_total_of_broker
last_set base stamp = refl

-- from the records to the whole
pub whole : (after : Base) (stamp : ℕ) (t : Tables) → sheets after ≡ t → sheets (record after { last = Some stamp }) ≡ tables_with_last_stamp stamp t
whole after stamp t e = last_set after stamp ∙ ap (tables_with_last_stamp stamp) e

pub step_order : (base : Base) (now : ℕ) (o : Order)
    → HasTableEffect base now (PlaceOrder o)
    (tables_after_order (trade_row (trade_of_order base (stamp_of_next_command base now) o)) (not (is_market_type (trade_type_of_order_type o.order_type)))
    (broker_id_of_account base o.account))
unfolding base_after_command_unstamped
step_order base now o books e =
    whole (base_after_order base (stamp_of_next_command base now) o) (stamp_of_next_command base now) _ (ordered_rows base (stamp_of_next_command base now) o books.numbered)

canceled : (base : Base) (stamp id : ℕ) (o : Option Trade) → BooksInvariant base → trade_with_id base id ≡ o
    → AllByRecursion (λ t. t.0 ≡ false) (option_map_or (λ t. status_check (has_last_status Pending t) t ∷ []) o ((true, NoTrade) ∷ []))
    → sheets (base_with_updated_trades (λ u. u.id == id) (trade_with_status_change stamp Canceled) base) ≡ tables_after_cancel stamp id (sheets base)
canceled base stamp id None books e k = absurd (true_false k.0)
  where
    true_false : true ≡ false → ⊥
    true_false e = absurd (cc)
canceled base stamp id (Some t) books e k = canceled_rows base stamp id t books.numbered books.ways e (not_not (has_last_status Pending t) k.0)

pub step_cancel : (base : Base) (now id : ℕ) → HasTableEffect base now (CancelTrade id) (tables_after_cancel (stamp_of_next_command base now) id)
unfolding checks_of_command base_after_command_unstamped
step_cancel base now id books e =
    whole (base_with_updated_trades (λ t. t.id == id) (trade_with_status_change (stamp_of_next_command base now) Canceled) base) (stamp_of_next_command base now) _
    (canceled base (stamp_of_next_command base now) id (trade_with_id base id) books refl (passed base now (CancelTrade id) e))

pub ready : (base : Base) → BooksInvariant base → Ready base
ready base books = record { symbols = books.symbols; numbered = books.numbered; ways = books.ways }

-- the symbols of an accepted feed are known
pub known_ticks : (base : Base) (now : ℕ) (ticks : List Tick) → refusal_of_command base now (FeedTicks ticks) ≡ None → KnowsTicks base ticks
unfolding checks_of_command
known_ticks base now ticks e =
    let k = passed base now (FeedTicks ticks) e in
    All-map ticks (λ tick n. not_not (is_some (security_with_symbol base tick.symbol)) n) (any-none (λ tick. not (is_some (security_with_symbol base tick.symbol))) ticks k.0)

pub step_feed : (base : Base) (now : ℕ) (ticks : List Tick) → HasTableEffect base now (FeedTicks ticks) (tables_after_feed (stamp_of_next_command base now) ticks)
unfolding base_after_command_unstamped
step_feed base now ticks books e =
    whole (base_after_ticks (stamp_of_next_command base now) base ticks) (stamp_of_next_command base now) _
    (fed_rows base (stamp_of_next_command base now) ticks (ready base books) (known_ticks base now ticks e))

pub step_triggered : (base : Base) (now : ℕ) (ticks : List Tick) → BooksInvariant base → refusal_of_command base now (FeedTicks ticks) ≡ None
    → triggered_trade_ids (stamp_of_next_command base now) base ticks ≡ trade_ids_triggered_by_feed (stamp_of_next_command base now) ticks (sheets base)
step_triggered base now ticks books e = fed_triggered base (stamp_of_next_command base now) ticks (ready base books) (known_ticks base now ticks e)
