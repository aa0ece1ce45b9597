-- Lots, their cost basis and the taxes of results in the tables after any run of calls.
use Rattle.std.proofs.Common.{◌≡◌, ℕ, ◌==◌, ◌+ℤ◌, Bool, true, false, cond, List, [], ◌∷◌, ◌++◌, refl, sym, subst, ◌∙◌, ap, map, Option, Some, None}
use Rattle.std.specs.Prelude.{find, is_some, option_map}
use Rattle.std.specs.Option.{option_map_or}
use Rattle.std.specs.List.{AllByRecursion}
use Rattle.std.proofs.lemmas.Bool.{eqb-false, eqb-true, eq-eqb}
use Rattle.brk_lots.specs.Books.{deal_quantity_sum, realised_gain_sum, cost_basis_of_lots, lot_quantity_sum, purchase_value_minus_sale_value}
use Rattle.brk_lots.specs.Chains.{IsLotHistory, changes_of_lot}
use Rattle.brk_lots.specs.Deals.{AreDistinctAscendingDeals, PrecedesDealOfOtherTrade}
use Rattle.brk_lots.specs.Lots.{abstract_lot, shares_of_lots}
use Rattle.brk_lots.proofs.Books.{costs_add_up, quantities_add_up}
use Rattle.brk_lots.proofs.Chains.{lots_live}
use Rattle.brk_lots.proofs.Ends.{walk_of}
use Rattle.brk_lots.proofs.Plain.{lots_walk}
use Rattle.brk_money.specs.Spelling.{Text}
use Rattle.brk_money.specs.declared.status.Status.TheVariants.{Canceled, Completed, Submitted}
use Rattle.brk_model.specs.Base.{Base, completed_trades, is_completed, trade_with_status_change, trade_with_id}
use Rattle.brk_model.specs.Commands.{AddAccount, AddBand, AddBroker, AddCharge, AddCustomer, AddCustomerTax, AddPermission, AddSecurity, AddTaxRate}
use Rattle.brk_model.specs.Commands.{CancelTrade, ChangeCashNames, ChangeCashTypes, ChangeExecutors, Command, CompleteTrade, FeedTicks, PlaceOrder, Reply, Tick}
use Rattle.brk_model.specs.Commands.{DepositCash, WithdrawCash, SetOneDay}
use Rattle.brk_model.specs.Derived.{deal_of_trade, deals_of_position, shares_of_position}
use Rattle.brk_model.specs.Feed.{is_triggered_by_tick, base_after_tick, base_after_ticks}
use Rattle.brk_model.specs.Keyed.{base_with_stored_reply}
use Rattle.brk_model.specs.Lists.{contains_number, update_where}
use Rattle.brk_model.specs.Orders.{trade_of_order, tax_on_deal}
use Rattle.brk_model.specs.Records.{Key, Trade}
use Rattle.brk_model.specs.Results.{trade_after_completion, deal_of_result, base_after_result}
use Rattle.brk_model.specs.Run.{Call, Outcome, Run}
use Rattle.brk_model.specs.Shares.{lot_quantity, lots_of_shares, replay}
use Rattle.brk_model.specs.Sheets.{sheets}
use Rattle.brk_model.specs.Step.{base_after_command_unstamped}
use Rattle.brk_model.specs.Tables.{trade_row}
use Rattle.brk_model.specs.Tests.{stamp_of_next_command, refusal_of_command, checks_of_command}
use Rattle.brk_model.specs.Updates.{updated_cash_row_name, updated_cash_type, updated_executor_name, selected_trade_ids_of_account, selected_trade_ids_of_symbol}
use Rattle.brk_trade_books.specs.Books.{BooksInvariant}
use Rattle.brk_trade_books.specs.Steps.{base_after_command}
use Rattle.brk_trade_books.specs.Runs.{TradeRowHasTax, CompletedTradeHasTax, tax_at_completion}
use Rattle.brk_trade_books.specs.TradeReads.{lots_of_position}
use Rattle.brk_trade_books.proofs.Completions.{named_open, named_waits, triggered_waits}
use Rattle.brk_trade_books.proofs.Keepers.{books_kept}
use Rattle.brk_trade_books.proofs.LotOrder.{InOrder, held_in_order, position_read, shares_read}
use Rattle.brk_trade_books.proofs.Numbering.{pending_not_completed}
use Rattle.brk_trade_books.proofs.Places.{FoundAt, find-at}
use Rattle.brk_trade_books.proofs.ResultKeeping.{submitted, result_named}
use Rattle.brk_trade_books.proofs.ResultRows.{status_then, submitted_not_completed}
use Rattle.brk_trade_books.proofs.RunKeeping.{IsSame, books_command, cash_name_same, cash_type_same, executor_same, run_keeps, same_status_of}
use Rattle.brk_trade_books.proofs.Same.{All-map, All-mapped, find-All, find-more}
use Rattle.brk_trade_books.proofs.Tested.{passed}
use Rattle.brk_trade_books.proofs.TradeReading.{reads_trade}

-- ---- the deals of a position

deals_of : (ts : List Trade) → InOrder ts → AreDistinctAscendingDeals (map deal_of_trade ts)
deals_of [] o = tt
deals_of (t ∷ ts) o = (
  All-mapped (PrecedesDealOfOtherTrade (deal_of_trade t)) deal_of_trade ts (All-map ts (λ u h. ((λ e. eqb-false u.id t.id h.0 (sym e)), h.1)) o.0),
  deals_of ts o.1,
)

pub deals_are : (base : Base) (account : ℕ) (symbol : Text) → BooksInvariant base → AreDistinctAscendingDeals (deals_of_position (completed_trades base) account symbol)
deals_are base account symbol books = deals_of _ (held_in_order base account symbol books)

pub shares_spelled : (base : Base) (account : ℕ) (symbol : Text) → BooksInvariant base
    → shares_of_lots (lots_of_position (sheets base) account symbol) ≡ replay (deals_of_position (completed_trades base) account symbol)
unfolding shares_of_position
shares_spelled base account symbol books = shares_read base account symbol books

pub lots_spelled : (base : Base) (account : ℕ) (symbol : Text) → BooksInvariant base
    → map abstract_lot (lots_of_position (sheets base) account symbol) ≡ lots_of_shares (shares_of_position (completed_trades base) account symbol)
lots_spelled base account symbol books =
    sym (lots_walk (lots_of_position (sheets base) account symbol) (walk_of (lots_of_position (sheets base) account symbol) (position_read base account symbol books)))
    ∙ ap lots_of_shares (shares_read base account symbol books)

pub quantities_sum : (base : Base) (account : ℕ) (symbol : Text) → BooksInvariant base
    → lot_quantity_sum (lots_of_position (sheets base) account symbol) ≡ deal_quantity_sum (deals_of_position (completed_trades base) account symbol)
quantities_sum base account symbol books =
    quantities_add_up (deals_of_position (completed_trades base) account symbol) (lots_of_position (sheets base) account symbol)
    (shares_spelled base account symbol books)

pub costs_sum : (base : Base) (account : ℕ) (symbol : Text) → BooksInvariant base
    → cost_basis_of_lots (lots_of_position (sheets base) account symbol) ≡ realised_gain_sum (deals_of_position (completed_trades base) account symbol) [] +ℤ
    purchase_value_minus_sale_value (deals_of_position (completed_trades base) account symbol)
costs_sum base account symbol books = costs_add_up (deals_of_position (completed_trades base) account symbol) (lots_of_position (sheets base) account symbol) (shares_spelled base account symbol books)

pub lot_lives : (base : Base) (account : ℕ) (symbol : Text) (lot : ℕ) → BooksInvariant base
    → IsLotHistory (changes_of_lot lot (deals_of_position (completed_trades base) account symbol) []) (lot_quantity (replay (deals_of_position (completed_trades base) account symbol)) lot)
lot_lives base account symbol lot books = lots_live (deals_of_position (completed_trades base) account symbol) lot (deals_are base account symbol books)

-- ---- the tax of a completed trade

find_updated : (p q : Trade → Bool) (f : Trade → Trade) (ts : List Trade) → ((t : Trade) → p (f t) ≡ p t)
    → find p (update_where q f ts) ≡ option_map (λ t. cond (q t) (f t) t) (find p ts)
find_updated p q f [] h = refl
find_updated p q f (t ∷ ts) h =
    ap (λ b. cond b (Some u) (find p (update_where q f ts))) (same (q t)) ∙ by_test (p t) (find_updated p q f ts h)
  where
    u : Trade
    u = cond (q t) (f t) t

    same : (b : Bool) → p (cond b (f t) t) ≡ p t
    same true = h t
    same false = refl

    by_test : (b : Bool) → find p (update_where q f ts) ≡ option_map (λ t. cond (q t) (f t) t) (find p ts)
        → cond b (Some u) (find p (update_where q f ts)) ≡ option_map (λ t. cond (q t) (f t) t) (cond b (Some t) (find p ts))
    by_test true ih = refl
    by_test false ih = ih

-- a completed trade that a change passes by
passed_by : (base after : Base) (id tax : ℕ) (q : Trade → Bool) (f : Trade → Trade) → ((t : Trade) → (f t).id ≡ t.id) → after.trades ≡ update_where q f base.trades
    → AllByRecursion (λ t. q t ≡ true → is_completed t ≡ false) base.trades → CompletedTradeHasTax id tax base → CompletedTradeHasTax id tax after
passed_by base after id tax q f ids e h k = record {
  trade = k.trade;
  found = ap (find (λ t. t.id == id)) e ∙ find_updated (λ t. t.id == id) q f base.trades (λ t. ap (λ n. n == id) (ids t)) ∙ ap (option_map (λ t. cond (q t) (f t) t)) k.found
      ∙ ap Some (stays (q k.trade) refl);
  completed = k.completed;
  taxed = k.taxed;
}
  where
    stays : (b : Bool) → q k.trade ≡ b → cond (q k.trade) (f k.trade) k.trade ≡ k.trade
    stays false i = ap (λ b. cond b (f k.trade) k.trade) i
    stays true i =
        let j : true ≡ false = sym k.completed ∙ find-All (λ t. q t ≡ true → is_completed t ≡ false) (λ t. t.id == id) base.trades k.trade h k.found i in absurd (cc)

-- one whose words are changed
words_changed : (base after : Base) (id tax : ℕ) (q : Trade → Bool) (f : Trade → Trade) → ((t : Trade) → IsSame t (f t)) → after.trades ≡ update_where q f base.trades
    → CompletedTradeHasTax id tax base → CompletedTradeHasTax id tax after
words_changed base after id tax q f s e k = record {
  trade = cond (q k.trade) (f k.trade) k.trade;
  found = ap (find (λ t. t.id == id)) e ∙ find_updated (λ t. t.id == id) q f base.trades (λ t. ap (λ n. n == id) (s t).id) ∙ ap (option_map (λ t. cond (q t) (f t) t)) k.found;
  completed = still (q k.trade);
  taxed = same_tax (q k.trade);
}
  where
    still : (b : Bool) → is_completed (cond b (f k.trade) k.trade) ≡ true
    still true = same_status_of Completed k.trade (f k.trade) (s k.trade) ∙ k.completed
    still false = k.completed

    same_tax : (b : Bool) → (cond b (f k.trade) k.trade).tax ≡ tax
    same_tax true = (s k.trade).tax ∙ k.taxed
    same_tax false = k.taxed

same_trades : (base after : Base) (id tax : ℕ) → after.trades ≡ base.trades → CompletedTradeHasTax id tax base → CompletedTradeHasTax id tax after
same_trades base after id tax e k = record { trade = k.trade; found = ap (find (λ t. t.id == id)) e ∙ k.found; completed = k.completed; taxed = k.taxed }

taxed_tick : (base : Base) (id tax stamp : ℕ) (tick : Tick) → CompletedTradeHasTax id tax base → CompletedTradeHasTax id tax (base_after_tick stamp base tick)
taxed_tick base id tax stamp tick k =
    passed_by base (base_after_tick stamp base tick) id tax (is_triggered_by_tick tick) (trade_with_status_change stamp Submitted) (λ t. refl) refl (waits base.trades) k
  where
    waits : (ts : List Trade) → AllByRecursion (λ t. is_triggered_by_tick tick t ≡ true → is_completed t ≡ false) ts
    waits [] = tt
    waits (t ∷ ts) = ((λ e. pending_not_completed t (triggered_waits tick t e)), waits ts)

taxed_ticks : (base : Base) (id tax stamp : ℕ) (ticks : List Tick) → CompletedTradeHasTax id tax base → CompletedTradeHasTax id tax (base_after_ticks stamp base ticks)
unfolding base_after_ticks
taxed_ticks base id tax stamp [] k = k
taxed_ticks base id tax stamp (tick ∷ ticks) k = taxed_ticks (base_after_tick stamp base tick) id tax stamp ticks (taxed_tick base id tax stamp tick k)

taxed_order : (base after : Base) (id tax : ℕ) (t : Trade) → after.trades ≡ base.trades ++ t ∷ [] → CompletedTradeHasTax id tax base → CompletedTradeHasTax id tax after
taxed_order base after id tax t e k = record {
  trade = k.trade;
  found = ap (find (λ t. t.id == id)) e ∙ find-more (λ t. t.id == id) base.trades (t ∷ []) (ap is_some k.found) ∙ k.found;
  completed = k.completed;
  taxed = k.taxed;
}

found_id : (base : Base) (id : ℕ) (t : Trade) → trade_with_id base id ≡ Some t → t.id ≡ id
found_id base id t e = let f : FoundAt Trade (λ u. u.id == id) t base.trades = find-at (λ u. u.id == id) base.trades t e in eqb-true t.id id f.passes

same_id : (base : Base) (stamp price : ℕ) (t : Trade) → (trade_after_completion base stamp price t).id ≡ t.id
unfolding trade_after_completion
same_id base stamp price t = refl

taxed_result : (base : Base) (now id tax other price : ℕ) → BooksInvariant base → refusal_of_command base now (CompleteTrade other price) ≡ None
    → CompletedTradeHasTax id tax base → CompletedTradeHasTax id tax (base_after_command base now (CompleteTrade other price))
unfolding base_after_command_unstamped
taxed_result base now id tax other price books e k =
    let stamp : ℕ = stamp_of_next_command base now in
    let t = result_named base now other price e in
    let same : t.0.id ≡ other = found_id base other t.0 t.1 in
    let waits : is_completed t.0 ≡ false = submitted_not_completed t.0 (submitted base now other price t.0 t.1 e) in
    passed_by base (base_after_command base now (CompleteTrade other price)) id tax (λ u. u.id == t.0.id) (trade_after_completion base stamp price) (same_id base stamp price)
    (ap (λ o. (option_map_or (base_after_result base stamp price) o base).trades) t.1)
    (subst (λ (m : ℕ). AllByRecursion (λ u. (u.id == m) ≡ true → is_completed u ≡ false) base.trades) (sym same) (named_open base other t.0 books.numbered t.1 waits)) k

taxed_cancel : (base : Base) (now id tax other : ℕ) → BooksInvariant base → refusal_of_command base now (CancelTrade other) ≡ None
    → CompletedTradeHasTax id tax base → CompletedTradeHasTax id tax (base_after_command base now (CancelTrade other))
unfolding base_after_command_unstamped checks_of_command
taxed_cancel base now id tax other books e k =
    passed_by base (base_after_command base now (CancelTrade other)) id tax (λ u. u.id == other) (trade_with_status_change (stamp_of_next_command base now) Canceled) (λ t. refl) refl
    (named_waits base other (trade_with_id base other) books.numbered refl (passed base now (CancelTrade other) e)) k

taxed_feed : (base : Base) (now id tax : ℕ) (ticks : List Tick) → CompletedTradeHasTax id tax base → CompletedTradeHasTax id tax (base_after_command base now (FeedTicks ticks))
unfolding base_after_command_unstamped
taxed_feed base now id tax ticks k =
    same_trades (base_after_ticks (stamp_of_next_command base now) base ticks) (base_after_command base now (FeedTicks ticks)) id tax refl
    (taxed_ticks base id tax (stamp_of_next_command base now) ticks k)

-- every accepted command leaves it as it is
taxed_command : (base : Base) (now id tax : ℕ) (command : Command) → BooksInvariant base → refusal_of_command base now command ≡ None
    → CompletedTradeHasTax id tax base → CompletedTradeHasTax id tax (base_after_command base now command)
unfolding base_after_command_unstamped
taxed_command base now id tax (AddBroker b) books e k = same_trades base (base_after_command base now (AddBroker b)) id tax refl k
taxed_command base now id tax (AddCustomer c) books e k = same_trades base (base_after_command base now (AddCustomer c)) id tax refl k
taxed_command base now id tax (AddAccount a) books e k = same_trades base (base_after_command base now (AddAccount a)) id tax refl k
taxed_command base now id tax (AddPermission p) books e k = same_trades base (base_after_command base now (AddPermission p)) id tax refl k
taxed_command base now id tax (AddSecurity l) books e k = same_trades base (base_after_command base now (AddSecurity l)) id tax refl k
taxed_command base now id tax (AddCharge c) books e k = same_trades base (base_after_command base now (AddCharge c)) id tax refl k
taxed_command base now id tax (AddBand b) books e k = same_trades base (base_after_command base now (AddBand b)) id tax refl k
taxed_command base now id tax (AddTaxRate r) books e k = same_trades base (base_after_command base now (AddTaxRate r)) id tax refl k
taxed_command base now id tax (AddCustomerTax x) books e k = same_trades base (base_after_command base now (AddCustomerTax x)) id tax refl k
taxed_command base now id tax (PlaceOrder o) books e k = taxed_order base (base_after_command base now (PlaceOrder o)) id tax (trade_of_order base (stamp_of_next_command base now) o) refl k
taxed_command base now id tax (FeedTicks ticks) books e k = taxed_feed base now id tax ticks k
taxed_command base now id tax (CancelTrade other) books e k = taxed_cancel base now id tax other books e k
taxed_command base now id tax (CompleteTrade other price) books e k = taxed_result base now id tax other price books e k
taxed_command base now id tax (ChangeExecutors ids) books e k =
    words_changed base (base_after_command base now (ChangeExecutors ids)) id tax (λ t. contains_number t.id ids) (λ t. record t { executor = updated_executor_name t.executor }) executor_same refl k
taxed_command base now id tax (ChangeCashTypes account first last) books e k =
    words_changed base (base_after_command base now (ChangeCashTypes account first last)) id tax
    (λ t. contains_number t.id (selected_trade_ids_of_account base account first last)) (λ t. record t { cash_type = updated_cash_type t }) cash_type_same
    refl k
taxed_command base now id tax (ChangeCashNames symbol first last) books e k =
    words_changed base (base_after_command base now (ChangeCashNames symbol first last)) id tax
    (λ t. contains_number t.id (selected_trade_ids_of_symbol base symbol first last)) (λ t. record t { cash_name = updated_cash_row_name base t })
    (cash_name_same base) refl k
taxed_command base now id tax (DepositCash account amount) books e k = same_trades base (base_after_command base now (DepositCash account amount)) id tax refl k
taxed_command base now id tax (WithdrawCash account amount) books e k = same_trades base (base_after_command base now (WithdrawCash account amount)) id tax refl k
taxed_command base now id tax (SetOneDay day) books e k = same_trades base (base_after_command base now (SetOneDay day)) id tax refl k

pub taxed_kept : (base : Base) (key : Option Key) (command : Command) (reply : Reply) (id tax : ℕ) → CompletedTradeHasTax id tax base
    → CompletedTradeHasTax id tax (base_with_stored_reply key command reply base)
taxed_kept base None command reply id tax k = k
taxed_kept base (Some key) command reply id tax k = same_trades base (base_with_stored_reply (Some key) command reply base) id tax refl k

pub run_taxes : (base : Base) (calls : List (ℕ × Call)) (outcomes : List Outcome) (after : Base) (id tax : ℕ) → BooksInvariant base
    → Run base calls outcomes after → CompletedTradeHasTax id tax base → CompletedTradeHasTax id tax after
run_taxes base calls outcomes after id tax books r k =
    let both : BooksInvariant after × CompletedTradeHasTax id tax after =
    run_keeps (λ b. BooksInvariant b × CompletedTradeHasTax id tax b) (λ b key command reply h. (books_kept b key command reply h.0, taxed_kept b key command reply id tax h.1))
    (λ b now command h e. (books_command b now command h.0 e, taxed_command b now id tax command h.0 e h.1)) base calls outcomes after r (books, k) in
    both.1

-- a result is taxed once, by the shares that it closes and the rates of its moment
tax_is : (base : Base) (stamp price : ℕ) (t : Trade)
    → (trade_after_completion base stamp price t).tax
    ≡ tax_on_deal base t.account (deal_of_result stamp price t) (shares_of_position (completed_trades base) t.account t.symbol)
unfolding trade_after_completion
tax_is base stamp price t = refl

pub result_taxed : (base : Base) (now id price : ℕ) (t : Trade) → BooksInvariant base → trade_with_id base id ≡ Some t → refusal_of_command base now (CompleteTrade id price) ≡ None
    → CompletedTradeHasTax id (tax_at_completion base now price t) (base_after_command base now (CompleteTrade id price))
unfolding base_after_command_unstamped
result_taxed base now id price t books e accepted =
    let stamp : ℕ = stamp_of_next_command base now in
    let own : (t.id == t.id) ≡ true = eq-eqb t.id t.id refl in
    record {
      trade = trade_after_completion base stamp price t;
      found = ap (λ o. find (λ u. u.id == id) (option_map_or (base_after_result base stamp price) o base).trades) e
          ∙ find_updated (λ u. u.id == id) (λ u. u.id == t.id) (trade_after_completion base stamp price) base.trades (λ u. ap (λ n. n == id) (same_id base stamp price u))
          ∙ ap (option_map (λ u. cond (u.id == t.id) (trade_after_completion base stamp price u) u)) e
          ∙ ap (λ b. Some (cond b (trade_after_completion base stamp price t) t)) own;
      completed = status_then base stamp price t Completed;
      taxed = tax_is base stamp price t;
    }

pub taxed_row : (base : Base) (id tax : ℕ) → CompletedTradeHasTax id tax base → TradeRowHasTax (sheets base) id tax
taxed_row base id tax k = record { row = trade_row k.trade; found = reads_trade base id ∙ ap (option_map trade_row) k.found; taxed = k.taxed }
