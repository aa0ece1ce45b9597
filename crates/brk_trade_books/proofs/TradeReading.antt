-- Lookups of trades and requests find the trades of the base.
use Rattle.std.proofs.Common.{◌≡◌, ℕ, ◌+◌, ◌==◌, Bool, true, false, cond, not, List, [], ◌∷◌, ◌++◌, refl, sym, ◌∙◌, ap, map, filter, length, arith, Option, Some, None}
use Rattle.std.specs.Prelude.{nat_lt, ◌&&◌, ◌||◌, ◌<◌, find, option_map, unwrap_or, slice_get, reverse, bytes_eq}
use Rattle.std.specs.Option.{option_map_or}
use Rattle.std.specs.List.{AllByRecursion, list_any}
use Rattle.std.proofs.lemmas.List.{reverse-append}
use Rattle.std.proofs.lemmas.Bool.Decides.{nat_tests}
use Rattle.brk_money.specs.Spelling.{Text}
use Rattle.brk_money.specs.declared.status.Status.TheVariants.{Pending}
use Rattle.brk_model.specs.Lists.{all_distinct, contains_number}
use Rattle.brk_model.specs.Records.{Account, Customer, Executor, Permission, Security, Trade}
use Rattle.brk_model.specs.Base.{Base, security_with_symbol, trade_with_id, has_last_status}
use Rattle.brk_model.specs.Derived.{pending_trades}
use Rattle.brk_model.specs.Commands.{Tick}
use Rattle.brk_model.specs.Orders.{executor_has_identity, is_customer_or_has_permission}
use Rattle.brk_model.specs.Feed.{is_triggered_by_tick, is_triggering_price}
use Rattle.brk_model.specs.Tables.{RequestRow, TradeRow, tables_of_base_in_schema, trade_row, request_row, last_trade_row}
use Rattle.brk_model.specs.Keys.{number, is_key_less, is_row_key_less, permission_key, trade_key, request_key}
use Rattle.brk_model.specs.Sheets.{sheets, tables_sorted_by_key}
use Rattle.brk_model.specs.Ways.{is_strictly_ascending}
use Rattle.brk_model.specs.Names.{TradesAreNumberedFrom}
use Rattle.brk_trade_books.specs.Books.{BooksInvariant}
use Rattle.brk_trade_books.specs.TradeReads.{trade_id_in_last_row_or_zero, permissions_of_account, volume_of_symbol}
use Rattle.brk_trade_books.specs.Trading.{trade_ids_triggered_by_tick, is_triggered_request}
use Rattle.brk_trade_books.proofs.Order.{Sorted, by_key-filter, by_key-map, sort_sorted, sorted_filter}
use Rattle.brk_trade_books.proofs.Same.{All-filter, All-mapped}
use Rattle.brk_trade_books.proofs.Numbering.{numbered_after}
use Rattle.brk_trade_books.proofs.Reading.{any-sorted, find-id, find-map}
use Rattle.brk_trade_books.proofs.TermReading.{reads_last_trade}

pub reads_trade : (base : Base) (id : ℕ) → find (λ r. r.id == id) (sheets base).trades ≡ option_map trade_row (trade_with_id base id)
unfolding tables_of_base_in_schema tables_sorted_by_key
reads_trade base id = find-id (λ r. r.id) id (map trade_row base.trades) ∙ find-map (λ r. r.id == id) trade_row base.trades

-- ---- trades and requests stand in the order of acceptance

ids_above : (n : ℕ) (ts : List Trade) → TradesAreNumberedFrom n ts → (m : ℕ) → m < n → AllByRecursion (λ t. is_key_less (number t.id ∷ []) (number m ∷ []) ≡ false) ts
ids_above n [] k m h = tt
ids_above n (t ∷ ts) k m h = (above t.id (omega (arith, k.0)), ids_above (n + 1) ts k.1 m (omega arith))
  where
    above : (i : ℕ) → m < i → is_key_less (number i ∷ []) (number m ∷ []) ≡ false
    above i h = grind (arith, nat_tests)

pub trades_stand : (n : ℕ) (ts : List Trade) → TradesAreNumberedFrom n ts → Sorted (is_row_key_less (λ t. number t.id ∷ [])) ts
trades_stand n [] k = tt
trades_stand n (t ∷ ts) k = (ids_above (n + 1) ts k.1 t.id (omega (arith, k.0)), trades_stand (n + 1) ts k.1)

pub trades_in_order : (base : Base) → TradesAreNumberedFrom 1 base.trades → (sheets base).trades ≡ map trade_row base.trades
unfolding tables_of_base_in_schema tables_sorted_by_key
trades_in_order base n =
    by_key-map (λ t. number t.id ∷ []) trade_key trade_row base.trades (λ t. refl)
    ∙ ap (map trade_row) (sort_sorted (is_row_key_less (λ t. number t.id ∷ [])) base.trades (trades_stand 1 base.trades n))

pub requests_in_order : (base : Base) → TradesAreNumberedFrom 1 base.trades → (sheets base).requests ≡ map (request_row base.accounts) (pending_trades base.trades)
unfolding tables_of_base_in_schema tables_sorted_by_key
requests_in_order base n =
    by_key-map (λ t. number t.id ∷ []) request_key (request_row base.accounts) (pending_trades base.trades) (λ t. refl)
    ∙ ap (map (request_row base.accounts)) (sort_sorted (is_row_key_less (λ t. number t.id ∷ [])) (pending_trades base.trades)
    (sorted_filter (is_row_key_less (λ t. number t.id ∷ [])) (has_last_status Pending) base.trades (trades_stand 1 base.trades n)))

-- ---- the requests that a tick triggers

hits : (accounts : List Account) (tick : Tick) (ts : List Trade)
    → map (λ r. r.trade) (filter (is_triggered_request tick) (map (request_row accounts) (pending_trades ts))) ≡ map (λ t. t.id) (filter (is_triggered_by_tick tick) ts)
hits accounts tick [] = refl
hits accounts tick (t ∷ ts) = by_pending (has_last_status Pending t) refl (hits accounts tick ts)
  where
    rows : List RequestRow
    rows = filter (is_triggered_request tick) (map (request_row accounts) (pending_trades ts))

    T : List Trade
    T = filter (is_triggered_by_tick tick) ts

    by_hit : (b : Bool) → map (λ r. r.trade) rows ≡ map (λ t. t.id) T → map (λ r. r.trade) (cond b (request_row accounts t ∷ rows) rows) ≡ map (λ t. t.id) (cond b (t ∷ T) T)
    by_hit true e = ap (λ is. t.id ∷ is) e
    by_hit false e = e

    by_pending : (b : Bool) → has_last_status Pending t ≡ b → map (λ r. r.trade) rows ≡ map (λ t. t.id) T
        → map (λ r. r.trade) (filter (is_triggered_request tick) (map (request_row accounts) (cond (has_last_status Pending t) (t ∷ pending_trades ts) (pending_trades ts))))
        ≡ map (λ t. t.id) (cond (has_last_status Pending t && bytes_eq t.symbol tick.symbol && is_triggering_price t.kind t.bid tick.price) (t ∷ T) T)
    by_pending true f e =
        ap (λ b. map (λ r. r.trade) (filter (is_triggered_request tick) (map (request_row accounts) (cond b (t ∷ pending_trades ts) (pending_trades ts))))) f
        ∙ by_hit (is_triggered_request tick (request_row accounts t)) e
        ∙ ap (λ b. map (λ t. t.id) (cond (b && bytes_eq t.symbol tick.symbol && is_triggering_price t.kind t.bid tick.price) (t ∷ T) T)) (sym f)
    by_pending false f e =
        ap (λ b. map (λ r. r.trade) (filter (is_triggered_request tick) (map (request_row accounts) (cond b (t ∷ pending_trades ts) (pending_trades ts))))) f ∙ e
        ∙ ap (λ b. map (λ t. t.id) (cond (b && bytes_eq t.symbol tick.symbol && is_triggering_price t.kind t.bid tick.price) (t ∷ T) T)) (sym f)

pub reads_triggered : (base : Base) (tick : Tick) → TradesAreNumberedFrom 1 base.trades
    → trade_ids_triggered_by_tick tick (sheets base) ≡ map (λ t. t.id) (filter (is_triggered_by_tick tick) base.trades)
reads_triggered base tick n = ap (λ rows. map (λ r. r.trade) (filter (is_triggered_request tick) rows)) (requests_in_order base n) ∙ hits base.accounts tick base.trades

-- ---- the volume of a symbol

same_volume : (o : Option Security) → option_map_or (λ r. r.volume) (option_map last_trade_row o) 0 ≡ option_map_or (λ s. s.volume) o 0
same_volume None = refl
same_volume (Some s) = refl

pub reads_volume : (base : Base) (symbol : Text) → volume_of_symbol (sheets base) symbol ≡ option_map_or (λ s. s.volume) (security_with_symbol base symbol) 0
reads_volume base symbol = ap (λ o. option_map_or (λ r. r.volume) o 0) (reads_last_trade base symbol) ∙ same_volume (security_with_symbol base symbol)

-- ---- the number of trades

pub first_of_more : {X : Type 0} (ys : List X) (x : X) → slice_get (ys ++ x ∷ []) 0 ≡ Some (unwrap_or (slice_get ys 0) x)
first_of_more [] x = refl
first_of_more (y ∷ ys) x = refl

id_or : (o : Option TradeRow) (r : TradeRow) → (unwrap_or o r).id ≡ unwrap_or (option_map (λ r. r.id) o) r.id
id_or None r = refl
id_or (Some q) r = refl

numbered_last : (m : ℕ) (ts : List Trade) → TradesAreNumberedFrom (m + 1) ts → unwrap_or (option_map (λ r. r.id) (slice_get (reverse (map trade_row ts)) 0)) m ≡ m + length ts
numbered_last m [] k = omega arith
numbered_last m (t ∷ ts) k =
    let rows : List TradeRow = reverse (map trade_row ts) in
    let last : unwrap_or (option_map (λ r. r.id) (slice_get (reverse (trade_row t ∷ map trade_row ts)) 0)) m ≡ unwrap_or (option_map (λ r. r.id) (slice_get rows 0)) t.id =
    ap (λ rs. unwrap_or (option_map (λ r. r.id) (slice_get rs 0)) m) (reverse-append (trade_row t ∷ []) (map trade_row ts))
    ∙ ap (λ o. unwrap_or (option_map (λ r. r.id) o) m) (first_of_more rows (trade_row t)) ∙ id_or (slice_get rows 0) (trade_row t) in
    let more : m + 1 + length ts ≡ m + length (t ∷ ts) = omega arith in
    last ∙ ap (unwrap_or (option_map (λ r. r.id) (slice_get rows 0))) k.0 ∙ numbered_last (m + 1) ts k.1 ∙ more

from_none : (n : ℕ) → 0 + n ≡ n
from_none n = omega arith

pub reads_number : (base : Base) → BooksInvariant base → trade_id_in_last_row_or_zero (sheets base) ≡ length base.trades
reads_number base books =
    ap (λ rows. unwrap_or (option_map (λ r. r.id) (slice_get (reverse rows) 0)) 0) (trades_in_order base books.numbered) ∙ numbered_last 0 base.trades books.numbered ∙ from_none (length base.trades)

-- ---- the permissions of an account

pub reads_permitted : (base : Base) (account : ℕ) (c : Customer) (e : Executor)
    → is_customer_or_has_permission c (permissions_of_account (sheets base) account) e ≡ is_customer_or_has_permission c (filter (λ p. p.account == account) base.permissions) e
unfolding tables_of_base_in_schema tables_sorted_by_key
reads_permitted base account c e =
    let person : Permission → Bool = λ p. executor_has_identity e p.first_name p.last_name p.tax_id in
    ap (λ b. executor_has_identity e c.first_name c.last_name c.tax_id || b)
    (ap (list_any person) (sym (by_key-filter permission_key (λ p. p.account == account) base.permissions))
    ∙ any-sorted permission_key person (filter (λ p. p.account == account) base.permissions))

-- a base that is in order
pub triggered_found : (base : Base) (tick : Tick) → BooksInvariant base → trade_ids_triggered_by_tick tick (sheets base) ≡ map (λ t. t.id) (filter (is_triggered_by_tick tick) base.trades)
triggered_found base tick books = reads_triggered base tick books.numbered

-- ---- they rise

rising_more : (m : ℕ) (ns : List ℕ) → AllByRecursion (λ n. nat_lt m n ≡ true) ns → is_strictly_ascending ns ≡ true → is_strictly_ascending (m ∷ ns) ≡ true
rising_more m [] h e = refl
rising_more m (n ∷ ns) h e = ap (λ b. b && is_strictly_ascending (n ∷ ns)) h.0 ∙ e

pub ids_rise : (m n : ℕ) (ts : List Trade) → m < n → TradesAreNumberedFrom n ts → AllByRecursion (λ t. nat_lt m t.id ≡ true) ts
ids_rise m n [] h k = tt
ids_rise m n (t ∷ ts) h k = (above t.id (omega (arith, k.0)), ids_rise m (n + 1) ts (omega arith) k.1)
  where
    above : (i : ℕ) → m < i → nat_lt m i ≡ true
    above i h = grind (arith, nat_tests)

filtered_rise : (p : Trade → Bool) (n : ℕ) (ts : List Trade) → TradesAreNumberedFrom n ts → is_strictly_ascending (map (λ t. t.id) (filter p ts)) ≡ true
filtered_rise p n [] k = refl
filtered_rise p n (t ∷ ts) k = by_test (p t) (filtered_rise p (n + 1) ts k.1)
  where
    by_test : (b : Bool) → is_strictly_ascending (map (λ t. t.id) (filter p ts)) ≡ true → is_strictly_ascending (map (λ t. t.id) (cond b (t ∷ filter p ts) (filter p ts))) ≡ true
    by_test true e =
        rising_more t.id (map (λ t. t.id) (filter p ts))
        (All-mapped (λ i. nat_lt t.id i ≡ true) (λ t. t.id) (filter p ts) (All-filter (λ u. nat_lt t.id u.id ≡ true) p ts (ids_rise t.id (n + 1) ts (omega (arith, k.0)) k.1))) e
    by_test false e = e

pub triggered_rise : (base : Base) (tick : Tick) → BooksInvariant base → is_strictly_ascending (trade_ids_triggered_by_tick tick (sheets base)) ≡ true
triggered_rise base tick books = ap is_strictly_ascending (reads_triggered base tick books.numbered) ∙ filtered_rise (is_triggered_by_tick tick) 1 base.trades books.numbered

-- ---- no two requests are of one trade

apart_from : (id : ℕ) (rows : List RequestRow) → AllByRecursion (λ r. (r.trade == id) ≡ false) rows → contains_number id (map (λ r. r.trade) rows) ≡ false
apart_from id [] h = refl
apart_from id (r ∷ rows) h = ap (λ b. b || contains_number id (map (λ r. r.trade) rows)) h.0 ∙ apart_from id rows h.1

filtered_apart : (accounts : List Account) (p : Trade → Bool) (n : ℕ) (ts : List Trade) → TradesAreNumberedFrom n ts
    → all_distinct (map (λ r. r.trade) (map (request_row accounts) (filter p ts))) ≡ true
filtered_apart accounts p n [] k = refl
filtered_apart accounts p n (t ∷ ts) k = by_test (p t) (filtered_apart accounts p (n + 1) ts k.1)
  where
    rows : List RequestRow
    rows = map (request_row accounts) (filter p ts)

    others : contains_number t.id (map (λ r. r.trade) rows) ≡ false
    others = apart_from t.id rows (All-mapped (λ r. (r.trade == t.id) ≡ false) (request_row accounts) (filter p ts) (All-filter (λ u. (u.id == t.id) ≡ false) p ts (numbered_after n [] t ts k)))

    by_test : (b : Bool) → all_distinct (map (λ r. r.trade) rows) ≡ true → all_distinct (map (λ r. r.trade) (map (request_row accounts) (cond b (t ∷ filter p ts) (filter p ts)))) ≡ true
    by_test true e = ap (λ b. not b && all_distinct (map (λ r. r.trade) rows)) others ∙ e
    by_test false e = e

pub reads_apart : (base : Base) → BooksInvariant base → all_distinct (map (λ r. r.trade) (sheets base).requests) ≡ true
reads_apart base books =
    ap (λ rows. all_distinct (map (λ r. r.trade) rows)) (requests_in_order base books.numbered) ∙ filtered_apart base.accounts (has_last_status Pending) 1 base.trades books.numbered
