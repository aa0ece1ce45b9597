-- The last trades and the requests in the tables after a tick.
use Rattle.std.proofs.Common.{◌≡◌, ℕ, ◌+◌, ◌==◌, ◌&&◌, Bool, true, false, not, cond, List, [], ◌∷◌, refl, sym, ◌∙◌, ap, subst, map, filter, Option, Some, None}
use Rattle.std.specs.Prelude.{◌||◌, find, option_map, bytes_eq}
use Rattle.std.specs.Option.{option_map_or}
use Rattle.std.specs.List.{AllByRecursion}
use Rattle.std.proofs.lemmas.Bool.{eq-eqb}
use Rattle.brk_money.specs.Spelling.{Text}
use Rattle.brk_money.specs.declared.status.Status.TheVariants.{Submitted}
use Rattle.brk_model.specs.Lists.{all_distinct, contains_number}
use Rattle.brk_model.specs.Base.{Base}
use Rattle.brk_model.specs.Commands.{Tick}
use Rattle.brk_model.specs.Sheets.{sheets}
use Rattle.brk_model.specs.Tables.{Tables, LastTradeRow, RequestRow}
use Rattle.brk_trade_rows.specs.Changes.{tables_with_last_trade_replaced}
use Rattle.brk_trade_books.specs.Books.{BooksInvariant}
use Rattle.brk_trade_books.specs.TradeReads.{last_trade_row_of_symbol, requests_of_symbol}
use Rattle.brk_trade_books.specs.Trading.{trade_ids_triggered_by_tick, is_triggered_request, tables_after_change_from_pending, last_trade_row_after_tick}
use Rattle.brk_trade_books.specs.Trading.{tables_with_trades_submitted, tables_after_tick, tables_with_last_trade_after_tick}
use Rattle.brk_trade_books.proofs.Bools.{numbers_back}
use Rattle.brk_trade_books.proofs.Same.{All-map, filter-same}
use Rattle.brk_trade_books.proofs.Places.{filter-all}
use Rattle.brk_trade_books.proofs.LotReading.{filter-swap}
use Rattle.brk_trade_books.proofs.TradeReading.{reads_apart}
use Rattle.brk_trade_books.proofs.Volumes.{find-updated}

-- ---- the last trade

lasts_kept : (stamp : ℕ) (ids : List ℕ) (t : Tables) → (tables_with_trades_submitted stamp ids t).last_trades ≡ t.last_trades
lasts_kept stamp [] t = refl
lasts_kept stamp (id ∷ ids) t = lasts_kept stamp ids (tables_after_change_from_pending id Submitted stamp t)

-- where the tick's symbol has a last trade, this one takes the price and grows
pub tick_last : (t : Tables) (stamp : ℕ) (tick : Tick) (l : LastTradeRow) (symbol : Text) → last_trade_row_of_symbol t tick.symbol ≡ Some l
    → last_trade_row_of_symbol (tables_after_tick stamp tick t) symbol
    ≡ option_map (λ r. cond (bytes_eq r.symbol l.symbol) (record r { stamp = stamp; price = tick.price; volume = l.volume + tick.qty }) r) (last_trade_row_of_symbol t symbol)
tick_last t stamp tick l symbol e =
    ap (find (λ r. bytes_eq r.symbol symbol)) (lasts_kept stamp (trade_ids_triggered_by_tick tick t) (tables_with_last_trade_after_tick stamp tick t)
    ∙ ap (λ o. (option_map_or (λ l. tables_with_last_trade_replaced (last_trade_row_after_tick stamp tick l) t) o t).last_trades) e)
    ∙ find-updated (λ r. bytes_eq r.symbol symbol) (λ r. bytes_eq r.symbol l.symbol)
    (λ r. record r { stamp = stamp; price = tick.price; volume = l.volume + tick.qty }) t.last_trades (λ r. refl)

-- ---- the requests

pub filter-filter : {X : Type 0} (q p : X → Bool) (xs : List X) → filter p (filter q xs) ≡ filter (λ x. q x && p x) xs
filter-filter q p [] = refl
filter-filter {X = X} q p (x ∷ xs) = by_test (q x) (filter-filter q p xs)
  where
    by_test : (b : Bool) → filter p (filter q xs) ≡ filter (λ x. q x && p x) xs
        → filter p (cond b (x ∷ filter q xs) (filter q xs)) ≡ cond (b && p x) (x ∷ filter (λ x. q x && p x) xs) (filter (λ x. q x && p x) xs)
    by_test true e = ap (λ ys. cond (p x) (x ∷ ys) ys) e
    by_test false e = e

-- those of these trades are gone
gone : (stamp : ℕ) (ids : List ℕ) (t : Tables) → (tables_with_trades_submitted stamp ids t).requests ≡ filter (λ r. not (contains_number r.trade ids)) t.requests
gone stamp [] t = sym (filter-all _ t.requests (each t.requests))
  where
    each : (rs : List RequestRow) → AllByRecursion (λ r. not (contains_number r.trade []) ≡ true) rs
    each [] = tt
    each (r ∷ rs) = (refl, each rs)
gone stamp (id ∷ ids) t =
    gone stamp ids (tables_after_change_from_pending id Submitted stamp t)
    ∙ filter-filter (λ r. not (r.trade == id)) (λ r. not (contains_number r.trade ids)) t.requests
    ∙ filter-same _ _ t.requests (each t.requests)
  where
    both : (a b : Bool) → not a && not b ≡ not (a || b)
    both true b = refl
    both false b = refl

    each : (rs : List RequestRow) → AllByRecursion (λ r. not (r.trade == id) && not (contains_number r.trade ids) ≡ not (contains_number r.trade (id ∷ ids))) rs
    each [] = tt
    each (r ∷ rs) = (both (r.trade == id) (contains_number r.trade ids) ∙ ap (λ b. not (b || contains_number r.trade ids)) (numbers_back r.trade id), each rs)

abbrev trades_of : List RequestRow → List ℕ
trades_of rs = map (λ r. r.trade) rs

-- no two requests are of one trade
abbrev pub AreApart : List RequestRow → Type 0
AreApart rs = all_distinct (trades_of rs) ≡ true

pub base_apart : (base : Base) → BooksInvariant base → AreApart (sheets base).requests
base_apart = reads_apart

-- the first of them is of another trade than the rest
not_among : (id : ℕ) (rs : List RequestRow) → contains_number id (trades_of rs) ≡ false → AllByRecursion (λ q. (q.trade == id) ≡ false) rs
not_among id [] e = tt
not_among id (r ∷ rs) e = let other = neither (r.trade == id) (contains_number id (trades_of rs)) e in (other.0, not_among id rs other.1)
  where
    neither : (a b : Bool) → a || b ≡ false → (a ≡ false) × (b ≡ false)
    neither true b e = absurd (cc)
    neither false b e = (refl, e)

first_apart : (a b : Bool) → not a && b ≡ true → (a ≡ false) × (b ≡ true)
first_apart true b e = absurd (cc)
first_apart false b e = (refl, e)

other_trades : (h : RequestRow → Bool) (id : ℕ) (rs : List RequestRow) → AllByRecursion (λ q. (q.trade == id) ≡ false) rs → contains_number id (trades_of (filter h rs)) ≡ false
other_trades h id [] g = refl
other_trades h id (r ∷ rs) g = by_test (h r) (other_trades h id rs g.1)
  where
    by_test : (b : Bool) → contains_number id (trades_of (filter h rs)) ≡ false → contains_number id (trades_of (cond b (r ∷ filter h rs) (filter h rs))) ≡ false
    by_test true e = ap (λ b. b || contains_number id (trades_of (filter h rs))) g.0 ∙ e
    by_test false e = e

-- among requests of different trades, those of the trades of some are these
own_trades : (h : RequestRow → Bool) (rs : List RequestRow) → AreApart rs → AllByRecursion (λ r. contains_number r.trade (trades_of (filter h rs)) ≡ h r) rs
own_trades h [] d = tt
own_trades h (r ∷ rs) d =
    let apart = first_apart (contains_number r.trade (trades_of rs)) (all_distinct (trades_of rs)) d in
    let others = not_among r.trade rs apart.0 in
    (first others (h r), later (h r) rs others (own_trades h rs apart.1))
  where
    first : AllByRecursion (λ q. (q.trade == r.trade) ≡ false) rs → (b : Bool) → contains_number r.trade (trades_of (cond b (r ∷ filter h rs) (filter h rs))) ≡ b
    first g true = ap (λ b. b || contains_number r.trade (trades_of (filter h rs))) (eq-eqb r.trade r.trade refl)
    first g false = other_trades h r.trade rs g

    later : (b : Bool) (qs : List RequestRow) → AllByRecursion (λ q. (q.trade == r.trade) ≡ false) qs → AllByRecursion (λ q. contains_number q.trade (trades_of (filter h rs)) ≡ h q) qs
        → AllByRecursion (λ q. contains_number q.trade (trades_of (cond b (r ∷ filter h rs) (filter h rs))) ≡ h q) qs
    later true [] g k = tt
    later true (q ∷ qs) g k = (ap (λ b. b || contains_number q.trade (trades_of (filter h rs))) (numbers_back r.trade q.trade ∙ g.0) ∙ k.0, later true qs g.1 k.1)
    later false qs g k = k

requests_kept : (t : Tables) (stamp : ℕ) (tick : Tick) (o : Option LastTradeRow)
    → (option_map_or (λ l. tables_with_last_trade_replaced (last_trade_row_after_tick stamp tick l) t) o t).requests ≡ t.requests
requests_kept t stamp tick None = refl
requests_kept t stamp tick (Some l) = refl

tick_requests : (t : Tables) (stamp : ℕ) (tick : Tick) → AreApart t.requests → (tables_after_tick stamp tick t).requests ≡ filter (λ r. not (is_triggered_request tick r)) t.requests
tick_requests t stamp tick d =
    gone stamp (trade_ids_triggered_by_tick tick t) (tables_with_last_trade_after_tick stamp tick t)
    ∙ ap (filter (λ r. not (contains_number r.trade (trade_ids_triggered_by_tick tick t)))) (requests_kept t stamp tick (last_trade_row_of_symbol t tick.symbol))
    ∙ filter-same (λ r. not (contains_number r.trade (trade_ids_triggered_by_tick tick t))) (λ r. not (is_triggered_request tick r)) t.requests
    (All-map t.requests (λ r e. ap not e) (own_trades (is_triggered_request tick) t.requests d))

-- of a symbol
pub tick_symbol : (t : Tables) (stamp : ℕ) (tick : Tick) (symbol : Text) → AreApart t.requests
    → requests_of_symbol (tables_after_tick stamp tick t) symbol ≡ filter (λ r. not (is_triggered_request tick r)) (requests_of_symbol t symbol)
tick_symbol t stamp tick symbol d =
    ap (filter (λ r. bytes_eq r.symbol symbol)) (tick_requests t stamp tick d) ∙ filter-swap (λ r. bytes_eq r.symbol symbol) (λ r. not (is_triggered_request tick r)) t.requests

apart_filter : (p : RequestRow → Bool) (rs : List RequestRow) → AreApart rs → AreApart (filter p rs)
apart_filter p [] d = refl
apart_filter p (r ∷ rs) d =
    let apart = first_apart (contains_number r.trade (trades_of rs)) (all_distinct (trades_of rs)) d in
    by_test (p r) (other_trades p r.trade rs (not_among r.trade rs apart.0)) (apart_filter p rs apart.1)
  where
    by_test : (b : Bool) → contains_number r.trade (trades_of (filter p rs)) ≡ false → AreApart (filter p rs) → AreApart (cond b (r ∷ filter p rs) (filter p rs))
    by_test true g k = ap (λ b. not b && all_distinct (trades_of (filter p rs))) g ∙ k
    by_test false g k = k

pub tick_apart : (t : Tables) (stamp : ℕ) (tick : Tick) → AreApart t.requests → AreApart (tables_after_tick stamp tick t).requests
tick_apart t stamp tick d = subst AreApart (sym (tick_requests t stamp tick d)) (apart_filter (λ r. not (is_triggered_request tick r)) t.requests d)
