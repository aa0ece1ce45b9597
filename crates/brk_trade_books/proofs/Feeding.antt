-- The tables after a cancel, and after the ticks of a feed.
use Rattle.std.proofs.Common.{◌≡◌, ℕ, ◌==◌, Bool, true, false, cond, List, [], ◌∷◌, ◌++◌, refl, sym, subst, ◌∙◌, ap, map, Some}
use Rattle.std.specs.Prelude.{◌&&◌, flat_map, is_some, option_map, bytes_eq}
use Rattle.std.specs.Option.{option_map_or}
use Rattle.std.specs.List.{AllByRecursion}
use Rattle.std.proofs.lemmas.Bool.{eqb-true}
use Rattle.std.proofs.lemmas.Slice.Eq.{bytes_eq-Decides}
use Rattle.brk_money.specs.Spelling.{Text}
use Rattle.brk_money.specs.declared.status.Status.TheVariants.{Submitted, Pending, Canceled}
use Rattle.brk_model.specs.Lists.{update_where}
use Rattle.brk_model.specs.Records.{Security, Trade}
use Rattle.brk_model.specs.Base.{Base, trade_with_id, security_with_symbol, completed_trades, has_last_status, trade_with_status_change, base_with_updated_trades}
use Rattle.brk_model.specs.Derived.{shares_of_position, holding_summary_quantity, balance_of_account, trade_count_of_broker, commission_total_of_broker}
use Rattle.brk_model.specs.Tables.{LastTradeRow, tables_of_base_in_schema, security_row, last_trade_row, summary_rows}
use Rattle.brk_model.specs.Keys.{rows_sorted_by_key, security_key, last_trade_key, summary_key}
use Rattle.brk_model.specs.Sheets.{sheets, tables_sorted_by_key}
use Rattle.brk_model.specs.Commands.{Tick}
use Rattle.brk_model.specs.Feed.{is_triggered_by_tick, is_triggering_price, security_after_tick, triggered_trade_ids, base_with_security_after_tick, base_after_tick, base_after_ticks}
use Rattle.brk_trade_rows.specs.Changes.{tables_with_last_trade_replaced}
use Rattle.brk_model.specs.Names.{TradesAreNumberedFrom}
use Rattle.brk_trade_books.specs.Books.{HasOneStatusChangeIfPending, HasOneStatusChange, HasDistinctSymbols}
use Rattle.brk_trade_books.specs.Trading.{tables_after_cancel, tables_with_trades_submitted, last_trade_row_after_tick, tables_with_last_trade_after_tick}
use Rattle.brk_trade_books.specs.Trading.{tables_after_tick, tables_after_feed, trade_ids_triggered_by_feed}
use Rattle.brk_trade_books.proofs.Order.{by_key-map}
use Rattle.brk_trade_books.proofs.Same.{NonePass, find-All, All-map, All-mapped, All-of, flat_map-same}
use Rattle.brk_trade_books.proofs.Places.{FoundAt, find-at, some_of, map-append, update_where-one, All-updated, is_some-unseen, map-unseen, flat_map-unseen}
use Rattle.brk_trade_books.proofs.Numbering.{numbered_before, numbered_after, numbered_updated, moved_way}
use Rattle.brk_trade_books.proofs.Moving.{with_list, moved_one, submitted_all}
use Rattle.brk_trade_books.proofs.TradeReading.{reads_triggered}
use Rattle.brk_trade_books.proofs.TermReading.{reads_last_trade}

-- ---- a cancel

pub canceled_rows : (base : Base) (stamp id : ℕ) (t : Trade) → TradesAreNumberedFrom 1 base.trades → AllByRecursion HasOneStatusChangeIfPending base.trades
    → trade_with_id base id ≡ Some t → has_last_status Pending t ≡ true
    → sheets (base_with_updated_trades (λ u. u.id == id) (trade_with_status_change stamp Canceled) base) ≡ tables_after_cancel stamp id (sheets base)
canceled_rows base stamp id t n w e p =
    let f : FoundAt Trade (λ u. u.id == id) t base.trades = find-at (λ u. u.id == id) base.trades t e in
    let same : t.id ≡ id = eqb-true t.id id f.passes in
    let k : TradesAreNumberedFrom 1 (f.before ++ t ∷ f.after) = subst (TradesAreNumberedFrom 1) f.stands n in
    let one : HasOneStatusChange t.marks = find-All HasOneStatusChangeIfPending (λ u. u.id == id) base.trades t w e p in
    let after : NonePass (λ u. u.id == id) f.after = subst (λ m. NonePass (λ u. u.id == m) f.after) same (numbered_after 1 f.before t f.after k) in
    let moved = update_where-one (λ u. u.id == id) (trade_with_status_change stamp Canceled) f.before t f.after f.others f.passes after in
    ap (λ ts. sheets (with_list base (update_where (λ u. u.id == id) (trade_with_status_change stamp Canceled) ts))) f.stands
    ∙ ap (λ ts. sheets (with_list base ts)) moved
    ∙ moved_one base stamp Canceled f.before t f.after (numbered_before 1 f.before t f.after k) (numbered_after 1 f.before t f.after k) one p refl refl
    ∙ ap (λ ts. tables_after_cancel stamp t.id (sheets (with_list base ts))) (sym f.stands)
    ∙ ap (λ m. tables_after_cancel stamp m (sheets base)) same

-- ---- the price of a tick

symbols_after : (xs : List Security) (s : Security) (ys : List Security) → HasDistinctSymbols (xs ++ s ∷ ys) → NonePass (λ u. bytes_eq u.symbol s.symbol) ys
symbols_after [] s ys d = d.0
symbols_after (x ∷ xs) s ys d = symbols_after xs s ys d.1

-- another last trade's price, stamp and volume
abbrev set_last : LastTradeRow → LastTradeRow → LastTradeRow
set_last l r = record r { stamp = l.stamp; price = l.price; volume = l.volume }

priced_last : (stamp : ℕ) (tick : Tick) (xs : List Security) (s : Security) (ys : List Security)
    → NonePass (λ u. bytes_eq u.symbol s.symbol) xs → NonePass (λ u. bytes_eq u.symbol s.symbol) ys
    → rows_sorted_by_key last_trade_key (map last_trade_row (xs ++ security_after_tick stamp tick s ∷ ys))
    ≡ update_where (λ r. bytes_eq r.symbol s.symbol) (set_last (last_trade_row_after_tick stamp tick (last_trade_row s))) (rows_sorted_by_key last_trade_key (map last_trade_row (xs ++ s ∷ ys)))
priced_last stamp tick xs s ys g h =
    let f : LastTradeRow → LastTradeRow = set_last (last_trade_row_after_tick stamp tick (last_trade_row s)) in
    let change : LastTradeRow → LastTradeRow = λ r. cond (bytes_eq r.symbol s.symbol) (f r) r in
    ap (rows_sorted_by_key last_trade_key) (map-append last_trade_row xs (security_after_tick stamp tick s ∷ ys)
    ∙ sym (update_where-one (λ r. bytes_eq r.symbol s.symbol) f (map last_trade_row xs) (last_trade_row s) (map last_trade_row ys)
    (All-mapped _ last_trade_row xs g) ((bytes_eq-Decides s.symbol s.symbol).1 refl) (All-mapped _ last_trade_row ys h))
    ∙ ap (map change) (sym (map-append last_trade_row xs (s ∷ ys))))
    ∙ by_key-map last_trade_key last_trade_key change (map last_trade_row (xs ++ s ∷ ys)) (λ r. same_key r (bytes_eq r.symbol s.symbol))
  where
    same_key : (r : LastTradeRow) (b : Bool) → last_trade_key (cond b (set_last (last_trade_row_after_tick stamp tick (last_trade_row s)) r) r) ≡ last_trade_key r
    same_key r true = refl
    same_key r false = refl

set_rows : (base : Base) (stamp : ℕ) (tick : Tick) (s : Security) → HasDistinctSymbols base.securities → security_with_symbol base tick.symbol ≡ Some s
    → sheets (base_with_security_after_tick stamp tick base) ≡ tables_with_last_trade_replaced (last_trade_row_after_tick stamp tick (last_trade_row s)) (sheets base)
unfolding tables_of_base_in_schema tables_sorted_by_key shares_of_position holding_summary_quantity balance_of_account trade_count_of_broker commission_total_of_broker
set_rows base stamp tick s d e =
    let p : Security → Bool = λ u. bytes_eq u.symbol tick.symbol in
    let f : FoundAt Security p s base.securities = find-at p base.securities s e in
    let k : HasDistinctSymbols (f.before ++ s ∷ f.after) = subst HasDistinctSymbols f.stands d in
    let same : s.symbol ≡ tick.symbol = (bytes_eq-Decides s.symbol tick.symbol).0 f.passes in
    let behind : NonePass (λ u. bytes_eq u.symbol s.symbol) f.after = symbols_after f.before s f.after k in
    let before : NonePass (λ u. bytes_eq u.symbol s.symbol) f.before = subst (λ m. NonePass (λ u. bytes_eq u.symbol m) f.before) (sym same) f.others in
    let after : NonePass p f.after = subst (λ m. NonePass (λ u. bytes_eq u.symbol m) f.after) same behind in
    let moved : update_where p (security_after_tick stamp tick) base.securities ≡ f.before ++ security_after_tick stamp tick s ∷ f.after =
    ap (update_where p (security_after_tick stamp tick)) f.stands ∙ update_where-one p (security_after_tick stamp tick) f.before s f.after f.others f.passes after in
    let lasts =
    ap (λ ss. rows_sorted_by_key last_trade_key (map last_trade_row ss)) moved ∙ priced_last stamp tick f.before s f.after before behind
    ∙ ap (λ ss. update_where (λ r. bytes_eq r.symbol s.symbol) (set_last (last_trade_row_after_tick stamp tick (last_trade_row s)))
    (rows_sorted_by_key last_trade_key (map last_trade_row ss))) (sym f.stands) in
    let rows = map-unseen p (security_after_tick stamp tick) security_row base.securities (λ s. refl) in
    let sums = flat_map-same (λ a. flat_map (λ s. summary_rows (completed_trades base) a.id s.symbol) (update_where p (security_after_tick stamp tick) base.securities))
    (λ a. flat_map (λ s. summary_rows (completed_trades base) a.id s.symbol) base.securities) base.accounts
    (All-of base.accounts (λ a. flat_map-unseen p (security_after_tick stamp tick) (λ s. summary_rows (completed_trades base) a.id s.symbol) base.securities (λ s. refl))) in
    λ i. record (sheets base) {
      securities = rows_sorted_by_key security_key (rows i);
      last_trades = lasts i;
      summaries = rows_sorted_by_key summary_key (sums i);
    }

priced_rows : (base : Base) (stamp : ℕ) (tick : Tick) (s : Security) → HasDistinctSymbols base.securities → security_with_symbol base tick.symbol ≡ Some s
    → sheets (base_with_security_after_tick stamp tick base) ≡ tables_with_last_trade_after_tick stamp tick (sheets base)
priced_rows base stamp tick s d e =
    set_rows base stamp tick s d e
    ∙ sym (ap (λ o. option_map_or (λ l. tables_with_last_trade_replaced (last_trade_row_after_tick stamp tick l) (sheets base)) o (sheets base))
    (reads_last_trade base tick.symbol ∙ ap (option_map last_trade_row) e))

-- ---- a tick, and ticks one after another

and_left : (a b : Bool) → a && b ≡ true → a ≡ true
and_left true b e = refl
and_left false b e = e

-- what ticks rest on, and keep
pub record Ready (base : Base) : Type 0 where
  pub symbols : HasDistinctSymbols base.securities
  pub numbered : TradesAreNumberedFrom 1 base.trades
  pub ways : AllByRecursion HasOneStatusChangeIfPending base.trades

pub ticked_rows : (base : Base) (stamp : ℕ) (tick : Tick) (s : Security) → Ready base → security_with_symbol base tick.symbol ≡ Some s
    → sheets (base_after_tick stamp base tick) ≡ tables_after_tick stamp tick (sheets base)
ticked_rows base stamp tick s r e =
    submitted_all (base_with_security_after_tick stamp tick base) stamp (is_triggered_by_tick tick) [] base.trades r.numbered
    (All-of base.trades (λ t k. and_left (has_last_status Pending t) (bytes_eq t.symbol tick.symbol)
    (and_left (has_last_status Pending t && bytes_eq t.symbol tick.symbol) (is_triggering_price t.kind t.bid tick.price) k))) r.ways
    ∙ (λ i. tables_with_trades_submitted stamp (sym (reads_triggered base tick r.numbered) i) (priced_rows base stamp tick s r.symbols e i))

symbols_kept : (tick : Tick) (stamp : ℕ) (ss : List Security) → HasDistinctSymbols ss → HasDistinctSymbols (update_where (λ s. bytes_eq s.symbol tick.symbol) (security_after_tick stamp tick) ss)
symbols_kept tick stamp [] d = tt
symbols_kept tick stamp (s ∷ ss) d = (
  others (bytes_eq s.symbol tick.symbol)
      (All-updated (λ u. bytes_eq u.symbol s.symbol ≡ false) (λ s. bytes_eq s.symbol tick.symbol) (security_after_tick stamp tick) ss (λ u h. h) d.0),
  symbols_kept tick stamp ss d.1,
)
  where
    U : List Security
    U = update_where (λ s. bytes_eq s.symbol tick.symbol) (security_after_tick stamp tick) ss

    others : (b : Bool) → NonePass (λ u. bytes_eq u.symbol s.symbol) U → NonePass (λ u. bytes_eq u.symbol (cond b (security_after_tick stamp tick s) s).symbol) U
    others true h = h
    others false h = h

pub ready_tick : (base : Base) (stamp : ℕ) (tick : Tick) → Ready base → Ready (base_after_tick stamp base tick)
ready_tick base stamp tick r = record {
  symbols = symbols_kept tick stamp base.securities r.symbols;
  numbered = numbered_updated 1 (is_triggered_by_tick tick) (trade_with_status_change stamp Submitted) base.trades (λ t. refl) r.numbered;
  ways = All-updated HasOneStatusChangeIfPending (is_triggered_by_tick tick) (trade_with_status_change stamp Submitted) base.trades (λ t h. moved_way stamp Submitted t refl) r.ways;
}

-- the symbols of ticks are known, and stay so
abbrev pub KnowsTicks : Base → List Tick → Type 0
KnowsTicks base ticks = AllByRecursion (λ tick. is_some (security_with_symbol base tick.symbol) ≡ true) ticks

pub known_after : (base : Base) (stamp : ℕ) (tick : Tick) (symbol : Text) → is_some (security_with_symbol base symbol) ≡ true
    → is_some (security_with_symbol (base_after_tick stamp base tick) symbol) ≡ true
known_after base stamp tick symbol h =
    is_some-unseen (λ s. bytes_eq s.symbol tick.symbol) (security_after_tick stamp tick) (λ s. bytes_eq s.symbol symbol) base.securities (λ s. refl) ∙ h

pub know_after : (base : Base) (stamp : ℕ) (tick : Tick) (ticks : List Tick) → KnowsTicks base ticks → KnowsTicks (base_after_tick stamp base tick) ticks
know_after base stamp tick ticks k = All-map ticks (λ u h. known_after base stamp tick u.symbol h) k

pub fed_rows : (base : Base) (stamp : ℕ) (ticks : List Tick) → Ready base → KnowsTicks base ticks → sheets (base_after_ticks stamp base ticks) ≡ tables_after_feed stamp ticks (sheets base)
unfolding base_after_ticks
fed_rows base stamp [] r k = refl
fed_rows base stamp (tick ∷ ticks) r k =
    let found = some_of (security_with_symbol base tick.symbol) k.0 in
    fed_rows (base_after_tick stamp base tick) stamp ticks (ready_tick base stamp tick r) (know_after base stamp tick ticks k.1)
    ∙ ap (tables_after_feed stamp ticks) (ticked_rows base stamp tick found.0 r found.1)

-- the trades that ticks trigger
pub fed_triggered : (base : Base) (stamp : ℕ) (ticks : List Tick) → Ready base → KnowsTicks base ticks → triggered_trade_ids stamp base ticks ≡ trade_ids_triggered_by_feed stamp ticks (sheets base)
unfolding triggered_trade_ids
fed_triggered base stamp [] r k = refl
fed_triggered base stamp (tick ∷ ticks) r k =
    let found = some_of (security_with_symbol base tick.symbol) k.0 in
    let rest : triggered_trade_ids stamp (base_after_tick stamp base tick) ticks ≡ trade_ids_triggered_by_feed stamp ticks (tables_after_tick stamp tick (sheets base)) =
    fed_triggered (base_after_tick stamp base tick) stamp ticks (ready_tick base stamp tick r) (know_after base stamp tick ticks k.1)
    ∙ ap (trade_ids_triggered_by_feed stamp ticks) (ticked_rows base stamp tick found.0 r found.1) in
    λ i. sym (reads_triggered base tick r.numbered) i ++ rest i
