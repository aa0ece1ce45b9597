-- The history of the base of rows is the history of the rows.
use Rattle.std.proofs.Common.{◌≡◌, ℕ, ◌==◌, true, List, [], ◌∷◌, refl, sym, ◌∙◌, ap, map, arith}
use Rattle.std.specs.Prelude.{◌||◌, not, nat_lt, nat_le, flat_map}
use Rattle.std.specs.List.{AllByRecursion}
use Rattle.std.proofs.lemmas.Bool.{eqb-true, eq-eqb, or_left}
use Rattle.std.proofs.lemmas.Bool.Decides.{nat_tests}
use Rattle.brk_money.specs.Kinds.{is_same_trade_status}
use Rattle.brk_money.specs.Moments.{greatest_day}
use Rattle.brk_money.specs.declared.status.Status.TheVariants.{Completed}
use Rattle.brk_model.specs.Lists.{sort_by_key}
use Rattle.brk_model.specs.Records.{StatusChange}
use Rattle.brk_model.specs.Derived.{due_day_of_completion_stamp}
use Rattle.brk_model.specs.Tables.{Tables, TradeRow, HistoryRow, history_rows}
use Rattle.brk_model.specs.Joins.{history_rows_with_trade_id}
use Rattle.brk_model.specs.Keys.{number, is_key_less, rows_sorted_by_key, insert_row_by_key, history_key, trade_key}
use Rattle.brk_model.specs.Adopted.{trade_of_row}
use Rattle.brk_model.specs.Form.{has_trade, is_well_formed_history_row, is_at_most_last_stamp}
use Rattle.brk_trade_books.proofs.Order.{rows_commute}
use Rattle.brk_trade_books.proofs.Same.{All-map, All-of}
use Rattle.brk_trade_books.proofs.LotReading.{all_pass}
use Rattle.brk_trade_books.proofs.Each.{AllCommute, Commute, each, each_map, each_sort}
use Rattle.brk_audit_theorems.proofs.Climbs.{AllBefore, Climbs, In, climbs_append, climbs_filter, each_in, not_itself, same_rows, stays}
use Rattle.brk_audit_theorems.proofs.Members.{All-flat_map, FoundIn, each-append, each-same, found_in, in_filter, in_flat_map, sorted_each}
use Rattle.brk_audit_theorems.proofs.Marks.{filtered}
use Rattle.brk_model_theorems.proofs.Conjunctions.{parts3}

-- a status as a row of a trade's history, and back
abbrev row_of : ℕ → StatusChange → HistoryRow
row_of id m = record { trade = id; status = m.status; stamp = m.stamp }

abbrev mark_of : HistoryRow → StatusChange
mark_of h = record { stamp = h.stamp; status = h.status }

-- putting in a status of a trade
abbrev put : ℕ → StatusChange → List HistoryRow → List HistoryRow
put id m rows = insert_row_by_key history_key (row_of id m) rows

back : (id : ℕ) (h : HistoryRow) → h.trade ≡ id → row_of id (mark_of h) ≡ h
back id h e = λ i. record h { trade = sym e i }

commute_first : (id : ℕ) (h : HistoryRow) (hs : List HistoryRow) → h.trade ≡ id → AllByRecursion (λ k. is_key_less (history_key h) (history_key k) ≡ true) hs
    → AllByRecursion (λ k. k.trade ≡ id) hs → AllByRecursion (Commute (put id) (mark_of h)) (map mark_of hs)
commute_first id h [] e c k = tt
commute_first id h (g ∷ hs) e c k = (
  (λ s. rows_commute history_key (row_of id (mark_of h)) (row_of id (mark_of g)) s (λ p.
      not_itself (history_key h) (history_key g) (ap history_key (sym (back id h e)) ∙ p ∙ ap history_key (back id g k.0)) c.0)),
  commute_first id h hs e c.1 k.1,
)

commute_all : (id : ℕ) (hs : List HistoryRow) → Climbs history_key hs → AllByRecursion (λ k. k.trade ≡ id) hs → AllCommute (put id) (map mark_of hs)
commute_all id [] c k = tt
commute_all id (h ∷ hs) c k = (commute_first id h hs k.0 c.0 k.1, commute_all id hs c.1 k.1)

of_trade : (t : Tables) (id : ℕ) → AllByRecursion (λ h. h.trade ≡ id) (history_rows_with_trade_id t id)
of_trade t id = All-map (history_rows_with_trade_id t id) (λ h e. eqb-true h.trade id e) (all_pass (λ h. h.trade == id) t.history)

-- the statuses of one trade, in the order of their stamps, are put in as its rows are
pub own_rows : (t : Tables) (r : TradeRow) (s : List HistoryRow) → Climbs history_key t.history
    → each (insert_row_by_key history_key) (history_rows (trade_of_row t r)) s ≡ each (insert_row_by_key history_key) (history_rows_with_trade_id t r.id) s
own_rows t r s c =
    let hs : List HistoryRow = history_rows_with_trade_id t r.id in
    let ms : List StatusChange = map mark_of hs in
    each_map (insert_row_by_key history_key) (row_of r.id) (sort_by_key (λ m. m.stamp) ms) s
    ∙ each_sort (put r.id) (λ x y. nat_lt x.stamp y.stamp) ms s
    (commute_all r.id hs (climbs_filter history_key (λ h. h.trade == r.id) t.history c) (of_trade t r.id))
    ∙ each_map (put r.id) mark_of hs s
    ∙ each-same (λ h. put r.id (mark_of h)) (insert_row_by_key history_key) hs s
    (All-map hs (λ h e. ap (insert_row_by_key history_key) (back r.id h e)) (of_trade t r.id))

all_rows : (t : Tables) (rs : List TradeRow) (s : List HistoryRow) → Climbs history_key t.history
    → each (insert_row_by_key history_key) (flat_map history_rows (map (trade_of_row t) rs)) s ≡ each (insert_row_by_key history_key) (flat_map (λ r. history_rows_with_trade_id t r.id) rs) s
all_rows t [] s c = refl
all_rows t (r ∷ rs) s c =
    each-append (insert_row_by_key history_key) (history_rows (trade_of_row t r)) (flat_map history_rows (map (trade_of_row t) rs)) s
    ∙ ap (each (insert_row_by_key history_key) (history_rows (trade_of_row t r))) (all_rows t rs s c)
    ∙ own_rows t r (each (insert_row_by_key history_key) (flat_map (λ r. history_rows_with_trade_id t r.id) rs) s) c
    ∙ sym (each-append (insert_row_by_key history_key) (history_rows_with_trade_id t r.id) (flat_map (λ r. history_rows_with_trade_id t r.id) rs) s)

-- ---- the histories of the trades, one after another, are the history

before_by_trade : (h k : HistoryRow) (a b : ℕ) → h.trade ≡ a → k.trade ≡ b → nat_lt a b ≡ true → is_key_less (history_key h) (history_key k) ≡ true
before_by_trade h k a b e f l = or_left (nat_lt h.trade k.trade) _ ((λ i. nat_lt (e i) (f i)) ∙ l)

lower : (m n : ℕ) → is_key_less (number m ∷ []) (number n ∷ []) ≡ true → nat_lt m n ≡ true
lower m n h = grind (arith, nat_tests)

behind : (t : Tables) (r : TradeRow) (rs : List TradeRow) → AllByRecursion (λ u. is_key_less (trade_key r) (trade_key u) ≡ true) rs
    → AllBefore history_key (history_rows_with_trade_id t r.id) (flat_map (λ u. history_rows_with_trade_id t u.id) rs)
behind t r rs c =
    All-map (history_rows_with_trade_id t r.id) (λ h e. All-flat_map (λ k. is_key_less (history_key h) (history_key k) ≡ true) (λ u. history_rows_with_trade_id t u.id) rs
    (All-map rs (λ u b. All-map (history_rows_with_trade_id t u.id) (λ k f. before_by_trade h k r.id u.id e f (lower r.id u.id b)) (of_trade t u.id)) c)) (of_trade t r.id)

histories_climb : (t : Tables) (rs : List TradeRow) → Climbs history_key t.history → Climbs trade_key rs → Climbs history_key (flat_map (λ r. history_rows_with_trade_id t r.id) rs)
histories_climb t [] c d = tt
histories_climb t (r ∷ rs) c d =
    climbs_append history_key (history_rows_with_trade_id t r.id) (flat_map (λ r. history_rows_with_trade_id t r.id) rs)
    (climbs_filter history_key (λ h. h.trade == r.id) t.history c) (histories_climb t rs c d.1) (behind t r rs d.0)

in_own : (t : Tables) (h : HistoryRow) → In h t.history → has_trade t h.trade ≡ true → In h (flat_map (λ r. history_rows_with_trade_id t r.id) t.trades)
in_own t h m e =
    let f : FoundIn TradeRow (λ row. row.id == h.trade) t.trades = found_in (λ row. row.id == h.trade) t.trades e in
    in_flat_map (λ r. history_rows_with_trade_id t r.id) t.trades f.item h f.there
    (in_filter (λ k. k.trade == f.item.id) t.history h m (eq-eqb h.trade f.item.id (sym (eqb-true f.item.id h.trade f.passes))))

trade_there : (t : Tables) (h : HistoryRow) → is_well_formed_history_row t h ≡ true → has_trade t h.trade ≡ true
trade_there t h e = (parts3 (has_trade t h.trade) (is_at_most_last_stamp t h.stamp)
    (not (is_same_trade_status h.status Completed) || nat_le (due_day_of_completion_stamp t.rule h.stamp) greatest_day) e).0

both_all : {X : Type 0} (P Q : X → Type 0) (xs : List X) → AllByRecursion P xs → AllByRecursion Q xs → AllByRecursion (λ x. P x × Q x) xs
both_all P Q [] g h = tt
both_all P Q (x ∷ xs) g h = ((g.0, h.0), both_all P Q xs g.1 h.1)

pub joined : (t : Tables) → Climbs history_key t.history → Climbs trade_key t.trades → AllByRecursion (λ h. is_well_formed_history_row t h ≡ true) t.history
    → flat_map (λ r. history_rows_with_trade_id t r.id) t.trades ≡ t.history
joined t c d f =
    same_rows history_key (flat_map (λ r. history_rows_with_trade_id t r.id) t.trades) t.history (histories_climb t t.trades c d) c
    (All-flat_map (λ h. In h t.history) (λ r. history_rows_with_trade_id t r.id) t.trades
    (All-of t.trades (λ r. All-map (history_rows_with_trade_id t r.id) (λ h k. k.0) (filtered (λ h. In h t.history) (λ h. h.trade == r.id) t.history (each_in t.history)))))
    (All-map t.history (λ h k. in_own t h k.0 (trade_there t h k.1)) (both_all (λ h. In h t.history) (λ h. is_well_formed_history_row t h ≡ true) t.history (each_in t.history) f))

pub adopted_history : (t : Tables) → Climbs history_key t.history → Climbs trade_key t.trades → AllByRecursion (λ h. is_well_formed_history_row t h ≡ true) t.history
    → rows_sorted_by_key history_key (flat_map history_rows (map (trade_of_row t) t.trades)) ≡ t.history
adopted_history t c d f =
    sorted_each history_key (flat_map history_rows (map (trade_of_row t) t.trades)) ∙ all_rows t t.trades [] c
    ∙ sym (sorted_each history_key (flat_map (λ r. history_rows_with_trade_id t r.id) t.trades)) ∙ ap (rows_sorted_by_key history_key) (joined t c d f) ∙ stays history_key t.history c
