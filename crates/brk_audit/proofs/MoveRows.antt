-- The lot changes of completed trades, position by position, are the history of lots of their base.
use Rattle.std.proofs.Common.{◌≡◌, ℕ, ◌+◌, ◌==◌, ◌&&◌, Bool, true, false, cond, List, [], ◌∷◌, ◌++◌, refl, sym, ap, ◌∙◌, subst, map, filter, arith, inl, inr}
use Rattle.std.specs.Prelude.{◌↔◌, flat_map}
use Rattle.std.specs.Bool.{Decides}
use Rattle.std.specs.List.{AllByRecursion, sum_by}
use Rattle.std.specs.List.Sorted.{IsPermutation}
use Rattle.std.specs.Ordering.{int_eq}
use Rattle.std.proofs.lemmas.Bool.{and_from, and_parts, cases_Bool, eq-eqb, eqb-true, eqb-false}
use Rattle.std.proofs.lemmas.Bool.Decides.{Decides-int_eq}
use Rattle.std.proofs.lemmas.List.Sums.{sum_by-cons}
use Rattle.brk_model.specs.Records.{Trade}
use Rattle.brk_model.specs.Base.{Base, completed_trades}
use Rattle.brk_model.specs.Derived.{deal_of_trade, deals_of_position}
use Rattle.brk_model.specs.Keys.{KeyPart, rows_sorted_by_key, is_row_key_less, holding_history_key}
use Rattle.brk_model.specs.Shares.{Deal}
use Rattle.brk_model.specs.Tables.{HoldingHistoryRow, Tables, TradeRow, tables_of_base_in_schema}
use Rattle.brk_lots.proofs.HistoryRows.{rows_of_lots_are}
use Rattle.brk_lots.specs.HistoryRows.{has_quantity_change, lot_rows_with_quantity_change, lot_history_rows_per_deal}
use Rattle.brk_model.specs.Sheets.{sheets, tables_sorted_by_key}
use Rattle.brk_model.specs.Adopted.{base_of_tables, trade_of_row}
use Rattle.brk_model.specs.Audit.{expected_tables}
use Rattle.brk_model.specs.Ways.{satisfies_status_condition}
use Rattle.brk_lots.specs.Chains.{lot_changes_of_deals}
use Rattle.brk_lots.specs.Deals.{AreDistinctAscendingDeals, PrecedesDealOfOtherTrade}
use Rattle.brk_trade_books.specs.Books.{BooksInvariant}
use Rattle.brk_trade_books.proofs.LotOrder.{Follows, InOrder, held_in_order, trades_held}
use Rattle.brk_trade_books.proofs.Order.{Sorted, key_one_way, key_splits, sorted_sort}
use Rattle.brk_trade_books.proofs.Same.{All-map, All-of}
use Rattle.brk_audit_theorems.proofs.AdoptedBooks.{adopted_books}
use Rattle.brk_audit_theorems.proofs.Climbs.{Climbs}
use Rattle.brk_audit_theorems.proofs.Parts.{key_parts}
use Rattle.brk_model_theorems.proofs.FormParts.{form_parts}
use Rattle.brk_audit_sums.proofs.Sums.{completed_trade_rows}
use Rattle.brk_audit.specs.Positions.{AreLotChangesOfTrades, moves, is_before_by_position, deal_of_completed_row, has_same_position, untouched}
use Rattle.brk_audit_sums.proofs.Completed.{completed_rows}
use Rattle.brk_audit.proofs.Leaving.{AreDealt, deals_among, own_run}
use Rattle.brk_audit.proofs.LotRows.{dealt}
use Rattle.brk_audit.proofs.Moves.{run_sums}
use Rattle.brk_trade_books.proofs.Orders.{SameSums, permuted, sum_append, sum_map, sum_none, sum_same, sum_sort}
use Rattle.brk_audit.proofs.Places.{all_back, at_one, same_self}
use Rattle.brk_audit_sums.specs.Conditions.{IsWellFormedBySomeSchema}
use Rattle.brk_audit.proofs.Expected.{same_history}
use Rattle.brk_model.specs.Schemas.{Schema}

-- ---- in one order

-- whether an element goes before another, and whether it stands beside another and is not that one
abbrev ahead : {X : Type 0} → (X → X → Bool) → X → X → ℕ
ahead before m x = cond (before x m) 1 0

abbrev not_behind : {X : Type 0} → (X → X → Bool) → X → X → ℕ
not_behind before m x = cond (before m x) 0 1

abbrev level : {X : Type 0} → (X → X → Bool) → (X → X → Bool) → X → X → ℕ
level before same m x = cond (before x m) 0 (cond (before m x) 0 (cond (same x m) 0 1))

-- two lists with the same sums, of which one climbs and the other is sorted, are one
pub key_order_one : {X : Type 0} (key : X → List KeyPart) (same : X → X → Bool) → ((x y : X) → Decides (same x y) (x ≡ y)) → (xs ys : List X) → Climbs key xs
    → Sorted (is_row_key_less key) ys → SameSums ys xs → ys ≡ xs
key_order_one key same d [] [] c a h = refl
key_order_one key same d [] (y ∷ ys) c a h = let e = h (λ _. 1) in absurd (omega (arith, e, sum_by-cons (λ _. 1) y ys))
key_order_one key same d (x ∷ xs) [] c a h = let e = h (λ _. 1) in absurd (omega (arith, e, sum_by-cons (λ _. 1) x xs))
key_order_one {X = X} key same d (x ∷ xs) (y ∷ ys) c a h =
    let b : X → X → Bool = is_row_key_less key in
    let self : b x x ≡ false = itself x in
    let behind : AllByRecursion (λ z. b z x ≡ false) xs = All-map xs (λ z p. key_one_way (key x) (key z) p) c.0 in
    let none_ahead : sum_by (ahead b x) (x ∷ xs) ≡ 0 = sum_none (ahead b x) (x ∷ xs) (ap (λ v. cond v 1 0) self, All-map xs (λ z p. ap (λ v. cond v 1 0) p) behind) in
    let none_level : sum_by (level b same x) (x ∷ xs) ≡ 0 =
    sum_none (level b same x) (x ∷ xs)
    ((λ i. cond (self i) 0 (cond (self i) 0 (cond ((d x x).1 refl i) 0 1))), All-map xs (λ z p. (λ i. cond (key_one_way (key x) (key z) p i) 0 (cond (p i) 0 (cond (same z x) 0 1)))) c.0) in
    let low : b y x ≡ false = elim (cases_Bool (b y x)) [
      | inl e ↦
          let one : ahead b x y ≡ 1 = ap (λ v. cond v 1 0) e in
          let s = h (ahead b x) in
          absurd (omega (arith, one, s, none_ahead, sum_by-cons (ahead b x) y ys))
      | inr e ↦ e
    ] in
    let high : b x y ≡ false = elim (cases_Bool (b x y)) [
      | inl e ↦
          let none : sum_by (not_behind b x) (y ∷ ys) ≡ 0 =
          sum_none (not_behind b x) (y ∷ ys) (ap (λ v. cond v 0 1) e, All-map ys (λ z p. ap (λ v. cond v 0 1) (past z e p)) a.0) in
          let one : not_behind b x x ≡ 1 = ap (λ v. cond v 0 1) self in
          let s = h (not_behind b x) in
          absurd (omega (arith, one, s, none, sum_by-cons (not_behind b x) x xs))
      | inr e ↦ e
    ] in
    let zero_level : level b same x y ≡ 0 = (let s = h (level b same x) in omega (arith, s, none_level, sum_by-cons (level b same x) y ys)) in
    let alike : same y x ≡ true = elim (cases_Bool (same y x)) [
      | inl e ↦ e
      | inr e ↦
          let one : level b same x y ≡ 1 = (λ i. cond (low i) 0 (cond (high i) 0 (cond (e i) 0 1))) in
          absurd (omega (arith, one, zero_level))
    ] in
    let first : y ≡ x = (d y x).0 alike in
    let rest : ys ≡ xs = key_order_one key same d xs ys c.1 a.1 (λ f. let s = h f in let fe : f y ≡ f x = ap f first in omega (arith, s, fe, sum_by-cons f y ys, sum_by-cons f x xs)) in
    ap (λ (z : X). z ∷ ys) first ∙ ap (λ (zs : List X). x ∷ zs) rest
  where
    itself : (z : X) → is_row_key_less key z z ≡ false
    itself z = elim (cases_Bool (is_row_key_less key z z)) [ inl e ↦ key_one_way (key z) (key z) e | inr e ↦ e ]

    past : (z : X) → is_row_key_less key x y ≡ true → is_row_key_less key z y ≡ false → is_row_key_less key x z ≡ true
    past z e p = elim (cases_Bool (is_row_key_less key x z)) [ inl k ↦ k | inr k ↦ let m : is_row_key_less key z y ≡ true = key_splits (key y) (key z) (key x) e k in absurd (cc) ]

-- ---- position by position

-- what the rows of a trade's lot give to a sum
abbrev pub own : Base → (HoldingHistoryRow → ℕ) → TradeRow → ℕ
own base f r = sum_by f (filter has_quantity_change (lot_history_rows_per_deal r.id [] (deals_of_position (completed_trades base) r.account r.symbol)))

deals_of_order : (ts : List Trade) → InOrder ts → AreDistinctAscendingDeals (map deal_of_trade ts)
deals_of_order [] o = tt
deals_of_order (t ∷ ts) o = (behind ts o.0, deals_of_order ts o.1)
  where
    behind : (us : List Trade) → AllByRecursion (Follows t) us → AllByRecursion (PrecedesDealOfOtherTrade (deal_of_trade t)) (map deal_of_trade us)
    behind [] h = tt
    behind (u ∷ us) h = (((λ e. eqb-false u.id t.id h.0.0 (sym e)), h.0.1), behind us h.1)

pub trace_sums : (base : Base) → BooksInvariant base → {rs : List TradeRow} {rows : List HoldingHistoryRow} → AreLotChangesOfTrades rs rows → AreDealt base rs
    → (f : HoldingHistoryRow → ℕ) → sum_by f rows ≡ sum_by (own base f) rs
trace_sums base books untouched d f = refl
trace_sums base books (moves r run later rows same apart l) d f =
    let ds : List Deal = map deal_of_completed_row (r ∷ run) in
    let e : ds ≡ deals_of_position (completed_trades base) r.account r.symbol = ap (map deal_of_completed_row) (sym (own_run r run later same apart)) ∙ d.0 in
    let a : AreDistinctAscendingDeals ds = subst AreDistinctAscendingDeals (sym e) (deals_of_order (trades_held base r.account r.symbol) (held_in_order base r.account r.symbol books)) in
    let here : sum_by f (lot_changes_of_deals ds []) ≡ sum_by (own base f) (r ∷ run) =
    run_sums ds a f ∙ sum_map (λ d. sum_by f (filter has_quantity_change (lot_history_rows_per_deal d.trade [] ds))) deal_of_completed_row (r ∷ run)
    ∙ sum_same (λ s. sum_by f (filter has_quantity_change (lot_history_rows_per_deal s.id [] ds))) (own base f) (r ∷ run) (All-map (r ∷ run) (λ s p. one s p ds e) (same_self r, same)) in
    let rest : AreDealt base later =
    both later apart (all_back (λ s. map deal_of_completed_row (filter (has_same_position s) (r ∷ run ++ later)) ≡ deals_of_position (completed_trades base) s.account s.symbol) run later d.1) in
    sum_append f (lot_changes_of_deals ds []) rows ∙ (λ i. here i + trace_sums base books l rest f i) ∙ sym (sum_append (own base f) (r ∷ run) later)
  where
    one : (s : TradeRow) → has_same_position r s ≡ true → (ds : List Deal) → ds ≡ deals_of_position (completed_trades base) r.account r.symbol
        → sum_by f (filter has_quantity_change (lot_history_rows_per_deal s.id [] ds)) ≡ own base f s
    one s p ds e = let k = at_one r s p in
        ap (λ (es : List Deal). sum_by f (filter has_quantity_change (lot_history_rows_per_deal s.id [] es)))
        (e ∙ (λ i. deals_of_position (completed_trades base) (k.account i) (k.symbol i)))

    both : (ss : List TradeRow) → AllByRecursion (λ s. has_same_position r s ≡ false) ss
        → AllByRecursion (λ s. map deal_of_completed_row (filter (has_same_position s) (r ∷ run ++ later))
        ≡ deals_of_position (completed_trades base) s.account s.symbol) ss
        → AllByRecursion (λ s. map deal_of_completed_row (filter (has_same_position s) later) ≡ deals_of_position (completed_trades base) s.account s.symbol) ss
    both [] a e = tt
    both (s ∷ ss) a e = (ap (map deal_of_completed_row) (sym (deals_among r s run later same a.0)) ∙ e.0, both ss a.1 e.1)

sum_flat : {X Y : Type 0} (f : Y → ℕ) (g : X → List Y) (xs : List X) → sum_by f (flat_map g xs) ≡ sum_by (λ x. sum_by f (g x)) xs
sum_flat f g [] = refl
sum_flat f g (x ∷ xs) = sum_append f (g x) (flat_map g xs) ∙ ap (λ n. sum_by f (g x) + n) (sum_flat f g xs) ∙ sym (sum_by-cons (λ y. sum_by f (g y)) x xs)

-- ---- the whole table

same_change : HoldingHistoryRow → HoldingHistoryRow → Bool
same_change a b = (a.lot == b.lot) && ((a.trade == b.trade) && (int_eq a.before b.before && int_eq a.after b.after))

changes_decide : (a b : HoldingHistoryRow) → Decides (same_change a b) (a ≡ b)
unfolding same_change
changes_decide a b =
    let v = int_eq a.before b.before in
    let w = int_eq a.after b.after in (
      (λ e.
          let p = and_parts (a.lot == b.lot) _ e in
          let q = and_parts (a.trade == b.trade) (v && w) p.1 in
          let r = and_parts v w q.1 in
          λ i. record {
            lot = eqb-true a.lot b.lot p.0 i;
            trade = eqb-true a.trade b.trade q.0 i;
            before = (Decides-int_eq a.before b.before).0 r.0 i;
            after =
                (Decides-int_eq a.after b.after).0 r.1 i;
          }),
      (λ e.
          and_from (a.lot == b.lot) _ (eq-eqb a.lot b.lot (ap (λ (h : HoldingHistoryRow). h.lot) e))
          (and_from (a.trade == b.trade) (v && w) (eq-eqb a.trade b.trade (ap (λ (h : HoldingHistoryRow). h.trade) e))
          (and_from v w ((Decides-int_eq a.before b.before).1 (ap (λ (h : HoldingHistoryRow). h.before) e)) ((Decides-int_eq a.after b.after).1 (ap (λ (h : HoldingHistoryRow). h.after) e))))),
    )

listed : (base : Base) → (sheets base).holding_history ≡ rows_sorted_by_key holding_history_key (flat_map (lot_rows_with_quantity_change (completed_trades base)) (completed_trades base))
unfolding tables_of_base_in_schema tables_sorted_by_key
listed base = ap (rows_sorted_by_key holding_history_key) (rows_of_lots_are (completed_trades base) (completed_trades base))

pub moves_told : (schema : Schema) (t : Tables) → IsWellFormedBySomeSchema t → satisfies_status_condition t ≡ true
    → (rs : List TradeRow) (rows moved : List HoldingHistoryRow) → IsPermutation (completed_trade_rows t) rs → Sorted is_before_by_position rs
    → AreLotChangesOfTrades rs rows → IsPermutation rows moved → Sorted (is_row_key_less holding_history_key) moved
    → (moved ≡ t.holding_history) ↔ (t.holding_history ≡ (expected_tables schema t).holding_history)
moves_told schema t f s rs rows moved p o l q a =
    let base : Base = base_of_tables t in
    let books : BooksInvariant base = adopted_books f.schema t f.form s in
    let done : List Trade = completed_trades base in
    let E : List HoldingHistoryRow = (sheets base).holding_history in
    let climb : Climbs holding_history_key t.holding_history = (key_parts t (form_parts f.schema t f.form).keys).holding_history in
    let ordered : Sorted (is_row_key_less holding_history_key) E =
    subst (Sorted (is_row_key_less holding_history_key)) (sym (listed base))
    (sorted_sort (is_row_key_less holding_history_key) (flat_map (lot_rows_with_quantity_change done) done)
    (λ x y z. key_splits (holding_history_key x) (holding_history_key y) (holding_history_key z))
    (λ x y. key_one_way (holding_history_key x) (holding_history_key y))) in
    let sums : SameSums moved E = λ g.
    permuted rows moved q g ∙ trace_sums base books l (All-of rs (dealt t f s rs p o)) g ∙ permuted (completed_trade_rows t) rs p (own base g)
    ∙ sym (ap (sum_by g) (listed base) ∙ sum_sort g (is_row_key_less holding_history_key) (flat_map (lot_rows_with_quantity_change done) done) ∙ sum_flat g (lot_rows_with_quantity_change done) done
    ∙ ap (sum_by (λ u. sum_by g (lot_rows_with_quantity_change done u))) (completed_rows t s)
    ∙ sum_map (λ u. sum_by g (lot_rows_with_quantity_change done u)) (trade_of_row t) (completed_trade_rows t)) in (
      (λ e. sym (key_order_one holding_history_key same_change changes_decide t.holding_history E climb ordered (λ g. sym (sums g) ∙ ap (sum_by g) e)) ∙ sym (same_history schema base)),
      (λ e. let k : t.holding_history ≡ E = e ∙ same_history schema base in
          key_order_one holding_history_key same_change changes_decide E moved (subst (Climbs holding_history_key) k climb) a sums ∙ sym k),
    )
