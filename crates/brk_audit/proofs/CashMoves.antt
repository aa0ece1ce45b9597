-- The condition `Cash` on numbered rows: they are the postings of the base in order.
use Rattle.std.proofs.Common.{◌≡◌, ℕ, ◌+◌, ◌<◌, ◌≤◌, ◌==◌, Bool, true, false, cond, not, List, [], ◌∷◌, ◌++◌, refl, sym, ◌∙◌, ap, map, filter, arith, Option, Some, None}
use Rattle.std.specs.Prelude.{⊤, ◌&&◌, ◌||◌, find, is_none, nat_le, nat_lt, option_map, option_to_list, bytes_eq}
use Rattle.std.specs.Option.{option_map_or}
use Rattle.std.specs.List.{AllByRecursion, cons_option, filter_map, sum_by}
use Rattle.std.specs.List.Sorted.{IsPermutation}
use Rattle.std.proofs.lemmas.Bool.{and_from, and_parts, eqb-true, eq-eqb, le-leb, leb-true, ltb-true, not-true}
use Rattle.std.proofs.lemmas.List.Sums.{sum_by-cons}
use Rattle.std.proofs.lemmas.Slice.Eq.{bytes_eq-Decides}
use Rattle.std.specs.Bool.{Decides}
use Rattle.std.specs.Ordering.{int_eq}
use Rattle.std.proofs.lemmas.Bool.Decides.{Decides-int_eq, nat_tests}
use Rattle.brk_money.specs.declared.fault.Condition.TheVariants as condition
use Rattle.brk_model.specs.Lists.{all_distinct, contains_number, insert_by, sort_by}
use Rattle.brk_model.specs.Records.{Movement, Trade}
use Rattle.brk_model.specs.Base.{Base, completed_trades, last_status_stamp_of_trade}
use Rattle.brk_model.specs.Derived.{Posting, cash_trades, postings_sorted_by_stamp, posting_of_movement, posting_of_trade, postings_of_base}
use Rattle.brk_model.specs.Schemas.{Schema}
use Rattle.brk_model.specs.Tables.{CashRow, Tables, TradeRow, cash_transaction_row, numbered_cash_move_rows, tables_of_base_in_schema}
use Rattle.brk_model.specs.Sheets.{tables_sorted_by_key}
use Rattle.brk_model.specs.Keys.{number, rows_sorted_by_key, cash_transaction_key, is_key_less, cash_move_key, is_row_key_less, trade_key}
use Rattle.brk_model.specs.Adopted.{base_of_tables, is_posting_of_trade, movement_of_row, posting_of_cash_transaction_row, posting_of_cash_move_row, postings_of_tables, trade_of_row}
use Rattle.brk_model.specs.Form.{satisfies_form_condition, trade_ids_of_cash_rows}
use Rattle.brk_model.specs.Ways.{satisfies_status_condition, has_valid_status_history}
use Rattle.brk_model.specs.Audit.{ConditionHolds, expected_tables}
use Rattle.brk_trade_books.specs.Books.{BooksInvariant, HasLastStatusAtOtherStamp, HasDistinctLastStatusStamps, HasDistinctMovementStamps}
use Rattle.brk_trade_books.proofs.Order.{All-insert}
use Rattle.brk_trade_books.proofs.LotReading.{All-sort}
use Rattle.brk_trade_books.proofs.Orders.{Ascends, Rises, SameSums, one_order, permuted, sum_append, sum_map, sum_sort}
use Rattle.brk_trade_books.proofs.Postings.{numbered_stay}
use Rattle.brk_trade_books.proofs.Same.{All-append, All-filter, All-map, All-mapped, All-of, map-same}
use Rattle.brk_audit_theorems.proofs.AdoptedBooks.{adopted_books}
use Rattle.brk_audit_theorems.proofs.Climbs.{Climbs, In, climbs_filter, each_in, of_all}
use Rattle.brk_audit_theorems.proofs.Members.{map-map}
use Rattle.brk_audit_theorems.proofs.Parts.{key_parts}
use Rattle.brk_model_theorems.specs.FormParts.{SatisfiesFormParts}
use Rattle.brk_model_theorems.proofs.FormParts.{form_parts}
use Rattle.brk_money.specs.Spelling.{Text}
use Rattle.brk_audit_sums.specs.Settling.{CashRowFigures, is_completed_cash_trade, is_numbered_by_stamp, posted_figures_of_trade, posted_figures_of_row}
use Rattle.brk_audit_sums.proofs.Completed.{right_rows, row_moment}
use Rattle.brk_audit_sums.proofs.Settling.{accounts_in, cash_rows, no_rows, same_amount}
use Rattle.brk_audit_sums.proofs.Sums.{account_tax_status_or_untaxed}

-- ---- rows in turn are numbered, and rise

back_in_turn : (n stamp : ℕ) (rs : List CashRow) → is_numbered_by_stamp n stamp rs ≡ true → rs ≡ numbered_cash_move_rows n (map posting_of_cash_move_row rs)
back_in_turn n stamp [] e = refl
back_in_turn n stamp (r ∷ rs) e =
    let p = and_parts (r.id == n) (nat_le stamp r.stamp && is_numbered_by_stamp (n + 1) r.stamp rs) e in
    let q = and_parts (nat_le stamp r.stamp) (is_numbered_by_stamp (n + 1) r.stamp rs) p.1 in
    let k : r.id ≡ n = eqb-true r.id n p.0 in
    λ i. record r { id = k i } ∷ back_in_turn (n + 1) r.stamp rs q.1 i

no_less : (n stamp : ℕ) (rs : List CashRow) → is_numbered_by_stamp n stamp rs ≡ true → AllByRecursion (λ p. stamp ≤ p.stamp) (map posting_of_cash_move_row rs)
no_less n stamp [] e = tt
no_less n stamp (r ∷ rs) e =
    let p = and_parts (r.id == n) (nat_le stamp r.stamp && is_numbered_by_stamp (n + 1) r.stamp rs) e in
    let q = and_parts (nat_le stamp r.stamp) (is_numbered_by_stamp (n + 1) r.stamp rs) p.1 in
    let l : stamp ≤ r.stamp = leb-true stamp r.stamp q.0 in
    (l, All-map (map posting_of_cash_move_row rs) (λ p m. let h : r.stamp ≤ p.stamp = m in omega (arith, l, h)) (no_less (n + 1) r.stamp rs q.1))

turn_ascends : (n stamp : ℕ) (rs : List CashRow) → is_numbered_by_stamp n stamp rs ≡ true → Ascends (λ p. p.stamp) (map posting_of_cash_move_row rs)
turn_ascends n stamp [] e = tt
turn_ascends n stamp (r ∷ rs) e =
    let p = and_parts (r.id == n) (nat_le stamp r.stamp && is_numbered_by_stamp (n + 1) r.stamp rs) e in
    let q = and_parts (nat_le stamp r.stamp) (is_numbered_by_stamp (n + 1) r.stamp rs) p.1 in
    (no_less (n + 1) r.stamp rs q.1, turn_ascends (n + 1) r.stamp rs q.1)

numbered_in_turn : (n stamp : ℕ) (ps : List Posting) → AllByRecursion (λ p. stamp ≤ p.stamp) ps → Ascends (λ p. p.stamp) ps → is_numbered_by_stamp n stamp (numbered_cash_move_rows n ps) ≡ true
numbered_in_turn n stamp [] h a = refl
numbered_in_turn n stamp (p ∷ ps) h a =
    and_from (n == n) (nat_le stamp p.stamp && is_numbered_by_stamp (n + 1) p.stamp (numbered_cash_move_rows (n + 1) ps)) (eq-eqb n n refl)
    (and_from (nat_le stamp p.stamp) (is_numbered_by_stamp (n + 1) p.stamp (numbered_cash_move_rows (n + 1) ps)) (le-leb stamp p.stamp h.0) (numbered_in_turn (n + 1) p.stamp ps a.0 a.1))

-- ---- postings in turn

-- each has a stamp of its own
Apart : List Posting → Type 0
Apart [] = ⊤
Apart (p ∷ ps) = AllByRecursion (λ q. (q.stamp == p.stamp) ≡ false) ps × Apart ps

lower : (a b : ℕ) → nat_lt b a ≡ false → (b == a) ≡ false → a < b
lower a b e f = grind (arith, nat_tests)

rise_insert : (p : Posting) (ps : List Posting) → AllByRecursion (λ q. (q.stamp == p.stamp) ≡ false) ps → Rises (λ q. q.stamp) ps
    → Rises (λ q. q.stamp) (insert_by (λ a b. nat_lt a.stamp b.stamp) p ps)
rise_insert p [] h r = (tt, tt)
rise_insert p (q ∷ qs) h r = by_test (nat_lt q.stamp p.stamp) refl (rise_insert p qs h.1 r.1)
  where
    by_test : (b : Bool) → nat_lt q.stamp p.stamp ≡ b → Rises (λ q. q.stamp) (insert_by (λ a b. nat_lt a.stamp b.stamp) p qs)
        → Rises (λ q. q.stamp) (cond b (q ∷ insert_by (λ a b. nat_lt a.stamp b.stamp) p qs) (p ∷ q ∷ qs))
    by_test true e ih = (All-insert (λ x. q.stamp < x.stamp) (λ a b. nat_lt a.stamp b.stamp) p qs (ltb-true q.stamp p.stamp e) r.0, ih)
    by_test false e ih =
        let l : p.stamp < q.stamp = lower p.stamp q.stamp e h.0 in
        ((l, All-map qs (λ x m. let k : q.stamp < x.stamp = m in omega (arith, l, k)) r.0), r)

turn_rises : (ps : List Posting) → Apart ps → Rises (λ p. p.stamp) (postings_sorted_by_stamp ps)
unfolding sort_by Apart
turn_rises [] a = tt
turn_rises (p ∷ ps) a = rise_insert p (postings_sorted_by_stamp ps) (All-sort (λ q. (q.stamp == p.stamp) ≡ false) (λ a b. nat_lt a.stamp b.stamp) ps a.0) (turn_rises ps a.1)

-- what rises ascends
rise_ascend : (ps : List Posting) → Rises (λ p. p.stamp) ps → Ascends (λ p. p.stamp) ps
rise_ascend [] r = tt
rise_ascend (p ∷ ps) r = (All-map ps (λ q m. let k : p.stamp < q.stamp = m in omega (arith, k)) r.0, rise_ascend ps r.1)

other_stamp : (m n : ℕ) → (m == n) ≡ false → (n == m) ≡ false
other_stamp m n e = grind (arith, nat_tests)

apart_movements : (done : List Trade) (ms : List Movement) → HasDistinctMovementStamps done ms → Apart (map posting_of_movement ms)
unfolding Apart
apart_movements done [] h = tt
apart_movements done (m ∷ ms) h = (All-mapped (λ q. (q.stamp == m.stamp) ≡ false) posting_of_movement ms h.1, apart_movements done ms h.2)

of_each : (t : Trade) (done : List Trade) (ms : List Movement) → In t done → HasDistinctMovementStamps done ms → AllByRecursion (λ m. (m.stamp == last_status_stamp_of_trade t) ≡ false) ms
of_each t done [] i h = tt
of_each t done (m ∷ ms) i h = (other_stamp (last_status_stamp_of_trade t) m.stamp (of_all (HasLastStatusAtOtherStamp m.stamp) done t h.0 i), of_each t done ms i h.2)

apart_trades : (base : Base) (done ts : List Trade) (ms : List Movement) → AllByRecursion (λ t. In t done) ts → HasDistinctLastStatusStamps ts → HasDistinctMovementStamps done ms
    → Apart (map (posting_of_trade base.accounts) ts ++ map posting_of_movement ms)
unfolding Apart
apart_trades base done [] ms i m h = apart_movements done ms h
apart_trades base done (t ∷ ts) ms i m h = (
  All-append (λ q. (q.stamp == last_status_stamp_of_trade t) ≡ false) (map (posting_of_trade base.accounts) ts) (map posting_of_movement ms)
      (All-mapped (λ q. (q.stamp == last_status_stamp_of_trade t) ≡ false) (posting_of_trade base.accounts) ts m.0)
      (All-mapped (λ q. (q.stamp == last_status_stamp_of_trade t) ≡ false) posting_of_movement ms (of_each t done ms i.0 h)),
  apart_trades base done ts ms i.1 m.1 h,
)

moments_filter : (p : Trade → Bool) (ts : List Trade) → HasDistinctLastStatusStamps ts → HasDistinctLastStatusStamps (filter p ts)
moments_filter p [] m = tt
moments_filter p (t ∷ ts) m =
    elim (p t) as (λ b. HasDistinctLastStatusStamps (cond b (t ∷ filter p ts) (filter p ts)))
    [ true ↦ (All-filter (λ u. (last_status_stamp_of_trade u == last_status_stamp_of_trade t) ≡ false) p ts m.0, moments_filter p ts m.1) | false ↦ moments_filter p ts m.1 ]

postings_rise : (base : Base) → BooksInvariant base → Rises (λ p. p.stamp) (postings_sorted_by_stamp (postings_of_base base))
postings_rise base books =
    turn_rises (postings_of_base base)
    (apart_trades base (completed_trades base) (cash_trades (completed_trades base)) base.movements
    (All-filter (λ t. In t (completed_trades base)) (λ t. t.is_cash) (completed_trades base) (each_in (completed_trades base)))
    (moments_filter (λ t. t.is_cash) (completed_trades base) books.moments) books.movements.apart)

-- ---- the same postings, whatever their order

same_option : Option ℕ → Option ℕ → Bool
same_option None None = true
same_option None (Some n) = false
same_option (Some m) None = false
same_option (Some m) (Some n) = m == n

options_decide : (a b : Option ℕ) → Decides (same_option a b) (a ≡ b)
unfolding same_option
options_decide None None = ((λ e. refl), (λ e. refl))
options_decide None (Some n) = ((λ e. absurd (cc)), (λ e. absurd (cc)))
options_decide (Some m) None = ((λ e. absurd (cc)), (λ e. absurd (cc)))
options_decide (Some m) (Some n) = ((λ e. ap Some (eqb-true m n e)), (λ e. eq-eqb m n (cc)))

same_posting : Posting → Posting → Bool
same_posting a b = (a.account == b.account) && (same_option a.trade b.trade && ((a.stamp == b.stamp) && (int_eq a.amount b.amount && bytes_eq a.name b.name)))

postings_decide : (a b : Posting) → Decides (same_posting a b) (a ≡ b)
unfolding same_posting
postings_decide a b = (
  (λ e.
      let p = and_parts (a.account == b.account) _ e in
      let q = and_parts (same_option a.trade b.trade) _ p.1 in
      let r = and_parts (a.stamp == b.stamp) _ q.1 in
      let m = and_parts (int_eq a.amount b.amount) (bytes_eq a.name b.name) r.1 in
      λ i. record {
        account = eqb-true a.account b.account p.0 i;
        trade = (options_decide a.trade b.trade).0 q.0 i;
        stamp =
            eqb-true a.stamp b.stamp r.0 i;
        amount = (Decides-int_eq a.amount b.amount).0 m.0 i;
        name = (bytes_eq-Decides a.name b.name).0 m.1 i;
      }),
  (λ e.
      and_from (a.account == b.account) _ (eq-eqb a.account b.account (ap (λ (p : Posting). p.account) e))
      (and_from (same_option a.trade b.trade) _ ((options_decide a.trade b.trade).1 (ap (λ (p : Posting). p.trade) e))
      (and_from (a.stamp == b.stamp) _ (eq-eqb a.stamp b.stamp (ap (λ (p : Posting). p.stamp) e))
      (and_from (int_eq a.amount b.amount) (bytes_eq a.name b.name) ((Decides-int_eq a.amount b.amount).1 (ap (λ (p : Posting). p.amount) e))
      ((bytes_eq-Decides a.name b.name).1 (ap (λ (p : Posting). p.name) e)))))),
)

same_posted : CashRowFigures → CashRowFigures → Bool
same_posted a b = (a.account == b.account) && ((a.trade == b.trade) && ((a.stamp == b.stamp) && int_eq a.amount b.amount))

posted_decide : (a b : CashRowFigures) → Decides (same_posted a b) (a ≡ b)
unfolding same_posted
posted_decide a b = (
  (λ e.
      let p = and_parts (a.account == b.account) _ e in
      let q = and_parts (a.trade == b.trade) _ p.1 in
      let r = and_parts (a.stamp == b.stamp) (int_eq a.amount b.amount) q.1 in
      λ i. record {
        account = eqb-true a.account b.account p.0 i;
        trade = eqb-true a.trade b.trade q.0 i;
        stamp = eqb-true a.stamp b.stamp r.0 i;
        amount =
            (Decides-int_eq a.amount b.amount).0 r.1 i;
      }),
  (λ e.
      and_from (a.account == b.account) _ (eq-eqb a.account b.account (ap (λ (p : CashRowFigures). p.account) e))
      (and_from (a.trade == b.trade) _ (eq-eqb a.trade b.trade (ap (λ (p : CashRowFigures). p.trade) e))
      (and_from (a.stamp == b.stamp) (int_eq a.amount b.amount) (eq-eqb a.stamp b.stamp (ap (λ (p : CashRowFigures). p.stamp) e))
      ((Decides-int_eq a.amount b.amount).1 (ap (λ (p : CashRowFigures). p.amount) e))))),
)

-- ---- the name of a trade's posting is that of its row

abbrev name_at : Tables → ℕ → Text
name_at t id = option_map_or (λ p. p.name) (find (is_posting_of_trade id) (postings_of_tables t)) []

both_false : (a b : Bool) → a || b ≡ false → (a ≡ false) × (b ≡ false)
both_false true b e = absurd (cc)
both_false false b e = (refl, e)

behind : (m : ℕ) (qs : List CashRow) → contains_number m (trade_ids_of_cash_rows qs) ≡ false → AllByRecursion (λ q. (id : ℕ) → q.trade ≡ Some id → (m == id) ≡ false) qs
behind m [] c = tt
behind m (q ∷ qs) c = by_trade q.trade refl c (behind m qs)
  where
    by_trade : (o : Option ℕ) → q.trade ≡ o → contains_number m (option_to_list o ++ trade_ids_of_cash_rows qs) ≡ false
        → (contains_number m (trade_ids_of_cash_rows qs) ≡ false → AllByRecursion (λ q. (id : ℕ) → q.trade ≡ Some id → (m == id) ≡ false) qs)
        → AllByRecursion (λ q. (id : ℕ) → q.trade ≡ Some id → (m == id) ≡ false) (q ∷ qs)
    by_trade None e c ih = ((λ id f. let k : None ≡ Some id = sym e ∙ f in absurd (cc)), ih c)
    by_trade (Some n) e c ih =
        let p = both_false (n == m) (contains_number m (trade_ids_of_cash_rows qs)) c in
        ((λ id f. let k : Some n ≡ Some id = sym e ∙ f in let j : n ≡ id = cc in other_stamp id m (ap (λ x. x == m) (sym j) ∙ p.0)), ih p.1)

abbrev IsOwn : List CashRow → CashRow → Type 0
IsOwn rs r = (id : ℕ) → r.trade ≡ Some id → find (is_posting_of_trade id) (map posting_of_cash_move_row rs) ≡ Some (posting_of_cash_move_row r)

found_own : (rs : List CashRow) → all_distinct (trade_ids_of_cash_rows rs) ≡ true → AllByRecursion (IsOwn rs) rs
found_own [] d = tt
found_own (r ∷ rs) d = (here, later r.trade refl d (found_own rs))
  where
    here : IsOwn (r ∷ rs) r
    here id e =
        ap (λ b. cond b (Some (posting_of_cash_move_row r)) (find (is_posting_of_trade id) (map posting_of_cash_move_row rs))) (ap (λ o. option_map_or (λ n. n == id) o false) e ∙ eq-eqb id id refl)

    passed : (qs : List CashRow) → AllByRecursion (λ q. (id : ℕ) → q.trade ≡ Some id → is_posting_of_trade id (posting_of_cash_move_row r) ≡ false) qs
        → AllByRecursion (IsOwn rs) qs → AllByRecursion (IsOwn (r ∷ rs)) qs
    passed [] n h = tt
    passed (q ∷ qs) n h = ((λ id e. ap (λ b. cond b (Some (posting_of_cash_move_row r)) (find (is_posting_of_trade id) (map posting_of_cash_move_row rs))) (n.0 id e) ∙ h.0 id e), passed qs n.1 h.1)

    later : (o : Option ℕ) → r.trade ≡ o → all_distinct (option_to_list o ++ trade_ids_of_cash_rows rs) ≡ true
        → (all_distinct (trade_ids_of_cash_rows rs) ≡ true → AllByRecursion (IsOwn rs) rs) → AllByRecursion (IsOwn (r ∷ rs)) rs
    later None e d ih = passed rs (All-of rs (λ q id f. ap (λ o. option_map_or (λ n. n == id) o false) e)) (ih d)
    later (Some m) e d ih =
        let p = and_parts (not (contains_number m (trade_ids_of_cash_rows rs))) (all_distinct (trade_ids_of_cash_rows rs)) d in
        passed rs (All-map rs (λ q k id f. ap (λ o. option_map_or (λ n. n == id) o false) e ∙ k id f) (behind m rs (not-true (contains_number m (trade_ids_of_cash_rows rs)) p.0))) (ih p.1)

abbrev HasName : Tables → CashRow → Type 0
HasName t r = (id : ℕ) → r.trade ≡ Some id → r.name ≡ name_at t id

names : (t : Tables) → t.cash ≡ [] → all_distinct (trade_ids_of_cash_rows t.moves) ≡ true → AllByRecursion (HasName t) t.moves
names t e d =
    All-map t.moves (λ r k id f. sym (ap (λ o. option_map_or (λ p. p.name) o []) (k id f))
    ∙ ap (λ cs. option_map_or (λ p. p.name) (find (is_posting_of_trade id) (map (posting_of_cash_transaction_row t) cs ++ map posting_of_cash_move_row t.moves)) []) (sym e)) (found_own t.moves d)

-- ---- rows of trades and rows of movements

-- a posting with the name that the tables have for its trade
abbrev back : Tables → CashRowFigures → Posting
back t p = record { account = p.account; trade = Some p.trade; stamp = p.stamp; amount = p.amount; name = name_at t p.trade }

abbrev moved_rows : List CashRow → List Posting
moved_rows rs = map posting_of_movement (map movement_of_row (filter (λ r. is_none r.trade) rs))

parts : (t : Tables) (rs : List CashRow) (g : Posting → ℕ) → AllByRecursion (HasName t) rs
    → sum_by g (map posting_of_cash_move_row rs) ≡ sum_by g (map (back t) (filter_map posted_figures_of_row rs)) + sum_by g (moved_rows rs)
parts t [] g h = refl
parts t (r ∷ rs) g h = by_trade r.trade refl (parts t rs g h.1)
  where
    F : List CashRow
    F = filter (λ r. is_none r.trade) rs

    by_trade : (o : Option ℕ) → r.trade ≡ o → sum_by g (map posting_of_cash_move_row rs) ≡ sum_by g (map (back t) (filter_map posted_figures_of_row rs)) + sum_by g (moved_rows rs)
        → sum_by g (posting_of_cash_move_row r ∷ map posting_of_cash_move_row rs)
        ≡ sum_by g (map (back t) (cons_option (option_map (λ id. record { account = r.account; trade = id; stamp = r.stamp; amount = r.amount }) o) (filter_map posted_figures_of_row rs)))
        + sum_by g (map posting_of_movement (map movement_of_row (cond (is_none o) (r ∷ F) F)))
    by_trade None e ih =
        let p : Posting = posting_of_movement (movement_of_row r) in
        let k : posting_of_cash_move_row r ≡ p = λ i. record (posting_of_cash_move_row r) { trade = e i } in
        let v : g (posting_of_cash_move_row r) ≡ g p = ap g k in
        omega (arith, v, ih, sum_by-cons g (posting_of_cash_move_row r) (map posting_of_cash_move_row rs), sum_by-cons g p (moved_rows rs))
    by_trade (Some id) e ih =
        let p : Posting = back t (record { account = r.account; trade = id; stamp = r.stamp; amount = r.amount }) in
        let k : posting_of_cash_move_row r ≡ p = λ i. record (posting_of_cash_move_row r) { trade = e i; name = h.0 id e i } in
        let v : g (posting_of_cash_move_row r) ≡ g p = ap g k in
        omega (arith, v, ih, sum_by-cons g (posting_of_cash_move_row r) (map posting_of_cash_move_row rs), sum_by-cons g p (map (back t) (filter_map posted_figures_of_row rs)))

-- ---- the postings of the base

abbrev cash_done : Tables → List TradeRow
cash_done t = filter is_completed_cash_trade t.trades

abbrev by_trades : Tables → List Posting
by_trades t = map (λ r. posting_of_trade (accounts_in t) (trade_of_row t r)) (cash_done t)

base_postings : (t : Tables) → satisfies_status_condition t ≡ true → postings_of_base (base_of_tables t) ≡ by_trades t ++ moved_rows t.moves
unfolding base_of_tables
base_postings t s =
    ap (λ ts. map (posting_of_trade (accounts_in t)) ts ++ moved_rows t.moves) (cash_rows t s)
    ∙ ap (λ ps. ps ++ moved_rows t.moves) (map-map (posting_of_trade (accounts_in t)) (trade_of_row t) (cash_done t))

right_cash : (t : Tables) → satisfies_status_condition t ≡ true → AllByRecursion (λ r. has_valid_status_history t r ≡ true) (cash_done t)
right_cash t s = All-filter (λ r. has_valid_status_history t r ≡ true) is_completed_cash_trade t.trades (right_rows t s)

trades_back : (t : Tables) → satisfies_status_condition t ≡ true → map (back t) (map (posted_figures_of_trade (account_tax_status_or_untaxed t)) (cash_done t)) ≡ by_trades t
trades_back t s =
    map-map (back t) (posted_figures_of_trade (account_tax_status_or_untaxed t)) (cash_done t)
    ∙ map-same (λ r. back t (posted_figures_of_trade (account_tax_status_or_untaxed t) r)) (λ r. posting_of_trade (accounts_in t) (trade_of_row t r)) (cash_done t)
    (All-map (cash_done t)
    (λ r e i. record (back t (posted_figures_of_trade (account_tax_status_or_untaxed t) r))
    { stamp = sym (row_moment t r e) i; amount = sym (same_amount t r) i }) (right_cash t s))

-- what a posting has of a trade
abbrev of_posting : Posting → Option CashRowFigures
of_posting p = option_map (λ id. record { account = p.account; trade = id; stamp = p.stamp; amount = p.amount }) p.trade

abbrev counted : (CashRowFigures → ℕ) → Posting → ℕ
counted g p = option_map_or g (of_posting p) 0

numbered_posted : (n : ℕ) (ps : List Posting) → filter_map posted_figures_of_row (numbered_cash_move_rows n ps) ≡ filter_map of_posting ps
numbered_posted n [] = refl
numbered_posted n (p ∷ ps) = ap (λ xs. cons_option (of_posting p) xs) (numbered_posted (n + 1) ps)

sum_posted : (g : CashRowFigures → ℕ) (ps : List Posting) → sum_by g (filter_map of_posting ps) ≡ sum_by (counted g) ps
sum_posted g [] = refl
sum_posted g (p ∷ ps) = by_trade (of_posting p) refl (sum_posted g ps)
  where
    by_trade : (o : Option CashRowFigures) → of_posting p ≡ o → sum_by g (filter_map of_posting ps) ≡ sum_by (counted g) ps
        → sum_by g (cons_option o (filter_map of_posting ps)) ≡ sum_by (counted g) (p ∷ ps)
    by_trade None e ih = let v : counted g p ≡ 0 = ap (λ o. option_map_or g o 0) e in omega (arith, v, ih, sum_by-cons (counted g) p ps)
    by_trade (Some x) e ih =
        let v : counted g p ≡ g x = ap (λ o. option_map_or g o 0) e in omega (arith, v, ih, sum_by-cons (counted g) p ps, sum_by-cons g x (filter_map of_posting ps))

none_counted : (g : CashRowFigures → ℕ) (ms : List Movement) → sum_by (counted g) (map posting_of_movement ms) ≡ 0
none_counted g [] = refl
none_counted g (m ∷ ms) =
    let v : counted g (posting_of_movement m) ≡ 0 = refl in
    let ih = none_counted g ms in
    omega (arith, v, ih, sum_by-cons (counted g) (posting_of_movement m) (map posting_of_movement ms))

-- of all postings of the base, those of trades
base_counted : (t : Tables) (g : CashRowFigures → ℕ) → satisfies_status_condition t ≡ true
    → sum_by (counted g) (postings_of_base (base_of_tables t)) ≡ sum_by g (map (posted_figures_of_trade (account_tax_status_or_untaxed t)) (cash_done t))
base_counted t g s =
    let T : List Posting = by_trades t in
    let V : List Posting = moved_rows t.moves in
    let none : sum_by (counted g) V ≡ 0 = none_counted g (map movement_of_row (filter (λ r. is_none r.trade) t.moves)) in
    let all : sum_by (counted g) (postings_of_base (base_of_tables t)) ≡ sum_by (counted g) T + sum_by (counted g) V = ap (sum_by (counted g)) (base_postings t s) ∙ sum_append (counted g) T V in
    let own : sum_by (counted g) T ≡ sum_by g (map (posted_figures_of_trade (account_tax_status_or_untaxed t)) (cash_done t)) =
    ap (sum_by (counted g)) (sym (trades_back t s)) ∙ sum_map (counted g) (back t) (map (posted_figures_of_trade (account_tax_status_or_untaxed t)) (cash_done t)) in
    omega (arith, none, all, own)

-- ---- rows by rising trade

later_trade : (m n : ℕ) → is_key_less (number m ∷ []) (number n ∷ []) ≡ true → m < n
later_trade m n h = grind (arith, nat_tests)

trades_rise : (f : TradeRow → CashRowFigures) (rs : List TradeRow) → ((r : TradeRow) → (f r).trade ≡ r.id) → Climbs trade_key rs → Rises (λ p. p.trade) (map f rs)
trades_rise f [] e c = tt
trades_rise f (r ∷ rs) e c = (
  All-mapped (λ p. (f r).trade < p.trade) f rs
      (All-map rs (λ u k. let l : r.id < u.id = later_trade r.id u.id k in let a = e r in let b = e u in omega (arith, l, a, b)) c.0),
  trades_rise f rs e c.1,
)

-- ---- together

wanted_no_cash : (schema : Schema) (t : Tables) → schema.has_cash_move_table ≡ true → (expected_tables schema t).cash ≡ []
unfolding tables_sorted_by_key tables_of_base_in_schema
wanted_no_cash schema t n =
    ap (λ b. rows_sorted_by_key cash_transaction_key
    (cond b [] (map (cash_transaction_row (base_of_tables t).accounts) (cash_trades (completed_trades (base_of_tables t)))))) n
    ∙ no_rows (is_row_key_less cash_transaction_key)

wanted_moves : (schema : Schema) (t : Tables) → schema.has_cash_move_table ≡ true
    → (expected_tables schema t).moves ≡ numbered_cash_move_rows 1 (postings_sorted_by_stamp (postings_of_base (base_of_tables t)))
unfolding tables_sorted_by_key tables_of_base_in_schema
wanted_moves schema t n =
    ap (λ b. rows_sorted_by_key cash_move_key (cond b (numbered_cash_move_rows 1 (postings_sorted_by_stamp (postings_of_base (base_of_tables t)))) [])) n
    ∙ numbered_stay 1 (postings_sorted_by_stamp (postings_of_base (base_of_tables t)))

-- what the rows of cash are to be, where they are numbered
pub record AreMoves (t : Tables) (own : List CashRowFigures) : Type 0 where
  pub no_others : t.cash ≡ []
  pub turn : is_numbered_by_stamp 1 0 t.moves ≡ true
  pub posted : own ≡ map (posted_figures_of_trade (account_tax_status_or_untaxed t)) (filter is_completed_cash_trade t.trades)

pub cash_by_moves : (schema : Schema) (t : Tables) (own : List CashRowFigures) → schema.has_cash_move_table ≡ true → satisfies_form_condition schema t ≡ true → satisfies_status_condition t ≡ true
    → IsPermutation (filter_map posted_figures_of_row t.moves) own → Ascends (λ p. p.trade) own → (AreMoves t own → ConditionHolds schema condition.Cash t)
    × (ConditionHolds schema condition.Cash t → AreMoves t own)
unfolding ConditionHolds
cash_by_moves schema t own n f s p a =
    let W : List Posting = postings_sorted_by_stamp (postings_of_base (base_of_tables t)) in
    let M : List Posting = map posting_of_cash_move_row t.moves in
    let T : List Posting = by_trades t in
    let V : List Posting = moved_rows t.moves in
    let E : List CashRowFigures = map (posted_figures_of_trade (account_tax_status_or_untaxed t)) (cash_done t) in
    let rise : Rises (λ p. p.stamp) W = postings_rise (base_of_tables t) (adopted_books schema t f s) in
    let parts_of : SatisfiesFormParts schema t = form_parts schema t f in (
      (λ h.
          let sums : SameSums M W = λ g.
          let all : sum_by g M ≡ sum_by g (map (back t) (filter_map posted_figures_of_row t.moves)) + sum_by g V = parts t t.moves g (names t h.no_others parts_of.own_moves) in
          let of_trades : sum_by g (map (back t) (filter_map posted_figures_of_row t.moves)) ≡ sum_by g T =
          sum_map g (back t) (filter_map posted_figures_of_row t.moves) ∙ sym (permuted (filter_map posted_figures_of_row t.moves) own p (λ x. g (back t x)))
          ∙ ap (sum_by (λ x. g (back t x))) h.posted ∙ sym (sum_map g (back t) E) ∙ ap (sum_by g) (trades_back t s) in
          let wanted : sum_by g W ≡ sum_by g T + sum_by g V =
          sum_sort g (λ a b. nat_lt a.stamp b.stamp) (postings_of_base (base_of_tables t)) ∙ ap (sum_by g) (base_postings t s) ∙ sum_append g T V in
          omega (arith, all, of_trades, wanted) in
          let same : M ≡ W = one_order (λ p. p.stamp) same_posting postings_decide W M rise (turn_ascends 1 0 t.moves h.turn) sums in
          (h.no_others ∙ sym (wanted_no_cash schema t n), back_in_turn 1 0 t.moves h.turn ∙ ap (numbered_cash_move_rows 1) same ∙ sym (wanted_moves schema t n))),
      (λ h.
          let rows : t.moves ≡ numbered_cash_move_rows 1 W = h.1 ∙ wanted_moves schema t n in
          let asc : Ascends (λ p. p.stamp) W = rise_ascend W rise in
          record {
            no_others = h.0 ∙ wanted_no_cash schema t n;
            turn = ap (is_numbered_by_stamp 1 0) rows ∙ numbered_in_turn 1 0 W (All-of W (λ p. omega arith)) asc;
            posted = one_order (λ p. p.trade) same_posted posted_decide E own
                (trades_rise (posted_figures_of_trade (account_tax_status_or_untaxed t)) (cash_done t) (λ r. refl)
                (climbs_filter trade_key is_completed_cash_trade t.trades (key_parts t parts_of.keys).trades)) a
                (λ g. permuted (filter_map posted_figures_of_row t.moves) own p g ∙ ap (λ rs. sum_by g (filter_map posted_figures_of_row rs)) rows
                ∙ ap (sum_by g) (numbered_posted 1 W) ∙ sum_posted g W
                ∙ sum_sort (counted g) (λ a b. nat_lt a.stamp b.stamp) (postings_of_base (base_of_tables t)) ∙ base_counted t g s);
          }),
    )
