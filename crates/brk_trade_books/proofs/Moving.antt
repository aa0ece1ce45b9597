-- The tables after one pending trade, or several in sequence, changed to another status.
use Rattle.std.proofs.Common.{◌≡◌, ℕ, ◌==◌, Bool, true, false, not, cond, List, [], ◌∷◌, ◌++◌, refl, sym, subst, ◌∙◌, ap, map, filter}
use Rattle.std.specs.Prelude.{flat_map}
use Rattle.std.specs.Option.{option_map_or}
use Rattle.std.specs.List.{AllByRecursion}
use Rattle.std.proofs.lemmas.Bool.{eqb-false, eq-eqb}
use Rattle.brk_money.specs.Kinds.{is_same_trade_status, trade_status_code}
use Rattle.brk_money.specs.declared.status.Status.{Status}
use Rattle.brk_money.specs.declared.status.Status.TheVariants.{Completed, Active, Submitted, Pending, Canceled}
use Rattle.brk_model.specs.Lists.{update_where}
use Rattle.brk_model.specs.Records.{Account, StatusChange, Trade}
use Rattle.brk_model.specs.Base.{Base, has_last_status, is_completed, trade_with_status_change}
use Rattle.brk_model.specs.Derived.{pending_trades, shares_of_position, holding_summary_quantity, balance_of_account, trade_count_of_broker, commission_total_of_broker}
use Rattle.brk_model.specs.Schemas.{third_schema}
use Rattle.brk_model.specs.Tables.{Tables, TradeRow, HistoryRow, RequestRow, tables_of_base_in_schema, tables_from_completed_trades, trade_row, history_rows, request_row}
use Rattle.brk_model.specs.Keys.{KeyPart, number, word, rows_sorted_by_key, insert_row_by_key, trade_key, history_key, request_key}
use Rattle.brk_model.specs.Sheets.{sheets, tables_sorted_by_key}
use Rattle.brk_model.specs.Names.{TradesAreNumberedFrom}
use Rattle.brk_trade_books.specs.Books.{HasOneStatusChangeIfPending, HasOneStatusChange}
use Rattle.brk_trade_books.specs.Trading.{history_row_of_status, tables_after_change_from_pending, tables_with_trades_submitted}
use Rattle.brk_trade_books.proofs.Order.{NewKey, by_key-middle, by_key-map, by_key-filter}
use Rattle.brk_trade_books.proofs.Same.{All-map, All-of, All-append, All-mapped, All-filter, flat_map-append, map-last}
use Rattle.brk_trade_books.proofs.Places.{map-append, append_assoc, update_where-one, filter-one, filter-not_one, filter-all}
use Rattle.brk_trade_books.proofs.Numbering.{ids_other, last_of_marked, status_of_marked, pending_not_completed, numbered_before, numbered_after, numbered_moved}

-- ---- TRADE

-- a row with another status and another moment
abbrev set_status : ℕ → Status → TradeRow → TradeRow
set_status stamp status r = record r { status = status; stamp = stamp }

moved_trades : (stamp : ℕ) (status : Status) (xs : List Trade) (t : Trade) (ys : List Trade) → ids_other t.id xs → ids_other t.id ys
    → rows_sorted_by_key trade_key (map trade_row (xs ++ trade_with_status_change stamp status t ∷ ys))
    ≡ update_where (λ r. r.id == t.id) (set_status stamp status) (rows_sorted_by_key trade_key (map trade_row (xs ++ t ∷ ys)))
moved_trades stamp status xs t ys g h =
    let row : trade_row (trade_with_status_change stamp status t) ≡ set_status stamp status (trade_row t) =
    λ i. record (trade_row t) { stamp = option_map_or (λ m. m.stamp) (last_of_marked stamp status t i) 0; status = option_map_or (λ m. m.status) (last_of_marked stamp status t i) Canceled } in
    let change : TradeRow → TradeRow = λ r. cond (r.id == t.id) (set_status stamp status r) r in
    ap (rows_sorted_by_key trade_key) (map-append trade_row xs (trade_with_status_change stamp status t ∷ ys)
    ∙ ap (λ r. map trade_row xs ++ r ∷ map trade_row ys) row
    ∙ sym (update_where-one (λ r. r.id == t.id) (set_status stamp status) (map trade_row xs) (trade_row t) (map trade_row ys)
    (All-mapped _ trade_row xs g) (eq-eqb t.id t.id refl) (All-mapped _ trade_row ys h))
    ∙ ap (map change) (sym (map-append trade_row xs (t ∷ ys))))
    ∙ by_key-map trade_key trade_key change (map trade_row (xs ++ t ∷ ys)) (λ r. same_key r (r.id == t.id))
  where
    same_key : (r : TradeRow) (b : Bool) → trade_key (cond b (set_status stamp status r) r) ≡ trade_key r
    same_key r true = refl
    same_key r false = refl

-- ---- TRADE_HISTORY

first_byte : List ℕ → ℕ
first_byte [] = 0
first_byte (c ∷ cs) = c

code_not_pending : (s u : Status) → is_same_trade_status s Pending ≡ true → is_same_trade_status u Pending ≡ false → trade_status_code s ≡ trade_status_code u → ⊥
unfolding first_byte
code_not_pending Completed u g h e = absurd (cc)
code_not_pending Active u g h e = absurd (cc)
code_not_pending Submitted u g h e = absurd (cc)
code_not_pending Canceled u g h e = absurd (cc)
code_not_pending Pending Completed g h e = eqb-false 80 67 refl (ap first_byte e)
code_not_pending Pending Active g h e = eqb-false 80 65 refl (ap first_byte e)
code_not_pending Pending Submitted g h e = eqb-false 80 83 refl (ap first_byte e)
code_not_pending Pending Canceled g h e = eqb-false 80 67 refl (ap first_byte e)
code_not_pending Pending Pending g h e = absurd (cc)

-- rows of other trades have other keys
pub history_of_others : (row : HistoryRow) (ts : List Trade) → ids_other row.trade ts → NewKey history_key row (flat_map history_rows ts)
history_of_others row [] h = tt
history_of_others row (t ∷ ts) h =
    All-append (λ r. history_key r ≡ history_key row → ⊥) (history_rows t) (flat_map history_rows ts)
    (All-mapped _ (λ m. history_row_of_status t.id m.status m.stamp) t.marks (All-of t.marks (λ m e. eqb-false t.id row.trade h.0 (number_of t.id row.trade _ _ e))))
    (history_of_others row ts h.1)
  where
    number_of : (m n : ℕ) (j k : List KeyPart) → number m ∷ j ≡ number n ∷ k → m ≡ n
    number_of m n j k e = cc

-- so have the rows of a trade's one mark
own_history : (stamp : ℕ) (status : Status) (t : Trade) (marks : List StatusChange) → t.marks ≡ marks → HasOneStatusChange marks
    → has_last_status Pending t ≡ true → is_same_trade_status status Pending ≡ false
    → NewKey history_key (history_row_of_status t.id status stamp) (history_rows t)
own_history stamp status t [] e one p s = absurd one
own_history stamp status t (m ∷ n ∷ marks) e one p s = absurd one
own_history stamp status t (m ∷ []) e one p s =
    let q : is_same_trade_status m.status Pending ≡ true = rw e at p in
    rw e ((λ k. code_not_pending m.status status q s (code_of k)), tt)
  where
    code_of : number t.id ∷ word (trade_status_code m.status) ∷ [] ≡ number t.id ∷ word (trade_status_code status) ∷ [] → trade_status_code m.status ≡ trade_status_code status
    code_of k = cc

moved_history : (stamp : ℕ) (status : Status) (xs : List Trade) (t : Trade) (ys : List Trade) → ids_other t.id xs
    → HasOneStatusChange t.marks → has_last_status Pending t ≡ true → is_same_trade_status status Pending ≡ false
    → rows_sorted_by_key history_key (flat_map history_rows (xs ++ trade_with_status_change stamp status t ∷ ys))
    ≡ insert_row_by_key history_key (history_row_of_status t.id status stamp) (rows_sorted_by_key history_key (flat_map history_rows (xs ++ t ∷ ys)))
moved_history stamp status xs t ys g one p s =
    let row : HistoryRow = history_row_of_status t.id status stamp in
    let H : List Trade → List HistoryRow = flat_map history_rows in
    let after : H (xs ++ trade_with_status_change stamp status t ∷ ys) ≡ (H xs ++ history_rows t) ++ row ∷ H ys =
    flat_map-append history_rows xs (trade_with_status_change stamp status t ∷ ys)
    ∙ ap (λ rows. H xs ++ (rows ++ H ys)) (map-last (λ m. history_row_of_status t.id m.status m.stamp) t.marks (record { stamp = stamp; status = status }))
    ∙ ap (λ rows. H xs ++ rows) (append_assoc (history_rows t) (row ∷ []) (H ys))
    ∙ sym (append_assoc (H xs) (history_rows t) (row ∷ H ys)) in
    let before : H (xs ++ t ∷ ys) ≡ (H xs ++ history_rows t) ++ H ys =
    flat_map-append history_rows xs (t ∷ ys) ∙ sym (append_assoc (H xs) (history_rows t) (H ys)) in
    ap (rows_sorted_by_key history_key) after
    ∙ by_key-middle history_key (H xs ++ history_rows t) row (H ys)
    (All-append (λ r. history_key r ≡ history_key row → ⊥) (H xs) (history_rows t) (history_of_others row xs g) (own_history stamp status t t.marks refl one p s))
    ∙ ap (λ rows. insert_row_by_key history_key row (rows_sorted_by_key history_key rows)) (sym before)

-- ---- TRADE_REQUEST

moved_requests : (accounts : List Account) (stamp : ℕ) (status : Status) (xs : List Trade) (t : Trade) (ys : List Trade) → ids_other t.id xs → ids_other t.id ys
    → has_last_status Pending t ≡ true → is_same_trade_status status Pending ≡ false
    → rows_sorted_by_key request_key (map (request_row accounts) (pending_trades (xs ++ trade_with_status_change stamp status t ∷ ys)))
    ≡ filter (λ r. not (r.trade == t.id)) (rows_sorted_by_key request_key (map (request_row accounts) (pending_trades (xs ++ t ∷ ys))))
moved_requests accounts stamp status xs t ys g h p s =
    let R : List Trade → List RequestRow = map (request_row accounts) in
    let other : RequestRow → Bool = λ r. not (r.trade == t.id) in
    let after : pending_trades (xs ++ trade_with_status_change stamp status t ∷ ys) ≡ pending_trades xs ++ pending_trades ys =
    filter-not_one (has_last_status Pending) xs (trade_with_status_change stamp status t) ys (status_of_marked stamp status Pending t ∙ s) in
    let before : pending_trades (xs ++ t ∷ ys) ≡ pending_trades xs ++ t ∷ pending_trades ys = filter-one (has_last_status Pending) xs t ys p in
    let left : (ts : List Trade) → ids_other t.id ts → filter other (R (pending_trades ts)) ≡ R (pending_trades ts) = λ ts k.
    filter-all other (R (pending_trades ts))
    (All-mapped _ (request_row accounts) (pending_trades ts)
    (All-map (pending_trades ts) (λ u e. ap not e) (All-filter (λ u. (u.id == t.id) ≡ false) (has_last_status Pending) ts k))) in
    let own : other (request_row accounts t) ≡ false = ap not (eq-eqb t.id t.id refl) in
    let rows : R (pending_trades (xs ++ trade_with_status_change stamp status t ∷ ys)) ≡ filter other (R (pending_trades (xs ++ t ∷ ys))) =
    ap R after ∙ map-append (request_row accounts) (pending_trades xs) (pending_trades ys)
    ∙ (λ i. sym (left xs g) i ++ sym (left ys h) i)
    ∙ sym (filter-not_one other (R (pending_trades xs)) (request_row accounts t) (R (pending_trades ys)) own)
    ∙ ap (filter other) (sym (map-append (request_row accounts) (pending_trades xs) (t ∷ pending_trades ys)) ∙ ap R (sym before)) in
    ap (rows_sorted_by_key request_key) rows ∙ by_key-filter request_key other (R (pending_trades (xs ++ t ∷ ys)))

-- ---- all tables: the others look at the completed trades alone

abbrev pub with_list : Base → List Trade → Base
with_list base trades = record base { trades = trades }

pub moved_one : (base : Base) (stamp : ℕ) (status : Status) (xs : List Trade) (t : Trade) (ys : List Trade) → ids_other t.id xs → ids_other t.id ys
    → HasOneStatusChange t.marks → has_last_status Pending t ≡ true → is_same_trade_status status Pending ≡ false → is_same_trade_status status Completed ≡ false
    → sheets (with_list base (xs ++ trade_with_status_change stamp status t ∷ ys)) ≡ tables_after_change_from_pending t.id status stamp (sheets (with_list base (xs ++ t ∷ ys)))
unfolding tables_of_base_in_schema tables_sorted_by_key shares_of_position holding_summary_quantity balance_of_account trade_count_of_broker commission_total_of_broker
moved_one base stamp status xs t ys g h one p s c =
    let done : filter is_completed (xs ++ trade_with_status_change stamp status t ∷ ys) ≡ filter is_completed (xs ++ t ∷ ys) =
    filter-not_one is_completed xs (trade_with_status_change stamp status t) ys (status_of_marked stamp status Completed t ∙ c)
    ∙ sym (filter-not_one is_completed xs t ys (pending_not_completed t p)) in
    let before : Base = with_list base (xs ++ t ∷ ys) in
    λ i. record (tables_sorted_by_key (tables_from_completed_trades third_schema before (done i))) {
      trades = moved_trades stamp status xs t ys g h i;
      history = moved_history stamp status xs t ys g one p s i;
      requests = moved_requests base.accounts stamp status xs t ys g h p s i;
    }

-- several are submitted, where those that were so far stand in front
pub submitted_all : (base : Base) (stamp : ℕ) (p : Trade → Bool) (xs ts : List Trade) → TradesAreNumberedFrom 1 (xs ++ ts)
    → AllByRecursion (λ t. p t ≡ true → has_last_status Pending t ≡ true) ts → AllByRecursion HasOneStatusChangeIfPending ts
    → sheets (with_list base (xs ++ update_where p (trade_with_status_change stamp Submitted) ts))
    ≡ tables_with_trades_submitted stamp (map (λ t. t.id) (filter p ts)) (sheets (with_list base (xs ++ ts)))
submitted_all base stamp p xs [] n w h = refl
submitted_all base stamp p xs (t ∷ ts) n w h = by_test (λ ys k. submitted_all base stamp p ys ts k w.1 h.1) (p t) refl
  where
    S : List Trade → Tables
    S us = sheets (with_list base us)

    U : List Trade
    U = update_where p (trade_with_status_change stamp Submitted) ts

    ids : List Trade → List ℕ
    ids us = map (λ t. t.id) us

    Rows : Bool → Type 0
    Rows b = S (xs ++ cond b (trade_with_status_change stamp Submitted t) t ∷ U) ≡ tables_with_trades_submitted stamp (ids (cond b (t ∷ filter p ts) (filter p ts))) (S (xs ++ t ∷ ts))

    by_test : ((ys : List Trade) → TradesAreNumberedFrom 1 (ys ++ ts) → S (ys ++ U) ≡ tables_with_trades_submitted stamp (ids (filter p ts)) (S (ys ++ ts)))
        → (b : Bool) → p t ≡ b → Rows (p t)
    by_test ih true e =
        let u : Trade = trade_with_status_change stamp Submitted t in
        let waits : has_last_status Pending t ≡ true = w.0 e in
        let one : HasOneStatusChange t.marks = h.0 waits in
        let rows : Rows true =
        ap S (sym (append_assoc xs (u ∷ []) U))
        ∙ ih (xs ++ u ∷ []) (numbered_moved 1 xs t u ts refl n)
        ∙ ap (λ us. tables_with_trades_submitted stamp (ids (filter p ts)) (S us)) (append_assoc xs (u ∷ []) ts)
        ∙ ap (tables_with_trades_submitted stamp (ids (filter p ts))) (moved_one base stamp Submitted xs t ts (numbered_before 1 xs t ts n) (numbered_after 1 xs t ts n) one waits refl refl) in
        subst Rows (sym e) rows
    by_test ih false e =
        let rows : Rows false =
        ap S (sym (append_assoc xs (t ∷ []) U))
        ∙ ih (xs ++ t ∷ []) (numbered_moved 1 xs t t ts refl n)
        ∙ ap (λ us. tables_with_trades_submitted stamp (ids (filter p ts)) (S us)) (append_assoc xs (t ∷ []) ts) in
        subst Rows (sym e) rows
