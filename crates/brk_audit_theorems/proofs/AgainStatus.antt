-- The tables of a base with valid histories satisfy the condition `Status`.
use Rattle.std.proofs.Common.{◌≡◌, ℕ, ◌==◌, Bool, true, false, not, cond, List, [], ◌∷◌, ◌++◌, refl, sym, ◌∙◌, ap, subst, map, filter, Some, None}
use Rattle.std.specs.Prelude.{◌&&◌, ◌||◌, flat_map, is_none}
use Rattle.std.specs.List.{AllByRecursion, last_or, list_all}
use Rattle.std.specs.Option.{option_map_or}
use Rattle.std.proofs.lemmas.Bool.{and_from, and_parts, eq-eqb, not-true}
use Rattle.brk_money.specs.Kinds.{is_same_trade_status}
use Rattle.brk_money.specs.declared.status.Status.{Status}
use Rattle.brk_money.specs.declared.status.Status.TheVariants.{Completed, Active, Submitted, Pending, Canceled}
use Rattle.brk_model.specs.Lists.{all_distinct, contains_number, insert_by, sort_by}
use Rattle.brk_model.specs.Records.{StatusChange, Movement, Trade}
use Rattle.brk_model.specs.Base.{Base, completed_trades, is_completed, last_status_stamp_of_trade}
use Rattle.brk_model.specs.Tables.{HistoryRow, TradeRow, history_rows, tables_of_base_in_schema, trade_row}
use Rattle.brk_model.specs.Sheets.{sheets, tables_sorted_by_key}
use Rattle.brk_model.specs.Keys.{rows_sorted_by_key, is_row_key_less, history_key}
use Rattle.brk_model.specs.Adopted.{movement_of_row}
use Rattle.brk_model.specs.Ways.{completion_stamps, satisfies_status_condition, movement_stamps, matches_last_status_change, is_strictly_ascending, is_valid_status_sequence, has_valid_status_history}
use Rattle.brk_trade_books.specs.Books.{BooksInvariant, HasDistinctLastStatusStamps, HasDistinctMovementStamps}
use Rattle.brk_trade_books.proofs.Bools.{numbers_back}
use Rattle.brk_trade_books.proofs.Order.{by_key-filter}
use Rattle.brk_trade_books.proofs.LotReading.{All-sort}
use Rattle.brk_trade_books.proofs.Same.{All-of}
use Rattle.brk_trade_books.proofs.Places.{filter-append, map-append}
use Rattle.brk_trade_books.proofs.TradeReading.{trades_in_order}
use Rattle.brk_audit_theorems.specs.Histories.{HasValidStatusSequence, HasValidHistories, HasAscendingStatusStamps}
use Rattle.brk_audit_theorems.proofs.Marks.{no_more_ways, three_ways}
use Rattle.brk_audit_theorems.proofs.Again.{IsRead, both_all, marks_again, movements_again, reads}
use Rattle.brk_audit_theorems.proofs.AdoptedBooks.{contains_both, of_mapped}
use Rattle.brk_audit_theorems.proofs.Members.{map-map}

false_true : {A : Type 0} → false ≡ true → A
false_true e = absurd (cc)

pub all_list : {X : Type 0} (p : X → Bool) (xs : List X) → AllByRecursion (λ x. p x ≡ true) xs → list_all p xs ≡ true
all_list p [] h = refl
all_list p (x ∷ xs) h = and_from (p x) (list_all p xs) h.0 (all_list p xs h.1)

-- ---- each trade

same_itself : (s : Status) → is_same_trade_status s s ≡ true
same_itself Completed = refl
same_itself Active = refl
same_itself Submitted = refl
same_itself Pending = refl
same_itself Canceled = refl

last_is : (row : TradeRow) (m : StatusChange) (ms : List StatusChange) (n : StatusChange) → last_or (Some m) ms ≡ Some n → row.status ≡ n.status
    → row.stamp ≡ n.stamp → matches_last_status_change row (m ∷ ms) ≡ true
last_is row m [] n e s t =
    let j : m ≡ n = cc in
    and_from (is_same_trade_status row.status m.status) (row.stamp == m.stamp) (ap (λ u. is_same_trade_status u m.status) (s ∙ sym (ap (λ m. m.status) j)) ∙ same_itself m.status)
    (eq-eqb row.stamp m.stamp (t ∙ sym (ap (λ m. m.stamp) j)))
last_is row m (o ∷ ms) n e s t = last_is row o ms n e s t

pub some_last : (m : StatusChange) (ms : List StatusChange) → (n : StatusChange) × (last_or (Some m) ms ≡ Some n)
some_last m [] = (m, refl)
some_last m (o ∷ ms) = some_last o ms

pub last_row : (t : Trade) (ms : List StatusChange) → t.marks ≡ ms → is_valid_status_sequence (map (λ m. m.status) ms) ≡ true → matches_last_status_change (trade_row t) ms ≡ true
last_row t [] e w = w
last_row t (m ∷ ms) e w =
    let l = some_last m ms in
    let k : last_or None t.marks ≡ Some l.0 = ap (last_or None) e ∙ l.1 in
    last_is (trade_row t) m ms l.0 l.1 (ap (λ o. option_map_or (λ m. m.status) o Canceled) k) (ap (λ o. option_map_or (λ m. m.stamp) o 0) k)

each_right : (base : Base) (t : Trade) → IsRead base t → HasAscendingStatusStamps t → HasValidStatusSequence t → has_valid_status_history (sheets base) (trade_row t) ≡ true
each_right base t r s w =
    ap (λ ms. is_valid_status_sequence (map (λ m. m.status) ms) && is_strictly_ascending (map (λ m. m.stamp) ms) && matches_last_status_change (trade_row t) ms) (marks_again base t r s)
    ∙ and_from (is_valid_status_sequence (map (λ m. m.status) t.marks) && is_strictly_ascending (map (λ m. m.stamp) t.marks)) (matches_last_status_change (trade_row t) t.marks)
    (and_from (is_valid_status_sequence (map (λ m. m.status) t.marks)) (is_strictly_ascending (map (λ m. m.stamp) t.marks)) w s) (last_row t t.marks refl w)

mapped : {X Y : Type 0} (P : Y → Type 0) (f : X → Y) (xs : List X) → AllByRecursion (λ x. P (f x)) xs → AllByRecursion P (map f xs)
mapped P f [] h = tt
mapped P f (x ∷ xs) h = (h.0, mapped P f xs h.1)

each_of : {X : Type 0} (P Q : X → Type 0) (xs : List X) → ((x : X) → P x → Q x) → AllByRecursion P xs → AllByRecursion Q xs
each_of P Q [] f h = tt
each_of P Q (x ∷ xs) f h = (f x h.0, each_of P Q xs f h.1)

-- ---- completions

is_done : HistoryRow → Bool
is_done h = is_same_trade_status h.status Completed

abbrev row_of : ℕ → StatusChange → HistoryRow
row_of id m = record { trade = id; status = m.status; stamp = m.stamp }

pub first_of_two : (a b : Status) → is_valid_status_sequence (a ∷ b ∷ []) ≡ true → is_same_trade_status a Completed ≡ false
first_of_two Completed Completed e = cc
first_of_two Completed Active e = cc
first_of_two Completed Submitted e = cc
first_of_two Completed Pending e = cc
first_of_two Completed Canceled e = cc
first_of_two Active b e = refl
first_of_two Submitted b e = refl
first_of_two Pending b e = refl
first_of_two Canceled b e = refl

abbrev one_if : Bool → ℕ → List ℕ
one_if b n = cond b (n ∷ []) []

one_stamp : (id : ℕ) (m : StatusChange) → map (λ h. h.stamp) (filter (λ h. is_same_trade_status h.status Completed) (row_of id m ∷ [])) ≡ one_if (is_same_trade_status m.status Completed) m.stamp
one_stamp id m = by_test (is_same_trade_status m.status Completed)
  where
    by_test : (b : Bool) → map (λ h. h.stamp) (cond b (row_of id m ∷ []) []) ≡ one_if b m.stamp
    by_test true = refl
    by_test false = refl

own_stamp : (id : ℕ) (ms : List StatusChange) → is_valid_status_sequence (map (λ m. m.status) ms) ≡ true
    → map (λ h. h.stamp) (filter (λ h. is_same_trade_status h.status Completed) (map (row_of id) ms))
    ≡ one_if (option_map_or (λ m. is_same_trade_status m.status Completed) (last_or None ms) false) (option_map_or (λ m. m.stamp) (last_or None ms) 0)
own_stamp id [] w = refl
own_stamp id (m ∷ []) w = one_stamp id m
own_stamp id (m ∷ n ∷ []) w =
    ap (λ b. map (λ h. h.stamp)
    (cond b (row_of id m ∷ filter (λ h. is_same_trade_status h.status Completed) (row_of id n ∷ []))
    (filter (λ h. is_same_trade_status h.status Completed) (row_of id n ∷ []))))
    (first_of_two m.status n.status w)
    ∙ one_stamp id n
own_stamp id (m ∷ n ∷ o ∷ []) w =
    let k = three_ways m.status n.status o.status w in
    let C : HistoryRow → Bool = λ h. is_same_trade_status h.status Completed in
    ap (λ s. map (λ h. h.stamp) (cond (is_same_trade_status s Completed) (row_of id m ∷ filter C (row_of id n ∷ row_of id o ∷ [])) (filter C (row_of id n ∷ row_of id o ∷ [])))) k.0
    ∙ ap (λ s. map (λ h. h.stamp) (cond (is_same_trade_status s Completed) (row_of id n ∷ filter C (row_of id o ∷ [])) (filter C (row_of id o ∷ [])))) k.1
    ∙ one_stamp id o
own_stamp id (m ∷ n ∷ o ∷ p ∷ ms) w = absurd (no_more_ways m.status n.status o.status p.status (map (λ m. m.status) ms) w)

stamps_are : (ts : List Trade) → AllByRecursion HasValidStatusSequence ts
    → map (λ h. h.stamp) (filter (λ h. is_same_trade_status h.status Completed) (flat_map history_rows ts)) ≡ map last_status_stamp_of_trade (filter is_completed ts)
stamps_are [] w = refl
stamps_are (t ∷ ts) w =
    let C : HistoryRow → Bool = λ h. is_same_trade_status h.status Completed in
    ap (map (λ h. h.stamp)) (filter-append C (history_rows t) (flat_map history_rows ts)) ∙ map-append (λ h. h.stamp) (filter C (history_rows t)) (filter C (flat_map history_rows ts))
    ∙ (λ i. own_stamp t.id t.marks w.0 i ++ stamps_are ts w.1 i) ∙ by_test (is_completed t)
  where
    by_test : (b : Bool) → one_if b (last_status_stamp_of_trade t) ++ map last_status_stamp_of_trade (filter is_completed ts)
        ≡ map last_status_stamp_of_trade (cond b (t ∷ filter is_completed ts) (filter is_completed ts))
    by_test true = refl
    by_test false = refl

-- ---- whether numbers are distinct is no matter of order

swap : (a b c d : Bool) → not (a || b) && (not c && d) ≡ not (a || c) && (not b && d)
swap true b c d = refl
swap false true true d = refl
swap false true false d = refl
swap false false true d = refl
swap false false false d = refl

or_swap : (a b c : Bool) → a || (b || c) ≡ b || (a || c)
or_swap true true c = refl
or_swap true false c = refl
or_swap false b c = refl

contains_insert : (before : HistoryRow → HistoryRow → Bool) (n : ℕ) (x : HistoryRow) (ys : List HistoryRow)
    → contains_number n (map (λ h. h.stamp) (insert_by before x ys)) ≡ (x.stamp == n) || contains_number n (map (λ h. h.stamp) ys)
contains_insert before n x [] = refl
contains_insert before n x (y ∷ ys) = by_test (before y x) (contains_insert before n x ys)
  where
    by_test : (b : Bool) → contains_number n (map (λ h. h.stamp) (insert_by before x ys)) ≡ (x.stamp == n) || contains_number n (map (λ h. h.stamp) ys)
        → contains_number n (map (λ h. h.stamp) (cond b (y ∷ insert_by before x ys) (x ∷ y ∷ ys))) ≡ (x.stamp == n) || contains_number n (map (λ h. h.stamp) (y ∷ ys))
    by_test true e = ap (λ b. (y.stamp == n) || b) e ∙ or_swap (y.stamp == n) (x.stamp == n) (contains_number n (map (λ h. h.stamp) ys))
    by_test false e = refl

distinct_insert : (before : HistoryRow → HistoryRow → Bool) (x : HistoryRow) (ys : List HistoryRow)
    → all_distinct (map (λ h. h.stamp) (insert_by before x ys)) ≡ not (contains_number x.stamp (map (λ h. h.stamp) ys)) && all_distinct (map (λ h. h.stamp) ys)
distinct_insert before x [] = refl
distinct_insert before x (y ∷ ys) = by_test (before y x) (distinct_insert before x ys)
  where
    Y : List ℕ
    Y = map (λ h. h.stamp) ys

    by_test : (b : Bool) → all_distinct (map (λ h. h.stamp) (insert_by before x ys)) ≡ not (contains_number x.stamp Y) && all_distinct Y
        → all_distinct (map (λ h. h.stamp) (cond b (y ∷ insert_by before x ys) (x ∷ y ∷ ys))) ≡ not (contains_number x.stamp (map (λ h. h.stamp) (y ∷ ys)))
        && all_distinct (map (λ h. h.stamp) (y ∷ ys))
    by_test true e =
        (λ i. not (contains_insert before y.stamp x ys i) && e i)
        ∙ swap (x.stamp == y.stamp) (contains_number y.stamp Y) (contains_number x.stamp Y) (all_distinct Y)
        ∙ ap (λ b. not (b || contains_number x.stamp Y) && (not (contains_number y.stamp Y) && all_distinct Y)) (numbers_back x.stamp y.stamp)
    by_test false e = refl

contains_sort : (n : ℕ) (xs : List HistoryRow) → contains_number n (map (λ h. h.stamp) (rows_sorted_by_key history_key xs)) ≡ contains_number n (map (λ h. h.stamp) xs)
unfolding sort_by
contains_sort n [] = refl
contains_sort n (x ∷ xs) = contains_insert (is_row_key_less history_key) n x (rows_sorted_by_key history_key xs) ∙ ap (λ b. (x.stamp == n) || b) (contains_sort n xs)

distinct_sort : (xs : List HistoryRow) → all_distinct (map (λ h. h.stamp) (rows_sorted_by_key history_key xs)) ≡ all_distinct (map (λ h. h.stamp) xs)
unfolding sort_by
distinct_sort [] = refl
distinct_sort (x ∷ xs) =
    distinct_insert (is_row_key_less history_key) x (rows_sorted_by_key history_key xs) ∙ (λ i. not (contains_sort x.stamp xs i) && distinct_sort xs i)

none_contained : (n : ℕ) (ts : List Trade) → AllByRecursion (λ u. (last_status_stamp_of_trade u == n) ≡ false) ts → contains_number n (map last_status_stamp_of_trade ts) ≡ false
none_contained n [] h = refl
none_contained n (t ∷ ts) h = ap (λ b. b || contains_number n (map last_status_stamp_of_trade ts)) h.0 ∙ none_contained n ts h.1

apart_distinct : (ts : List Trade) → HasDistinctLastStatusStamps ts → all_distinct (map last_status_stamp_of_trade ts) ≡ true
apart_distinct [] a = refl
apart_distinct (t ∷ ts) a =
    ap (λ b. not b && all_distinct (map last_status_stamp_of_trade ts)) (none_contained (last_status_stamp_of_trade t) ts a.0) ∙ apart_distinct ts a.1

completions_apart : (base : Base) → BooksInvariant base → HasValidHistories base → all_distinct (completion_stamps (sheets base)) ≡ true
unfolding tables_sorted_by_key tables_of_base_in_schema
completions_apart base books told =
    let C : HistoryRow → Bool = λ h. is_same_trade_status h.status Completed in
    ap (λ rows. all_distinct (map (λ h. h.stamp) rows)) (sym (by_key-filter history_key C (flat_map history_rows base.trades)))
    ∙ distinct_sort (filter C (flat_map history_rows base.trades)) ∙ ap all_distinct (stamps_are base.trades told.ways) ∙ apart_distinct (completed_trades base) books.moments

-- ---- and movements beside them

all_mapped : {X Y : Type 0} (P : Y → Type 0) (f : X → Y) (xs : List X) → AllByRecursion (λ x. P (f x)) xs → AllByRecursion P (map f xs)
all_mapped P f [] h = tt
all_mapped P f (x ∷ xs) h = (h.0, all_mapped P f xs h.1)

not_contained : (n : ℕ) (ms : List Movement) → AllByRecursion (λ m. (m.stamp == n) ≡ false) ms → contains_number n (map (λ m. m.stamp) ms) ≡ false
not_contained n [] h = refl
not_contained n (m ∷ ms) h = ap (λ b. b || contains_number n (map (λ m. m.stamp) ms)) h.0 ∙ not_contained n ms h.1

movements_distinct : (done : List Trade) (ms : List Movement) → HasDistinctMovementStamps done ms → all_distinct (map (λ m. m.stamp) ms) ≡ true
movements_distinct done [] a = refl
movements_distinct done (m ∷ ms) a =
    ap (λ b. not b && all_distinct (map (λ m. m.stamp) ms)) (not_contained m.stamp ms a.1) ∙ movements_distinct done ms a.2

none_across : (done : List Trade) (ms : List Movement) → HasDistinctMovementStamps done ms → AllByRecursion (λ t. contains_number (last_status_stamp_of_trade t) (map (λ m. m.stamp) ms) ≡ false) done
none_across done [] a = All-of done (λ t. refl)
none_across done (m ∷ ms) a =
    each_of (λ t. ((last_status_stamp_of_trade t == m.stamp) ≡ false) × (contains_number (last_status_stamp_of_trade t) (map (λ m. m.stamp) ms) ≡ false))
    (λ t. contains_number (last_status_stamp_of_trade t) (map (λ m. m.stamp) (m ∷ ms)) ≡ false) done
    (λ t h. ap (λ b. b || contains_number (last_status_stamp_of_trade t) (map (λ m. m.stamp) ms)) (numbers_back m.stamp (last_status_stamp_of_trade t) ∙ h.0) ∙ h.1)
    (both_all (λ t. (last_status_stamp_of_trade t == m.stamp) ≡ false) (λ t. contains_number (last_status_stamp_of_trade t) (map (λ m. m.stamp) ms) ≡ false) done a.0 (none_across done ms a.2))

distinct_both : (xs ys : List ℕ) → all_distinct xs ≡ true → all_distinct ys ≡ true → AllByRecursion (λ x. contains_number x ys ≡ false) xs → all_distinct (xs ++ ys) ≡ true
distinct_both [] ys d e h = e
distinct_both (x ∷ xs) ys d e h =
    let k = and_parts (not (contains_number x xs)) (all_distinct xs) d in
    and_from (not (contains_number x (xs ++ ys))) (all_distinct (xs ++ ys))
    (ap not (contains_both x xs ys ∙ (λ i. not-true (contains_number x xs) k.0 i || h.0 i))) (distinct_both xs ys k.1 e h.1)

movement_stamps_again : (base : Base) → HasValidHistories base → movement_stamps (sheets base) ≡ map (λ m. m.stamp) base.movements
movement_stamps_again base told =
    sym (map-map (λ m. m.stamp) movement_of_row (filter (λ r. is_none r.trade) (sheets base).moves)) ∙ ap (map (λ m. m.stamp)) (movements_again base told)

-- no completion has the stamp of a movement
none_at_movement : (base : Base) → BooksInvariant base → HasValidHistories base → AllByRecursion (λ n. contains_number n (map (λ m. m.stamp) base.movements) ≡ false) (completion_stamps (sheets base))
unfolding tables_sorted_by_key tables_of_base_in_schema
none_at_movement base books told =
    let C : HistoryRow → Bool = λ h. is_same_trade_status h.status Completed in
    let ys : List ℕ = map (λ m. m.stamp) base.movements in
    let P : HistoryRow → Type 0 = λ h. contains_number h.stamp ys ≡ false in
    all_mapped (λ n. contains_number n ys ≡ false) (λ h. h.stamp) (filter C (rows_sorted_by_key history_key (flat_map history_rows base.trades)))
    (subst (AllByRecursion P) (by_key-filter history_key C (flat_map history_rows base.trades))
    (All-sort P (is_row_key_less history_key) (filter C (flat_map history_rows base.trades))
    (of_mapped (λ n. contains_number n ys ≡ false) (λ h. h.stamp) (filter C (flat_map history_rows base.trades))
    (subst (AllByRecursion (λ n. contains_number n ys ≡ false)) (sym (stamps_are base.trades told.ways))
    (all_mapped (λ n. contains_number n ys ≡ false) last_status_stamp_of_trade (completed_trades base) (none_across (completed_trades base) base.movements books.movements.apart))))))

stamps_apart : (base : Base) → BooksInvariant base → HasValidHistories base → all_distinct (completion_stamps (sheets base) ++ movement_stamps (sheets base)) ≡ true
stamps_apart base books told =
    ap (λ ys. all_distinct (completion_stamps (sheets base) ++ ys)) (movement_stamps_again base told)
    ∙ distinct_both (completion_stamps (sheets base)) (map (λ m. m.stamp) base.movements) (completions_apart base books told)
    (movements_distinct (completed_trades base) base.movements books.movements.apart) (none_at_movement base books told)

pub status_again : (base : Base) → BooksInvariant base → HasValidHistories base → satisfies_status_condition (sheets base) ≡ true
unfolding satisfies_status_condition
status_again base books told =
    and_from (list_all (has_valid_status_history (sheets base)) (sheets base).trades) (all_distinct (completion_stamps (sheets base) ++ movement_stamps (sheets base)))
    (all_list (has_valid_status_history (sheets base)) (sheets base).trades
    (subst (AllByRecursion (λ r. has_valid_status_history (sheets base) r ≡ true)) (sym (trades_in_order base books.numbered))
    (mapped (λ r. has_valid_status_history (sheets base) r ≡ true) trade_row base.trades
    (each_of (λ t. IsRead base t × (HasAscendingStatusStamps t × HasValidStatusSequence t)) (λ t. has_valid_status_history (sheets base) (trade_row t) ≡ true)
    base.trades (λ t h. each_right base t h.0 h.1.0 h.1.1)
    (both_all (IsRead base) (λ t. HasAscendingStatusStamps t × HasValidStatusSequence t) base.trades (reads base books.numbered)
    (both_all HasAscendingStatusStamps HasValidStatusSequence base.trades told.stamps told.ways))))))
    (stamps_apart base books told)
