-- Single steps of walks over rows.
use Rattle.std.proofs.Common.{◌≡◌, ℕ, ◌+◌, ◌<◌, ◌==◌, Bool, true, false, cond, List, [], ◌∷◌, ◌++◌, refl, sym, ◌∙◌, ap, map, filter, take, drop, length, get_or, ⊎_elim}
use Rattle.std.specs.Prelude.{◌&&◌, ◌||◌, is_none, not}
use Rattle.std.specs.List.{prefix_len}
use Rattle.std.proofs.lemmas.Bool.{and_cases, and_from, and_left, and_right, cases_eq, eq-eqb, ne_eqb, not-false, or_cases, or_left, or_right}
use Rattle.std.proofs.lemmas.List.{append-nil, drop_more, drop-map, take-append-drop, take-map, take_more}
use Rattle.brk_money.specs.Kinds.{is_same_trade_status}
use Rattle.brk_money.specs.declared.status.Status.TheVariants.{Completed}
use Rattle.brk_model.specs.Lists.{all_distinct, contains_number}
use Rattle.brk_ref.specs.Rows.{abstract_history_row, abstract_cash_row, abstract_trade_row}
use Rattle.brk_ref.specs.declared.trade_row.TradeRow.{TradeRow}
use Rattle.brk_ref.specs.declared.history_row.HistoryRow.{HistoryRow}
use Rattle.brk_ref.specs.declared.cash_row.CashRow.{CashRow}
use Rattle.brk_audit.specs.Statuses.{all_histories_are_valid, is_valid_history, movement_stamps_of_cash_rows, completion_stamps_of_history}

false_true : {A : Type 0} → false ≡ true → A
false_true e = absurd (cc)

prefix_len-map : {X Y : Type 0} (p : Y → Bool) (f : X → Y) (xs : List X) → prefix_len p (map f xs) ≡ prefix_len (λ x. p (f x)) xs
prefix_len-map p f [] = refl
prefix_len-map p f (x ∷ xs) = ap (λ n. cond (p (f x)) (1 + n) 0) (prefix_len-map p f xs)

-- ---- statuses

-- one trade further
pub go_more : (ts : List TradeRow) (i : ℕ) (t : TradeRow) (hs rows others : List HistoryRow) (n : ℕ) → i < length ts → t ≡ get_or ts i t
    → n ≡ prefix_len (λ h. h.trade == t.id) hs → rows ≡ take n hs → others ≡ drop n hs
    → all_histories_are_valid (map abstract_trade_row (drop i ts)) (map abstract_history_row hs)
    ≡ is_valid_history (abstract_trade_row t) (map abstract_history_row rows) && all_histories_are_valid (map abstract_trade_row (drop (i + 1) ts)) (map abstract_history_row others)
go_more ts i t hs rows others n l e m r o =
    let k : prefix_len (λ h. h.trade == t.id) (map abstract_history_row hs) ≡ n = prefix_len-map (λ h. h.trade == t.id) abstract_history_row hs ∙ sym m in
    ap (λ us. all_histories_are_valid (map abstract_trade_row us) (map abstract_history_row hs)) (drop_more ts i t l ∙ ap (λ u. u ∷ drop (i + 1) ts) (sym e))
    ∙ (λ j. is_valid_history (abstract_trade_row t) (take (k j) (map abstract_history_row hs))
    && all_histories_are_valid (map abstract_trade_row (drop (i + 1) ts)) (drop (k j) (map abstract_history_row hs)))
    ∙ (λ j. is_valid_history (abstract_trade_row t) ((take-map abstract_history_row n hs ∙ ap (map abstract_history_row) (sym r)) j)
    && all_histories_are_valid (map abstract_trade_row (drop (i + 1) ts)) ((drop-map abstract_history_row n hs ∙ ap (map abstract_history_row) (sym o)) j))

-- ---- stamps

or_false : (b : Bool) → b || false ≡ b
or_false true = refl
or_false false = refl

-- one number more
contains_more : (q : ℕ) (ns : List ℕ) (n : ℕ) → contains_number q (ns ++ n ∷ []) ≡ contains_number q ns || (n == q)
contains_more q [] n = or_false (n == q)
contains_more q (m ∷ ns) n = ap (λ b. (m == q) || b) (contains_more q ns n) ∙ or_thrice (m == q) (contains_number q ns) (n == q)
  where
    or_thrice : (a b c : Bool) → a || (b || c) ≡ a || b || c
    or_thrice true b c = refl
    or_thrice false b c = refl

contains_front : (q : ℕ) (ms ns : List ℕ) → contains_number q ms ≡ true → contains_number q (ms ++ ns) ≡ true
contains_front q [] ns e = false_true e
contains_front q (m ∷ ms) ns e =
    ⊎_elim (λ h. or_left (m == q) (contains_number q (ms ++ ns)) h) (λ h. or_right (m == q) (contains_number q (ms ++ ns)) (contains_front q ms ns h))
    (or_cases (m == q) (contains_number q ms) e)

distinct_more : (ns : List ℕ) (n : ℕ) → all_distinct (ns ++ n ∷ []) ≡ all_distinct ns && not (contains_number n ns)
distinct_more [] n = refl
distinct_more (m ∷ ns) n =
    (λ i. not (contains_more m ns n i) && distinct_more ns n i)
    ∙ ap (λ b. not (contains_number m ns || b) && (all_distinct ns && not (contains_number n ns))) (turned m n)
    ∙ moved (contains_number m ns) (m == n) (all_distinct ns) (contains_number n ns)
  where
    turned : (m n : ℕ) → (n == m) ≡ (m == n)
    turned m n = ⊎_elim (λ e. eq-eqb n m (sym e) ∙ sym (eq-eqb m n e)) (λ ne. ne_eqb n m (λ e. ne (sym e)) ∙ sym (ne_eqb m n ne)) (cases_eq m n)

    moved : (a e d b : Bool) → not (a || e) && (d && not b) ≡ not a && d && not (e || b)
    moved true e d b = refl
    moved false true true b = refl
    moved false true false b = refl
    moved false false d b = refl

-- what is not apart is not so with more behind it
pub not_distinct_front : (ms ns : List ℕ) → all_distinct ms ≡ false → all_distinct (ms ++ ns) ≡ false
not_distinct_front [] ns e = false_true (sym e)
not_distinct_front (m ∷ ms) ns e =
    ⊎_elim
    (λ h. and_left (not (contains_number m (ms ++ ns))) (all_distinct (ms ++ ns)) (ap not (contains_front m ms ns (not-false (contains_number m ms) h))))
    (λ h. and_right (not (contains_number m (ms ++ ns))) (all_distinct (ms ++ ns)) (not_distinct_front ms ns h))
    (and_cases (not (contains_number m ms)) (all_distinct ms) e)

-- the stamps of completions that rows of the history tell
abbrev pub told_stamps : List HistoryRow → List ℕ
told_stamps hs = completion_stamps_of_history (map abstract_history_row hs)

told-append : (hs ks : List HistoryRow) → told_stamps (hs ++ ks) ≡ told_stamps hs ++ told_stamps ks
told-append [] ks = refl
told-append (h ∷ hs) ks = by_test (is_same_trade_status h.status Completed) (told-append hs ks)
  where
    by_test : (b : Bool) → told_stamps (hs ++ ks) ≡ told_stamps hs ++ told_stamps ks
        → map (λ h. h.stamp) (cond b (abstract_history_row h ∷ filter (λ h. is_same_trade_status h.status Completed) (map abstract_history_row (hs ++ ks)))
        (filter (λ h. is_same_trade_status h.status Completed) (map abstract_history_row (hs ++ ks))))
        ≡ map (λ h. h.stamp) (cond b (abstract_history_row h ∷ filter (λ h. is_same_trade_status h.status Completed) (map abstract_history_row hs))
        (filter (λ h. is_same_trade_status h.status Completed) (map abstract_history_row hs))) ++ told_stamps ks
    by_test true e = ap (λ ns. h.stamp ∷ ns) e
    by_test false e = e

told_more : (hs : List HistoryRow) (i : ℕ) (h : HistoryRow) → i < length hs → h ≡ get_or hs i h → told_stamps (take (i + 1) hs) ≡ told_stamps (take i hs) ++ told_stamps (h ∷ [])
told_more hs i h l e = ap told_stamps (take_more hs i h l ∙ ap (λ k. take i hs ++ k ∷ []) (sym e)) ∙ told-append (take i hs) (h ∷ [])

-- what is seen after one more row
pub seen_more : (hs : List HistoryRow) (i : ℕ) (h : HistoryRow) (q : ℕ) (was is : Bool) → i < length hs → h ≡ get_or hs i h
    → was ≡ contains_number q (told_stamps (take i hs)) → is ≡ was || (is_same_trade_status h.status Completed && (h.stamp == q))
    → is ≡ contains_number q (told_stamps (take (i + 1) hs))
seen_more hs i h q was is l e f g =
    g ∙ ap (λ b. b || (is_same_trade_status h.status Completed && (h.stamp == q))) f ∙ by_test (is_same_trade_status h.status Completed) (told_stamps (take i hs))
    ∙ sym (ap (contains_number q) (told_more hs i h l e))
  where
    by_test : (b : Bool) (ns : List ℕ) → contains_number q ns || (b && (h.stamp == q)) ≡ contains_number q (ns ++ map (λ h. h.stamp) (cond b (abstract_history_row h ∷ []) []))
    by_test true ns = sym (contains_more q ns h.stamp)
    by_test false ns = or_false (contains_number q ns) ∙ ap (contains_number q) (sym (append-nil ns))

-- stamps stay apart after a row that tells a new one
pub apart_more : (hs : List HistoryRow) (i : ℕ) (h : HistoryRow) (was : Bool) → i < length hs → h ≡ get_or hs i h
    → was ≡ contains_number h.stamp (told_stamps (take i hs)) → not (is_same_trade_status h.status Completed && was) ≡ true
    → all_distinct (told_stamps (take i hs)) ≡ true → all_distinct (told_stamps (take (i + 1) hs)) ≡ true
apart_more hs i h was l e f g d =
    ap all_distinct (told_more hs i h l e)
    ∙ by_test (is_same_trade_status h.status Completed) (told_stamps (take i hs)) (sym (ap (λ b. not (is_same_trade_status h.status Completed && b)) f) ∙ g) d
  where
    by_test : (b : Bool) (ns : List ℕ) → not (b && contains_number h.stamp ns) ≡ true → all_distinct ns ≡ true
        → all_distinct (ns ++ map (λ h. h.stamp) (cond b (abstract_history_row h ∷ []) [])) ≡ true
    by_test true ns n d = distinct_more ns h.stamp ∙ and_from (all_distinct ns) (not (contains_number h.stamp ns)) d n
    by_test false ns n d = ap all_distinct (append-nil ns) ∙ d

-- and they are not apart where a row tells a stamp that was seen
pub not_apart : (hs : List HistoryRow) (i : ℕ) (h : HistoryRow) (was : Bool) → i < length hs → h ≡ get_or hs i h
    → was ≡ contains_number h.stamp (told_stamps (take i hs)) → not (is_same_trade_status h.status Completed && was) ≡ false → all_distinct (told_stamps hs) ≡ false
not_apart hs i h was l e f g =
    ap (λ ks. all_distinct (told_stamps ks)) (sym (take-append-drop (i + 1) hs)) ∙ ap all_distinct (told-append (take (i + 1) hs) (drop (i + 1) hs))
    ∙ not_distinct_front (told_stamps (take (i + 1) hs)) (told_stamps (drop (i + 1) hs))
    (ap all_distinct (told_more hs i h l e) ∙ by_test (is_same_trade_status h.status Completed) (told_stamps (take i hs)) (sym (ap (λ b. not (is_same_trade_status h.status Completed && b)) f) ∙ g))
  where
    by_test : (b : Bool) (ns : List ℕ) → not (b && contains_number h.stamp ns) ≡ false → all_distinct (ns ++ map (λ h. h.stamp) (cond b (abstract_history_row h ∷ []) [])) ≡ false
    by_test true ns n = distinct_more ns h.stamp ∙ and_right (all_distinct ns) (not (contains_number h.stamp ns)) n
    by_test false ns n = false_true (sym n)

-- ---- movements, after stamps that were seen

-- the stamps of movements that rows tell
abbrev pub moved_told : List CashRow → List ℕ
moved_told rs = movement_stamps_of_cash_rows (map abstract_cash_row rs)

moved-append : (rs ks : List CashRow) → moved_told (rs ++ ks) ≡ moved_told rs ++ moved_told ks
moved-append [] ks = refl
moved-append (r ∷ rs) ks = by_test (is_none r.trade) (moved-append rs ks)
  where
    by_test : (b : Bool) → moved_told (rs ++ ks) ≡ moved_told rs ++ moved_told ks
        → map (λ r. r.stamp) (cond b (abstract_cash_row r ∷ filter (λ r. is_none r.trade) (map abstract_cash_row (rs ++ ks))) (filter (λ r. is_none r.trade) (map abstract_cash_row (rs ++ ks))))
        ≡ map (λ r. r.stamp) (cond b (abstract_cash_row r ∷ filter (λ r. is_none r.trade) (map abstract_cash_row rs)) (filter (λ r. is_none r.trade) (map abstract_cash_row rs))) ++ moved_told ks
    by_test true e = ap (λ ns. r.stamp ∷ ns) e
    by_test false e = e

append_twice : (ms ns ks : List ℕ) → ms ++ (ns ++ ks) ≡ (ms ++ ns) ++ ks
append_twice [] ns ks = refl
append_twice (m ∷ ms) ns ks = ap (λ xs. m ∷ xs) (append_twice ms ns ks)

moved_more : (before : List ℕ) (rs : List CashRow) (i : ℕ) (r : CashRow) → i < length rs → r ≡ get_or rs i r
    → before ++ moved_told (take (i + 1) rs) ≡ (before ++ moved_told (take i rs)) ++ moved_told (r ∷ [])
moved_more before rs i r l e =
    ap (λ ns. before ++ ns) (ap moved_told (take_more rs i r l ∙ ap (λ k. take i rs ++ k ∷ []) (sym e)) ∙ moved-append (take i rs) (r ∷ []))
    ∙ append_twice before (moved_told (take i rs)) (moved_told (r ∷ []))

-- what is seen after one more movement
pub seen_moved : (before : List ℕ) (rs : List CashRow) (i : ℕ) (r : CashRow) (q : ℕ) (was is : Bool) → i < length rs → r ≡ get_or rs i r
    → was ≡ contains_number q (before ++ moved_told (take i rs)) → is ≡ was || (is_none r.trade && (r.stamp == q))
    → is ≡ contains_number q (before ++ moved_told (take (i + 1) rs))
seen_moved before rs i r q was is l e f g =
    g ∙ ap (λ b. b || (is_none r.trade && (r.stamp == q))) f ∙ by_test (is_none r.trade) (before ++ moved_told (take i rs))
    ∙ sym (ap (contains_number q) (moved_more before rs i r l e))
  where
    by_test : (b : Bool) (ns : List ℕ) → contains_number q ns || (b && (r.stamp == q)) ≡ contains_number q (ns ++ map (λ r. r.stamp) (cond b (abstract_cash_row r ∷ []) []))
    by_test true ns = sym (contains_more q ns r.stamp)
    by_test false ns = or_false (contains_number q ns) ∙ ap (contains_number q) (sym (append-nil ns))

-- stamps stay apart after a new one
pub apart_moved : (before : List ℕ) (rs : List CashRow) (i : ℕ) (r : CashRow) (was : Bool) → i < length rs → r ≡ get_or rs i r
    → was ≡ contains_number r.stamp (before ++ moved_told (take i rs)) → not (is_none r.trade && was) ≡ true
    → all_distinct (before ++ moved_told (take i rs)) ≡ true → all_distinct (before ++ moved_told (take (i + 1) rs)) ≡ true
apart_moved before rs i r was l e f g d =
    ap all_distinct (moved_more before rs i r l e)
    ∙ by_test (is_none r.trade) (before ++ moved_told (take i rs)) (sym (ap (λ b. not (is_none r.trade && b)) f) ∙ g) d
  where
    by_test : (b : Bool) (ns : List ℕ) → not (b && contains_number r.stamp ns) ≡ true → all_distinct ns ≡ true → all_distinct (ns ++ map (λ r. r.stamp) (cond b (abstract_cash_row r ∷ []) [])) ≡ true
    by_test true ns n d = distinct_more ns r.stamp ∙ and_from (all_distinct ns) (not (contains_number r.stamp ns)) d n
    by_test false ns n d = ap all_distinct (append-nil ns) ∙ d

-- and are not apart where a movement's was seen
pub not_apart_moved : (before : List ℕ) (rs : List CashRow) (i : ℕ) (r : CashRow) (was : Bool) → i < length rs → r ≡ get_or rs i r
    → was ≡ contains_number r.stamp (before ++ moved_told (take i rs)) → not (is_none r.trade && was) ≡ false → all_distinct (before ++ moved_told rs) ≡ false
not_apart_moved before rs i r was l e f g =
    ap all_distinct (ap (λ ks. before ++ moved_told ks) (sym (take-append-drop (i + 1) rs)) ∙ ap (λ ns. before ++ ns) (moved-append (take (i + 1) rs) (drop (i + 1) rs))
    ∙ append_twice before (moved_told (take (i + 1) rs)) (moved_told (drop (i + 1) rs)))
    ∙ not_distinct_front (before ++ moved_told (take (i + 1) rs)) (moved_told (drop (i + 1) rs))
    (ap all_distinct (moved_more before rs i r l e) ∙ by_test (is_none r.trade) (before ++ moved_told (take i rs)) (sym (ap (λ b. not (is_none r.trade && b)) f) ∙ g))
  where
    by_test : (b : Bool) (ns : List ℕ) → not (b && contains_number r.stamp ns) ≡ false → all_distinct (ns ++ map (λ r. r.stamp) (cond b (abstract_cash_row r ∷ []) [])) ≡ false
    by_test true ns n = distinct_more ns r.stamp ∙ and_right (all_distinct ns) (not (contains_number r.stamp ns)) n
    by_test false ns n = false_true (sym n)
