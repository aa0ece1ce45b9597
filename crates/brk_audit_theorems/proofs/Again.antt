-- The tables of a base describe this base, with its reference records sorted by key.
use Rattle.std.proofs.Common.{◌≡◌, ℕ, ◌==◌, Bool, true, false, not, cond, List, [], ◌∷◌, ◌++◌, refl, sym, ◌∙◌, ap, subst, map, filter, arith, Some, None}
use Rattle.std.specs.Prelude.{⊤, ◌&&◌, nat_lt, find, flat_map, is_none, option_map, bytes_eq}
use Rattle.std.specs.List.{AllByRecursion}
use Rattle.std.specs.Option.{option_map_or}
use Rattle.std.proofs.lemmas.Bool.{and_parts, eq-eqb}
use Rattle.std.proofs.lemmas.Bool.Decides.{nat_tests}
use Rattle.std.proofs.lemmas.Slice.Eq.{bytes_eq-Decides}
use Rattle.brk_money.specs.Spelling.{Text}
use Rattle.brk_model.specs.Lists.{insert_by, sort_by, sort_by_key}
use Rattle.brk_model.specs.Records.{StatusChange, Movement, Security, Trade}
use Rattle.brk_model.specs.Base.{Base, completed_trades, is_completed, security_with_symbol}
use Rattle.brk_model.specs.Derived.{Posting, cash_trades, postings_sorted_by_stamp, posting_of_movement, posting_of_trade, postings_of_base}
use Rattle.brk_model.specs.Tables.{HistoryRow, account_row, broker_row, history_rows, last_trade_row, security_row, settlement_row, tables_of_base_in_schema, trade_row}
use Rattle.brk_model.specs.Sheets.{sheets, tables_sorted_by_key}
use Rattle.brk_model.specs.Keys.{number, word, rows_sorted_by_key, is_row_key_less, account_key, broker_key, history_key, security_key}
use Rattle.brk_model.specs.Adopted.{account_of_row, base_of_tables, is_posting_of_trade, status_changes_of_trade, movement_of_row, zero_last_trade_row}
use Rattle.brk_model.specs.Adopted.{posting_of_cash_transaction_row, posting_of_cash_move_row, postings_of_tables, security_of_row, security_of_rows}
use Rattle.brk_model.specs.Adopted.{trade_of_row}
use Rattle.brk_model.specs.Ways.{is_strictly_ascending}
use Rattle.brk_model.specs.Names.{TradesAreNumberedFrom}
use Rattle.brk_trade_books.specs.Books.{HasDistinctSymbols, BooksInvariant}
use Rattle.brk_trade_books.proofs.Order.{Sorted, Splits, by_key-filter, by_key-map, insert_commute, sort_sorted}
use Rattle.brk_trade_books.proofs.Same.{All-map, All-of, NonePass, filter-none, flat_map-append}
use Rattle.brk_trade_books.proofs.Places.{append_assoc, filter-all, filter-append}
use Rattle.brk_trade_books.proofs.Numbering.{numbered_after, numbered_before}
use Rattle.brk_trade_books.proofs.LotReading.{All-sort}
use Rattle.brk_trade_books.proofs.Reading.{find-id, find-map}
use Rattle.brk_trade_books.proofs.TermReading.{reads_last_trade}
use Rattle.brk_trade_books.proofs.TradeReading.{trades_in_order}
use Rattle.brk_trade_books.proofs.MoveReading.{movements_back, rows_posted, turn_filter}
use Rattle.brk_trade_books.proofs.Each.{AllCommute, Commute, each, each_map, each_sort}
use Rattle.brk_audit_theorems.specs.Histories.{HasSettlementAndCashTextsOnlyIfCompleted, HasValidHistories, HasAscendingStatusStamps, base_sorted_by_keys}
use Rattle.brk_audit_theorems.proofs.Members.{map-map, map_back}

-- ---- statuses

later : StatusChange → StatusChange → Bool
later x y = nat_lt x.stamp y.stamp

abbrev row_of : ℕ → StatusChange → HistoryRow
row_of id m = record { trade = id; status = m.status; stamp = m.stamp }

abbrev mark_of : HistoryRow → StatusChange
mark_of h = record { stamp = h.stamp; status = h.status }

splits : Splits {X = StatusChange} (λ x y. nat_lt x.stamp y.stamp)
splits x y z g h = numbers x.stamp y.stamp z.stamp g h
  where
    numbers : (a b c : ℕ) → nat_lt c a ≡ true → nat_lt c b ≡ false → nat_lt b a ≡ true
    numbers a b c g h = grind (arith, nat_tests)

-- each before all after it
abbrev Rise : List StatusChange → Type 0
Rise [] = ⊤
Rise (m ∷ ms) = AllByRecursion (λ n. nat_lt m.stamp n.stamp ≡ true) ms × Rise ms

through : (a b c : ℕ) → nat_lt a b ≡ true → nat_lt b c ≡ true → nat_lt a c ≡ true
through a b c g h = grind (arith, nat_tests)

rise_all : (ms : List StatusChange) → is_strictly_ascending (map (λ m. m.stamp) ms) ≡ true → Rise ms
rise_all [] e = tt
rise_all (m ∷ []) e = (tt, tt)
rise_all (m ∷ n ∷ ms) e =
    let p = and_parts (nat_lt m.stamp n.stamp) (is_strictly_ascending (map (λ m. m.stamp) (n ∷ ms))) e in
    let r : Rise (n ∷ ms) = rise_all (n ∷ ms) p.1 in
    ((p.0, All-map ms (λ o h. through m.stamp n.stamp o.stamp p.0 h) r.0), r)

back : (a b : ℕ) → nat_lt a b ≡ true → nat_lt b a ≡ false
back a b h = grind (arith, nat_tests)

rise_sorted : (ms : List StatusChange) → Rise ms → Sorted (λ x y. nat_lt x.stamp y.stamp) ms
rise_sorted [] r = tt
rise_sorted (m ∷ ms) r = (All-map ms (λ n h. back m.stamp n.stamp h) r.0, rise_sorted ms r.1)

abbrev put : StatusChange → List StatusChange → List StatusChange
put m ms = insert_by (λ x y. nat_lt x.stamp y.stamp) m ms

two : (m n : StatusChange) → nat_lt m.stamp n.stamp ≡ true → Commute put m n
two m n h s = insert_commute (λ x y. nat_lt x.stamp y.stamp) n m s splits (h ∙ sym (ap not (back m.stamp n.stamp h)))

rows_commute_first : (id : ℕ) (m : StatusChange) (ms : List StatusChange) → AllByRecursion (λ n. nat_lt m.stamp n.stamp ≡ true) ms
    → AllByRecursion (Commute (λ h. put (mark_of h)) (row_of id m)) (map (row_of id) ms)
rows_commute_first id m [] h = tt
rows_commute_first id m (n ∷ ms) h = (two m n h.0, rows_commute_first id m ms h.1)

rows_commute_all : (id : ℕ) (ms : List StatusChange) → Rise ms → AllCommute (λ h. put (mark_of h)) (map (row_of id) ms)
rows_commute_all id [] r = tt
rows_commute_all id (m ∷ ms) r = (rows_commute_first id m ms r.0, rows_commute_all id ms r.1)

sort_each : (xs : List StatusChange) → sort_by_key (λ m. m.stamp) xs ≡ each put xs []
unfolding sort_by
sort_each [] = refl
sort_each (x ∷ xs) = ap (put x) (sort_each xs)

-- the rows of a trade's statuses, by their key and then by their stamps, are its statuses
statuses_again : (id : ℕ) (ms : List StatusChange) → Rise ms → sort_by_key (λ m. m.stamp) (map mark_of (rows_sorted_by_key history_key (map (row_of id) ms))) ≡ ms
statuses_again id ms r =
    let rows : List HistoryRow = map (row_of id) ms in
    sort_each (map mark_of (rows_sorted_by_key history_key rows))
    ∙ each_map put mark_of (rows_sorted_by_key history_key rows) []
    ∙ each_sort (λ h. put (mark_of h)) (is_row_key_less history_key) rows [] (rows_commute_all id ms r)
    ∙ each_map (λ h. put (mark_of h)) (row_of id) ms []
    ∙ sym (sort_each ms) ∙ sort_sorted (λ x y. nat_lt x.stamp y.stamp) ms (rise_sorted ms r)

-- no row is left in the table of the first schema
no_cash : (base : Base) → (sheets base).cash ≡ []
unfolding tables_sorted_by_key tables_of_base_in_schema sort_by
no_cash base = refl

-- ---- one trade among others

pub find-append : {X : Type 0} (p : X → Bool) (xs ys : List X) → NonePass p xs → find p (xs ++ ys) ≡ find p ys
find-append p [] ys h = refl
find-append p (x ∷ xs) ys h = ap (λ b. cond b (Some x) (find p (xs ++ ys))) h.0 ∙ find-append p xs ys h.1

find-none : {X : Type 0} (p : X → Bool) (xs : List X) → NonePass p xs → find p xs ≡ None
find-none p [] h = refl
find-none p (x ∷ xs) h = ap (λ b. cond b (Some x) (find p xs)) h.0 ∙ find-none p xs h.1

pub none_filtered : {X : Type 0} (p q : X → Bool) (xs : List X) → NonePass p xs → NonePass p (filter q xs)
none_filtered p q [] h = tt
none_filtered p q (x ∷ xs) h =
    elim (q x) as (λ b. NonePass p (cond b (x ∷ filter q xs) (filter q xs))) [ true ↦ (h.0, none_filtered p q xs h.1) | false ↦ none_filtered p q xs h.1 ]

-- of the trades that pass a test, the one with an id
found_among : (q : Trade → Bool) (xs : List Trade) (t : Trade) (ys : List Trade) → NonePass (λ u. u.id == t.id) xs → NonePass (λ u. u.id == t.id) ys
    → find (λ u. u.id == t.id) (filter q (xs ++ t ∷ ys)) ≡ cond (q t) (Some t) None
found_among q xs t ys g h =
    ap (find (λ u. u.id == t.id)) (filter-append q xs (t ∷ ys))
    ∙ find-append (λ u. u.id == t.id) (filter q xs) (filter q (t ∷ ys)) (none_filtered (λ u. u.id == t.id) q xs g)
    ∙ by_test (q t)
  where
    by_test : (b : Bool) → find (λ u. u.id == t.id) (cond b (t ∷ filter q ys) (filter q ys)) ≡ cond b (Some t) None
    by_test true = ap (λ b. cond b (Some t) (find (λ u. u.id == t.id) (filter q ys))) (eq-eqb t.id t.id refl)
    by_test false = find-none (λ u. u.id == t.id) (filter q ys) (none_filtered (λ u. u.id == t.id) q ys h)

-- of the trades that pass a test, that one alone has the id
alone_among : (q : Trade → Bool) (xs : List Trade) (t : Trade) (ys : List Trade) → NonePass (λ u. u.id == t.id) xs → NonePass (λ u. u.id == t.id) ys
    → filter (λ u. u.id == t.id) (filter q (xs ++ t ∷ ys)) ≡ cond (q t) (t ∷ []) []
alone_among q xs t ys g h =
    ap (filter (λ u. u.id == t.id)) (filter-append q xs (t ∷ ys)) ∙ filter-append (λ u. u.id == t.id) (filter q xs) (filter q (t ∷ ys))
    ∙ ap (λ us. us ++ filter (λ u. u.id == t.id) (filter q (t ∷ ys))) (filter-none (λ u. u.id == t.id) (filter q xs) (none_filtered (λ u. u.id == t.id) q xs g))
    ∙ by_test (q t)
  where
    none : filter (λ u. u.id == t.id) (filter q ys) ≡ []
    none = filter-none (λ u. u.id == t.id) (filter q ys) (none_filtered (λ u. u.id == t.id) q ys h)

    by_test : (b : Bool) → filter (λ u. u.id == t.id) (cond b (t ∷ filter q ys) (filter q ys)) ≡ cond b (t ∷ []) []
    by_test true = ap (λ b. cond b (t ∷ filter (λ u. u.id == t.id) (filter q ys)) (filter (λ u. u.id == t.id) (filter q ys))) (eq-eqb t.id t.id refl) ∙ ap (λ us. t ∷ us) none
    by_test false = none

others_rows : (id : ℕ) (ts : List Trade) → NonePass (λ u. u.id == id) ts → NonePass (λ h. h.trade == id) (flat_map history_rows ts)
others_rows id [] h = tt
others_rows id (u ∷ ts) h = append (map (row_of u.id) u.marks) (flat_map history_rows ts) (of_one u.marks) (others_rows id ts h.1)
  where
    of_one : (ms : List StatusChange) → NonePass (λ h. h.trade == id) (map (row_of u.id) ms)
    of_one [] = tt
    of_one (m ∷ ms) = (h.0, of_one ms)

    append : (as' bs : List HistoryRow) → NonePass (λ h. h.trade == id) as' → NonePass (λ h. h.trade == id) bs → NonePass (λ h. h.trade == id) (as' ++ bs)
    append [] bs f g = g
    append (a ∷ as') bs f g = (f.0, append as' bs f.1 g)

own_pass : (id : ℕ) (ms : List StatusChange) → AllByRecursion (λ h. (h.trade == id) ≡ true) (map (row_of id) ms)
own_pass id [] = tt
own_pass id (m ∷ ms) = (eq-eqb id id refl, own_pass id ms)

append_none : {X : Type 0} (xs : List X) → xs ++ [] ≡ xs
append_none [] = refl
append_none (x ∷ xs) = ap (λ ys. x ∷ ys) (append_none xs)

own_history : (xs : List Trade) (t : Trade) (ys : List Trade) → NonePass (λ u. u.id == t.id) xs → NonePass (λ u. u.id == t.id) ys
    → filter (λ h. h.trade == t.id) (flat_map history_rows (xs ++ t ∷ ys)) ≡ history_rows t
own_history xs t ys g h =
    let p : HistoryRow → Bool = λ h. h.trade == t.id in
    ap (filter p) (flat_map-append history_rows xs (t ∷ ys)) ∙ filter-append p (flat_map history_rows xs) (history_rows t ++ flat_map history_rows ys)
    ∙ ap (λ rows. rows ++ filter p (history_rows t ++ flat_map history_rows ys)) (filter-none p (flat_map history_rows xs) (others_rows t.id xs g))
    ∙ filter-append p (history_rows t) (flat_map history_rows ys)
    ∙ (λ i. filter-all p (history_rows t) (own_pass t.id t.marks) i ++ filter-none p (flat_map history_rows ys) (others_rows t.id ys h) i)
    ∙ append_none (history_rows t)

-- what holds of each trade between those before and those after it
each_place : (P : Trade → Type 0) (n : ℕ) (all xs ys : List Trade) → all ≡ xs ++ ys → TradesAreNumberedFrom n all
    → ((as' : List Trade) (t : Trade) (bs : List Trade) → all ≡ as' ++ t ∷ bs → NonePass (λ u. u.id == t.id) as' → NonePass (λ u. u.id == t.id) bs → P t) → AllByRecursion P ys
each_place P n all xs [] e k f = tt
each_place P n all xs (t ∷ ys) e k f =
    let m : TradesAreNumberedFrom n (xs ++ t ∷ ys) = subst (TradesAreNumberedFrom n) e k in (
      f xs t ys e (numbered_before n xs t ys m) (numbered_after n xs t ys m),
      each_place P n all (xs ++ t ∷ []) ys (e ∙ sym (append_assoc xs (t ∷ []) ys)) k f,
    )

-- ---- a trade again

pub both_all : {X : Type 0} (P Q : X → Type 0) (xs : List X) → AllByRecursion P xs → AllByRecursion Q xs → AllByRecursion (λ x. P x × Q x) xs
both_all P Q [] g h = tt
both_all P Q (x ∷ xs) g h = ((g.0, h.0), both_all P Q xs g.1 h.1)

-- what is read of a trade in the tables of its base
pub record IsRead (base : Base) (t : Trade) : Type 0 where
  pub history : filter (λ h. h.trade == t.id) (flat_map history_rows base.trades) ≡ history_rows t
  pub done : find (λ u. u.id == t.id) (completed_trades base) ≡ cond (is_completed t) (Some t) None
  pub cash_alone : filter (λ u. u.id == t.id) (cash_trades (completed_trades base)) ≡ cond (is_completed t && t.is_cash) (t ∷ []) []

filter-filter : {X : Type 0} (p q : X → Bool) (xs : List X) → filter p (filter q xs) ≡ filter (λ x. q x && p x) xs
filter-filter p q [] = refl
filter-filter {X = X} p q (x ∷ xs) = by_test (q x) (p x) refl (filter-filter p q xs)
  where
    by_test : (b c : Bool) → p x ≡ c → filter p (filter q xs) ≡ filter (λ x. q x && p x) xs
        → filter p (cond b (x ∷ filter q xs) (filter q xs)) ≡ cond (b && p x) (x ∷ filter (λ x. q x && p x) xs) (filter (λ x. q x && p x) xs)
    by_test true c e h = ap (λ ys. cond (p x) (x ∷ ys) ys) h
    by_test false c e h = h

pub reads : (base : Base) → TradesAreNumberedFrom 1 base.trades → AllByRecursion (IsRead base) base.trades
reads base k = each_place (IsRead base) 1 base.trades [] base.trades refl k (λ xs t ys e g h. record {
  history = ap (λ ts. filter (λ h. h.trade == t.id) (flat_map history_rows ts)) e ∙ own_history xs t ys g h;
  done = ap (λ ts. find (λ u. u.id == t.id) (filter is_completed ts)) e ∙ found_among is_completed xs t ys g h;
  cash_alone = ap (filter (λ u. u.id == t.id)) (filter-filter (λ u. u.is_cash) is_completed base.trades ∙ ap (filter (λ u. is_completed u && u.is_cash)) e)
      ∙ alone_among (λ u. is_completed u && u.is_cash) xs t ys g h;
})

pub marks_again : (base : Base) (t : Trade) → IsRead base t → HasAscendingStatusStamps t → status_changes_of_trade (sheets base) t.id ≡ t.marks
unfolding tables_sorted_by_key tables_of_base_in_schema
marks_again base t r e =
    ap (λ rows. sort_by_key (λ m. m.stamp) (map mark_of rows))
    (sym (by_key-filter history_key (λ h. h.trade == t.id) (flat_map history_rows base.trades)) ∙ ap (rows_sorted_by_key history_key) r.history)
    ∙ statuses_again t.id t.marks (rise_all t.marks e)

word_if : {R : Type 0} (w : R → Text) (row : Trade → R) (t : Trade) (text : Text) (b : Bool) → w (row t) ≡ text → (b ≡ false → text ≡ [])
    → option_map_or w (option_map row (cond b (Some t) None)) [] ≡ text
word_if w row t text true e f = e
word_if w row t text false e f = sym (f refl)

-- the postings of the tables of a base are its postings in turn
pub posted_in : (base : Base) → postings_of_tables (sheets base) ≡ postings_sorted_by_stamp (postings_of_base base)
posted_in base = ap (λ rows. rows ++ map posting_of_cash_move_row (sheets base).moves) (none_left base) ∙ rows_posted base
  where
    none_left : (base : Base) → map (posting_of_cash_transaction_row (sheets base)) (sheets base).cash ≡ []
    none_left base = ap (map (posting_of_cash_transaction_row (sheets base))) (no_cash base)

cash_type_again : (base : Base) (t : Trade) → IsRead base t → HasSettlementAndCashTextsOnlyIfCompleted t
    → option_map_or (λ s. s.cash_type) (find (λ s. s.trade == t.id) (sheets base).settlements) [] ≡ t.cash_type
unfolding tables_sorted_by_key tables_of_base_in_schema
cash_type_again base t r w =
    ap (λ o. option_map_or (λ s. s.cash_type) o [])
    (find-id (λ s. s.trade) t.id (map (settlement_row base.accounts base.rule) (completed_trades base))
    ∙ find-map (λ s. s.trade == t.id) (settlement_row base.accounts base.rule) (completed_trades base)
    ∙ ap (option_map (settlement_row base.accounts base.rule)) r.done)
    ∙ word_if (λ s. s.cash_type) (settlement_row base.accounts base.rule) t t.cash_type (is_completed t) refl w.settled

-- the posting of a trade among all of them
pub posting_again : (base : Base) (t : Trade) → IsRead base t
    → filter (is_posting_of_trade t.id) (postings_of_base base) ≡ cond (is_completed t && t.is_cash) (posting_of_trade base.accounts t ∷ []) []
posting_again base t r =
    filter-append (is_posting_of_trade t.id) (map (posting_of_trade base.accounts) (cash_trades (completed_trades base))) (map posting_of_movement base.movements)
    ∙ (λ i. of_trades (cash_trades (completed_trades base)) i ++ of_movements base.movements i)
    ∙ append_none (map (posting_of_trade base.accounts) (filter (λ u. u.id == t.id) (cash_trades (completed_trades base))))
    ∙ ap (map (posting_of_trade base.accounts)) r.cash_alone ∙ one_posting (is_completed t && t.is_cash)
  where
    of_trades : (ts : List Trade) → filter (is_posting_of_trade t.id) (map (posting_of_trade base.accounts) ts) ≡ map (posting_of_trade base.accounts) (filter (λ u. u.id == t.id) ts)
    of_trades [] = refl
    of_trades (u ∷ us) = by_test (u.id == t.id) (of_trades us)
      where
        by_test : (b : Bool) → filter (is_posting_of_trade t.id) (map (posting_of_trade base.accounts) us) ≡ map (posting_of_trade base.accounts) (filter (λ u. u.id == t.id) us)
            → cond b (posting_of_trade base.accounts u ∷ filter (is_posting_of_trade t.id) (map (posting_of_trade base.accounts) us))
            (filter (is_posting_of_trade t.id) (map (posting_of_trade base.accounts) us))
            ≡ map (posting_of_trade base.accounts) (cond b (u ∷ filter (λ u. u.id == t.id) us) (filter (λ u. u.id == t.id) us))
        by_test true ih = ap (λ ps. posting_of_trade base.accounts u ∷ ps) ih
        by_test false ih = ih

    of_movements : (ms : List Movement) → filter (is_posting_of_trade t.id) (map posting_of_movement ms) ≡ []
    of_movements [] = refl
    of_movements (m ∷ ms) = of_movements ms

    one_posting : (b : Bool) → map (posting_of_trade base.accounts) (cond b (t ∷ []) []) ≡ cond b (posting_of_trade base.accounts t ∷ []) []
    one_posting true = refl
    one_posting false = refl

-- what is found is the first of those that pass
pub found_first : {X : Type 0} (p : X → Bool) (xs : List X) → find p xs ≡ find (λ x. true) (filter p xs)
found_first p [] = refl
found_first {X = X} p (x ∷ xs) = by_test (p x) (found_first p xs)
  where
    by_test : (b : Bool) → find p xs ≡ find (λ x. true) (filter p xs) → cond b (Some x) (find p xs) ≡ find (λ x. true) (cond b (x ∷ filter p xs) (filter p xs))
    by_test true ih = refl
    by_test false ih = ih

pub turn_one : (b : Bool) (p : Posting) → postings_sorted_by_stamp (cond b (p ∷ []) []) ≡ cond b (p ∷ []) []
unfolding sort_by
turn_one true p = refl
turn_one false p = refl

cash_name_again : (base : Base) (t : Trade) → IsRead base t → HasSettlementAndCashTextsOnlyIfCompleted t
    → option_map_or (λ p. p.name) (find (is_posting_of_trade t.id) (postings_of_tables (sheets base))) [] ≡ t.cash_name
cash_name_again base t r w =
    let done : Bool = is_completed t && t.is_cash in
    ap (λ ps. option_map_or (λ p. p.name) (find (is_posting_of_trade t.id) ps) []) (posted_in base)
    ∙ ap (λ o. option_map_or (λ p. p.name) o []) (found_first (is_posting_of_trade t.id) (postings_sorted_by_stamp (postings_of_base base))
    ∙ ap (find (λ p. true)) (turn_filter (is_posting_of_trade t.id) (postings_of_base base) ∙ ap postings_sorted_by_stamp (posting_again base t r) ∙ turn_one done (posting_of_trade base.accounts t)))
    ∙ by_test done refl
  where
    by_test : (b : Bool) → is_completed t && t.is_cash ≡ b → option_map_or (λ p. p.name) (find (λ p. true) (cond b (posting_of_trade base.accounts t ∷ []) [])) [] ≡ t.cash_name
    by_test true e = refl
    by_test false e = sym (w.moved e)

trade_again : (base : Base) (t : Trade) → IsRead base t → HasAscendingStatusStamps t → HasSettlementAndCashTextsOnlyIfCompleted t → trade_of_row (sheets base) (trade_row t) ≡ t
trade_again base t r s w = λ i. record t {
  marks = marks_again base t r s i;
  cash_type = cash_type_again base t r w i;
  cash_name = cash_name_again base t r w i;
}

trades_again : (base : Base) → BooksInvariant base → HasValidHistories base → map (trade_of_row (sheets base)) (sheets base).trades ≡ base.trades
trades_again base books told =
    ap (map (trade_of_row (sheets base))) (trades_in_order base books.numbered) ∙ map-map (trade_of_row (sheets base)) trade_row base.trades
    ∙ map_back (λ t. trade_of_row (sheets base) (trade_row t)) base.trades
    (All-map base.trades (λ t h. trade_again base t h.0 h.1.0 h.1.1)
    (both_all (IsRead base) (λ t. HasAscendingStatusStamps t × HasSettlementAndCashTextsOnlyIfCompleted t) base.trades (reads base books.numbered)
    (both_all HasAscendingStatusStamps HasSettlementAndCashTextsOnlyIfCompleted base.trades told.stamps told.words)))

-- ---- securities

symbol_found : (all xs : List Security) (s : Security) (ys : List Security) → NonePass (λ u. bytes_eq u.symbol s.symbol) xs
    → find (λ u. bytes_eq u.symbol s.symbol) (xs ++ s ∷ ys) ≡ Some s
symbol_found all xs s ys h =
    find-append (λ u. bytes_eq u.symbol s.symbol) xs (s ∷ ys) h
    ∙ ap (λ b. cond b (Some s) (find (λ u. bytes_eq u.symbol s.symbol) ys)) ((bytes_eq-Decides s.symbol s.symbol).1 refl)

texts_apart : (s u : Text) → bytes_eq u s ≡ false → bytes_eq s u ≡ false
texts_apart s u e = by_test (bytes_eq s u) refl
  where
    by_test : (b : Bool) → bytes_eq s u ≡ b → bytes_eq s u ≡ false
    by_test false f = f
    by_test true f = let k : bytes_eq u s ≡ true = (bytes_eq-Decides u s).1 (sym ((bytes_eq-Decides s u).0 f)) in absurd (cc)

-- each is found by its symbol
found_each : (ss : List Security) → HasDistinctSymbols ss → AllByRecursion (λ s. find (λ u. bytes_eq u.symbol s.symbol) ss ≡ Some s) ss
found_each [] d = tt
found_each (s ∷ ss) d = (
  ap (λ b. cond b (Some s) (find (λ u. bytes_eq u.symbol s.symbol) ss)) ((bytes_eq-Decides s.symbol s.symbol).1 refl),
  All-map ss (λ u h. ap (λ b. cond b (Some s) (find (λ v. bytes_eq v.symbol u.symbol) ss)) (texts_apart s.symbol u.symbol h.0) ∙ h.1)
      (both_all (λ u. bytes_eq u.symbol s.symbol ≡ false) (λ u. find (λ v. bytes_eq v.symbol u.symbol) ss ≡ Some u) ss d.0 (found_each ss d.1)),
)

security_again : (base : Base) (s : Security) → security_with_symbol base s.symbol ≡ Some s → security_of_row (sheets base) (security_row s) ≡ s
security_again base s e =
    ap (λ o. option_map_or (security_of_rows (security_row s)) o (security_of_rows (security_row s) (zero_last_trade_row s.symbol)))
    (reads_last_trade base s.symbol ∙ ap (option_map last_trade_row) e)

securities_again : (base : Base) → BooksInvariant base → map (security_of_row (sheets base)) (sheets base).securities ≡ rows_sorted_by_key (λ s. word s.symbol ∷ []) base.securities
unfolding tables_sorted_by_key tables_of_base_in_schema
securities_again base books =
    ap (map (security_of_row (sheets base))) (by_key-map (λ s. word s.symbol ∷ []) security_key security_row base.securities (λ s. refl))
    ∙ map-map (security_of_row (sheets base)) security_row (rows_sorted_by_key (λ s. word s.symbol ∷ []) base.securities)
    ∙ map_back (λ s. security_of_row (sheets base) (security_row s)) (rows_sorted_by_key (λ s. word s.symbol ∷ []) base.securities)
    (All-sort (λ s. security_of_row (sheets base) (security_row s) ≡ s) (is_row_key_less (λ s. word s.symbol ∷ [])) base.securities
    (All-map base.securities (λ s e. security_again base s e) (found_each base.securities books.symbols)))

-- ---- brokers and accounts

brokers_again : (base : Base) → map (λ b. record { id = b.id; name = b.name }) (sheets base).brokers ≡ rows_sorted_by_key (λ b. number b.id ∷ []) base.brokers
unfolding tables_sorted_by_key tables_of_base_in_schema
brokers_again base =
    let row = broker_row base.accounts (completed_trades base) in
    ap (map (λ b. record { id = b.id; name = b.name })) (by_key-map (λ b. number b.id ∷ []) broker_key row base.brokers (λ b. refl))
    ∙ map-map (λ b. record { id = b.id; name = b.name }) row (rows_sorted_by_key (λ b. number b.id ∷ []) base.brokers)
    ∙ map_back (λ b. record { id = b.id; name = b.name }) (rows_sorted_by_key (λ b. number b.id ∷ []) base.brokers) (All-of (rows_sorted_by_key (λ b. number b.id ∷ []) base.brokers) (λ b. refl))

accounts_again : (base : Base) → map account_of_row (sheets base).accounts ≡ rows_sorted_by_key (λ a. number a.id ∷ []) base.accounts
unfolding tables_sorted_by_key tables_of_base_in_schema
accounts_again base =
    let row = account_row base.accounts (postings_of_base base) in
    ap (map account_of_row) (by_key-map (λ a. number a.id ∷ []) account_key row base.accounts (λ a. refl))
    ∙ map-map account_of_row row (rows_sorted_by_key (λ a. number a.id ∷ []) base.accounts)
    ∙ map_back (λ a. account_of_row (row a)) (rows_sorted_by_key (λ a. number a.id ∷ []) base.accounts) (All-of (rows_sorted_by_key (λ a. number a.id ∷ []) base.accounts) (λ a. refl))

-- ---- movements

risen : (ms : List Movement) → is_strictly_ascending (map (λ m. m.stamp) ms) ≡ true → Sorted (λ x y. nat_lt x.stamp y.stamp) ms
risen [] e = tt
risen (m ∷ []) e = (tt, tt)
risen (m ∷ n ∷ ms) e =
    let p = and_parts (nat_lt m.stamp n.stamp) (is_strictly_ascending (map (λ m. m.stamp) (n ∷ ms))) e in
    let s : Sorted (λ x y. nat_lt x.stamp y.stamp) (n ∷ ms) = risen (n ∷ ms) p.1 in
    ((back m.stamp n.stamp p.0, All-map ms (λ o h. not_before m.stamp n.stamp o.stamp p.0 h) s.0), s)
  where
    not_before : (a b c : ℕ) → nat_lt a b ≡ true → nat_lt c b ≡ false → nat_lt c a ≡ false
    not_before a b c g h = grind (arith, nat_tests)

pub movements_again : (base : Base) → HasValidHistories base → map movement_of_row (filter (λ r. is_none r.trade) (sheets base).moves) ≡ base.movements
movements_again base told = movements_back base ∙ sort_sorted (λ x y. nat_lt x.stamp y.stamp) base.movements (risen base.movements told.movements)

pub base_again : (base : Base) → BooksInvariant base → HasValidHistories base → base_of_tables (sheets base) ≡ base_sorted_by_keys base
unfolding base_of_tables tables_sorted_by_key tables_of_base_in_schema
base_again base books told = λ i. record (base_sorted_by_keys base) {
  brokers = brokers_again base i;
  accounts = accounts_again base i;
  securities = securities_again base books i;
  trades = trades_again base books told i;
  movements = movements_again base told i;
}
