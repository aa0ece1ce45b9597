-- No run of calls changes the id of a trade's cash row, or the number of its account's cash rows
-- before it.
use Rattle.std.proofs.Common.{◌≡◌, ℕ, suc, ◌+◌, ◌==◌, Bool, true, false, cond, List, [], ◌∷◌, ◌++◌, Option, Some, None, refl, sym, ◌∙◌, ap, subst, map, filter, length, arith}
use Rattle.std.specs.Prelude.{find, nat_le, nat_lt, option_map}
use Rattle.std.specs.List.{AllByRecursion}
use Rattle.std.proofs.lemmas.Bool.{eq-eqb}
use Rattle.std.proofs.lemmas.Bool.Decides.{nat_tests}
use Rattle.brk_model.specs.Adopted.{is_posting_of_trade, posting_of_cash_move_row}
use Rattle.brk_model.specs.Base.{Base, completed_trades, last_status_stamp_of_trade}
use Rattle.brk_model.specs.Derived.{Posting, cash_trades, postings_sorted_by_stamp, posting_of_movement, posting_of_trade, postings, postings_of_base}
use Rattle.brk_model.specs.Lists.{sort_by}
use Rattle.brk_model.specs.LookupView.{is_cash_row_of_trade}
use Rattle.brk_model.specs.Records.{Account, Movement, Trade}
use Rattle.brk_model.specs.Sheets.{sheets, tables_sorted_by_key}
use Rattle.brk_model.specs.Statement.{sorted_cash_rows_of_account}
use Rattle.brk_model.specs.Tables.{CashRow, cash_move_row, numbered_cash_move_rows, tables_of_base_in_schema}
use Rattle.brk_view_theorems.specs.Before.{trades_completed_before_stamp}
use Rattle.brk_trade_books.proofs.LotReading.{filter-map, filter-swap}
use Rattle.brk_trade_books.proofs.MoveReading.{rows_posted, stamp_one_way, stamp_splits, turn_filter}
use Rattle.brk_trade_books.proofs.Order.{Sorted, append_nil, sort_filter, sorted_sort}
use Rattle.brk_trade_books.proofs.Places.{filter-all, filter-append}
use Rattle.brk_trade_books.proofs.Postings.{length_sort, numbered_stay, postings_one}
use Rattle.brk_trade_books.proofs.Reading.{find-map}
use Rattle.brk_trade_books.proofs.Same.{NonePass, filter-none}
use Rattle.brk_trade_books.proofs.SumReading.{length-map}
use Rattle.brk_view_theorems.proofs.Among.{Among}
use Rattle.brk_view_theorems.proofs.BalanceSums.{at_its_stamp, by_its_number}
use Rattle.brk_view_theorems.proofs.Kept.{Keeps, before_core, core, done_by, implied, moved_by}
use Rattle.brk_view_theorems.proofs.SortedRows.{Split, by, by_one_way, by_splits, find_first, first, split_sort}

-- ---- the postings before a stamp, counted

abbrev is_earlier : ℕ → Posting → Bool
is_earlier s p = nat_lt p.stamp s

-- those of trades before it, and of movements
before_are : (accounts : List Account) (s : ℕ) (done : List Trade) (ms : List Movement)
    → filter (is_earlier s) (postings accounts done ms) ≡ postings accounts (filter (λ t. nat_lt (last_status_stamp_of_trade t) s) done) (filter (λ m. nat_lt m.stamp s) ms)
before_are accounts s done ms =
    filter-append (is_earlier s) (map P (cash_trades done)) (map posting_of_movement ms)
    ∙ (λ i. (filter-map (is_earlier s) P (cash_trades done) ∙ ap (map P) (filter-swap (λ t. nat_lt (last_status_stamp_of_trade t) s) (λ t. t.is_cash) done)) i
    ++ filter-map (is_earlier s) posting_of_movement ms i)
  where
    P : Trade → Posting
    P = posting_of_trade accounts

length-append : {X : Type 0} (xs ys : List X) → length (xs ++ ys) ≡ length xs + length ys
length-append [] ys = omega arith
length-append (x ∷ xs) ys = let h = length-append xs ys in omega (arith, h)

-- as many as pass a test of the account, whatever the words
count_of : (accounts : List Account) (q : ℕ → Bool) (ts : List Trade) (ms : List Movement)
    → length (filter (λ p. q p.account) (postings accounts ts ms)) ≡ length (filter (λ t. q t.account) (cash_trades (map core ts))) + length (filter (λ m. q m.account) ms)
count_of accounts q ts ms =
    ap length (filter-append (λ p. q p.account) (map P (cash_trades ts)) (map posting_of_movement ms))
    ∙ length-append (filter (λ p. q p.account) (map P (cash_trades ts))) (filter (λ p. q p.account) (map posting_of_movement ms))
    ∙ (λ i. (ap length (filter-map (λ p. q p.account) P (cash_trades ts)) ∙ length-map P (filter (λ t. q t.account) (cash_trades ts))
    ∙ sym (length-map core (filter (λ t. q t.account) (cash_trades ts)))
    ∙ ap length (sym (ap (filter (λ t. q t.account)) (filter-map (λ t. t.is_cash) core ts) ∙ filter-map (λ t. q t.account) core (cash_trades ts)))) i
    + (ap length (filter-map (λ p. q p.account) posting_of_movement ms) ∙ length-map posting_of_movement (filter (λ m. q m.account) ms)) i)
  where
    P : Trade → Posting
    P = posting_of_trade accounts

below : (m n : ℕ) → nat_lt m n ≡ true → nat_le m n ≡ true
below m n e = grind (arith, nat_tests)

moved_before : (base : Base) (s : ℕ) → filter (λ m. nat_lt m.stamp s) base.movements ≡ filter (λ m. nat_lt m.stamp s) (moved_by base s)
moved_before base s = sym (implied (λ (m : Movement). nat_lt m.stamp s) (λ m. nat_le m.stamp s) base.movements (λ m e. below m.stamp s e))

count_is : (base : Base) (s : ℕ) (q : ℕ → Bool)
    → length (filter (λ p. q p.account) (filter (is_earlier s) (postings_of_base base)))
    ≡ length (filter (λ t. q t.account) (cash_trades (filter (λ t. nat_lt (last_status_stamp_of_trade t) s) (done_by base s))))
    + length (filter (λ m. q m.account) (filter (λ m. nat_lt m.stamp s) (moved_by base s)))
count_is base s q =
    ap (λ ps. length (filter (λ p. q p.account) ps)) (before_are base.accounts s (completed_trades base) base.movements)
    ∙ count_of base.accounts q (trades_completed_before_stamp base s) (filter (λ m. nat_lt m.stamp s) base.movements)
    ∙ (λ i. length (filter (λ t. q t.account) (cash_trades (before_core base s i))) + length (filter (λ m. q m.account) (moved_before base s i)))

-- they stay as many
pub count_kept : (s : ℕ) (base later : Base) (q : ℕ → Bool) → Keeps s base later
    → length (filter (λ p. q p.account) (filter (is_earlier s) (postings_of_base later))) ≡ length (filter (λ p. q p.account) (filter (is_earlier s) (postings_of_base base)))
count_kept s base later q k =
    count_is later s q
    ∙ (λ i. length (filter (λ t. q t.account) (cash_trades (filter (λ t. nat_lt (last_status_stamp_of_trade t) s) (k.done i))))
    + length (filter (λ m. q m.account) (filter (λ m. nat_lt m.stamp s) (k.moved i))))
    ∙ sym (count_is base s q)

-- ---- the cash rows before it

pub rows_counted : (base : Base) (account s : ℕ)
    → length (filter (λ (row : CashRow). nat_lt row.stamp s) (sorted_cash_rows_of_account (sheets base) account))
    ≡ length (filter (λ p. p.account == account) (filter (is_earlier s) (postings_of_base base)))
rows_counted base account s =
    ap length (sym (sort_filter (by (λ (row : CashRow). row.stamp)) R (filter A M) (by_splits (λ (row : CashRow). row.stamp)) (by_one_way (λ (row : CashRow). row.stamp))))
    ∙ length_sort (by (λ (row : CashRow). row.stamp)) (filter R (filter A M))
    ∙ sym (length-map posting_of_cash_move_row (filter R (filter A M)))
    ∙ ap length (sym (filter-map (is_earlier s) posting_of_cash_move_row (filter A M))
    ∙ ap (filter (is_earlier s))
    (sym (filter-map to posting_of_cash_move_row M) ∙ ap (filter to) (rows_posted base) ∙ turn_filter to (postings_of_base base))
    ∙ turn_filter (is_earlier s) (filter to (postings_of_base base)))
    ∙ length_sort (λ a b. nat_lt a.stamp b.stamp) (filter (is_earlier s) (filter to (postings_of_base base)))
    ∙ ap length (filter-swap (is_earlier s) to (postings_of_base base))
  where
    M : List CashRow
    M = (sheets base).moves

    A : CashRow → Bool
    A row = row.account == account

    R : CashRow → Bool
    R row = nat_lt row.stamp s

    to : Posting → Bool
    to p = p.account == account

-- ---- the number of its own row

find_numbered : (q : Posting → Bool) (n : ℕ) (front : List Posting) (p : Posting) (back : List Posting) → NonePass q front → q p ≡ true
    → find (λ r. q (posting_of_cash_move_row r)) (numbered_cash_move_rows n (front ++ p ∷ back)) ≡ Some (cash_move_row (n + length front) p)
find_numbered q n [] p back h e = ap (λ b. cond b (Some (cash_move_row n p)) (find (λ r. q (posting_of_cash_move_row r)) (numbered_cash_move_rows (n + 1) back))) e
    ∙ ap (λ (m : ℕ). Some (cash_move_row m p)) (none n)
  where
    none : (n : ℕ) → n ≡ n + 0
    none n = omega arith
find_numbered q n (x ∷ front) p back h e =
    ap (λ b. cond b (Some (cash_move_row n x)) (find (λ r. q (posting_of_cash_move_row r)) (numbered_cash_move_rows (n + 1) (front ++ p ∷ back)))) h.0
    ∙ find_numbered q (n + 1) front p back h.1 e ∙ ap (λ (m : ℕ). Some (cash_move_row m p)) (more n (length front))
  where
    more : (n m : ℕ) → n + 1 + m ≡ n + suc m
    more n m = omega arith

-- of a list of which one element passes, those before it and after it do not
alone : {X : Type 0} (q : X → Bool) (front : List X) (p : X) (back : List X) → q p ≡ true → filter q (front ++ p ∷ back) ≡ p ∷ [] → NonePass q front
alone q [] p back e h = tt
alone {X = X} q (x ∷ front) p back e h = by_test (λ g. alone q front p back e g) (q x) refl h
  where
    by_test : (filter q (front ++ p ∷ back) ≡ p ∷ [] → NonePass q front) → (b : Bool) → q x ≡ b
        → cond b (x ∷ filter q (front ++ p ∷ back)) (filter q (front ++ p ∷ back)) ≡ p ∷ [] → NonePass q (x ∷ front)
    by_test ih false i g = (i, ih g)
    by_test ih true i g =
        let none : filter q (front ++ p ∷ back) ≡ [] = tail g in
        let some : filter q front ++ p ∷ filter q back ≡ [] = sym (filter-append q front (p ∷ back) ∙ ap (λ b. filter q front ++ cond b (p ∷ filter q back) (filter q back)) e) ∙ none in
        absurd (never (filter q front) some)
      where
        tail : {y z : X} {ys zs : List X} → y ∷ ys ≡ z ∷ zs → ys ≡ zs
        tail g = cc

        never : (xs : List X) → xs ++ p ∷ filter q back ≡ [] → ⊥
        never [] g = absurd (cc)
        never (y ∷ xs) g = absurd (cc)

sorted_front : (front : List Posting) (p : Posting) (back : List Posting) → Sorted (λ a b. nat_lt a.stamp b.stamp) (front ++ p ∷ back) → AllByRecursion (λ x. nat_lt p.stamp x.stamp ≡ false) front
sorted_front [] p back o = tt
sorted_front (x ∷ front) p back o = (first_of front o.0, sorted_front front p back o.1)
  where
    first_of : (xs : List Posting) → AllByRecursion (λ y. nat_lt y.stamp x.stamp ≡ false) (xs ++ p ∷ back) → nat_lt p.stamp x.stamp ≡ false
    first_of [] h = h.0
    first_of (y ∷ xs) h = first_of xs h.1

sorted_back : (front : List Posting) (p : Posting) (back : List Posting) → Sorted (λ a b. nat_lt a.stamp b.stamp) (front ++ p ∷ back) → AllByRecursion (λ x. nat_lt x.stamp p.stamp ≡ false) back
sorted_back [] p back o = o.0
sorted_back (x ∷ front) p back o = sorted_back front p back o.1

earlier_is : (m n : ℕ) → nat_lt n m ≡ false → (m == n) ≡ false → nat_lt m n ≡ true
earlier_is m n e f = grind (arith, nat_tests)

not_itself : (n : ℕ) → nat_lt n n ≡ false
not_itself n = grind (arith, nat_tests)

moves_are : (base : Base) → (sheets base).moves ≡ numbered_cash_move_rows 1 (postings_sorted_by_stamp (postings_of_base base))
unfolding tables_of_base_in_schema tables_sorted_by_key
moves_are base = numbered_stay 1 (postings_sorted_by_stamp (postings_of_base base))

both_tests : (xs : List Posting) (s : ℕ) → AllByRecursion (λ x. nat_lt s x.stamp ≡ false) xs → AllByRecursion (λ x. (x.stamp == s) ≡ false) xs → AllByRecursion (λ x. nat_lt x.stamp s ≡ true) xs
both_tests [] s h k = tt
both_tests (x ∷ xs) s h k = (earlier_is x.stamp s h.0 k.0, both_tests xs s h.1 k.1)

-- the number of the cash row of a cash trade
number_of : (base : Base) (t : Trade) → Among base t → t.is_cash ≡ true
    → find (is_cash_row_of_trade t.id) (sheets base).moves
    ≡ Some (cash_move_row (1 + length (filter (is_earlier (last_status_stamp_of_trade t)) (postings_of_base base))) (posting_of_trade base.accounts t))
unfolding sort_by
number_of base t a e =
    ap (find (is_cash_row_of_trade t.id)) (moves_are base ∙ ap (numbered_cash_move_rows 1) s.stands)
    ∙ find_numbered (is_posting_of_trade t.id) 1 s.front p s.back (alone (is_posting_of_trade t.id) s.front p s.back (eq-eqb t.id t.id refl) (by_number)) (eq-eqb t.id t.id refl)
    ∙ ap (λ (n : ℕ). Some (cash_move_row (1 + n) p)) (sym counted)
  where
    before : Posting → Posting → Bool
    before x y = nat_lt x.stamp y.stamp

    p : Posting
    p = posting_of_trade base.accounts t

    ps : List Posting
    ps = postings_of_base base

    stands : ps ≡ map (posting_of_trade base.accounts) (cash_trades a.front) ++ p ∷ (map (posting_of_trade base.accounts) (cash_trades a.back) ++ map posting_of_movement base.movements)
    stands = ap (λ ts. postings base.accounts ts base.movements) a.stands ∙ postings_one base.accounts a.front t a.back base.movements e

    s : Split Posting p (postings_sorted_by_stamp ps)
    s =
        subst (λ qs. Split Posting p (postings_sorted_by_stamp qs)) (sym stands)
        (split_sort before p (map (posting_of_trade base.accounts) (cash_trades a.front)) (map (posting_of_trade base.accounts) (cash_trades a.back) ++ map posting_of_movement base.movements))

    in_order : Sorted before (s.front ++ p ∷ s.back)
    in_order = subst (Sorted before) s.stands (sorted_sort before ps stamp_splits stamp_one_way)

    by_number : filter (is_posting_of_trade t.id) (s.front ++ p ∷ s.back) ≡ p ∷ []
    by_number =
        ap (filter (is_posting_of_trade t.id)) (sym s.stands) ∙ turn_filter (is_posting_of_trade t.id) ps ∙ ap postings_sorted_by_stamp (by_its_number base t a)
        ∙ ap (λ b. postings_sorted_by_stamp (cond b (p ∷ []) [])) e

    by_stamp : filter (λ q. q.stamp == last_status_stamp_of_trade t) (s.front ++ p ∷ s.back) ≡ p ∷ []
    by_stamp =
        ap (filter (λ q. q.stamp == last_status_stamp_of_trade t)) (sym s.stands) ∙ turn_filter (λ q. q.stamp == last_status_stamp_of_trade t) ps ∙ ap postings_sorted_by_stamp (at_its_stamp base t a)
        ∙ ap (λ b. postings_sorted_by_stamp (cond b (p ∷ []) [])) e

    earlier : AllByRecursion (λ x. nat_lt x.stamp (last_status_stamp_of_trade t) ≡ true) s.front
    earlier =
        both_tests s.front (last_status_stamp_of_trade t) (sorted_front s.front p s.back in_order)
        (alone (λ q. q.stamp == last_status_stamp_of_trade t) s.front p s.back (eq-eqb (last_status_stamp_of_trade t) (last_status_stamp_of_trade t) refl) by_stamp)

    counted : length (filter (is_earlier (last_status_stamp_of_trade t)) ps) ≡ length s.front
    counted =
        sym (length_sort before (filter (is_earlier (last_status_stamp_of_trade t)) ps))
        ∙ ap length (sym (turn_filter (is_earlier (last_status_stamp_of_trade t)) ps) ∙ ap (filter (is_earlier (last_status_stamp_of_trade t))) s.stands
        ∙ filter-append (is_earlier (last_status_stamp_of_trade t)) s.front (p ∷ s.back)
        ∙ (λ i. filter-all (is_earlier (last_status_stamp_of_trade t)) s.front earlier i
        ++ filter-none (is_earlier (last_status_stamp_of_trade t)) (p ∷ s.back)
        (not_itself (last_status_stamp_of_trade t), sorted_back s.front p s.back in_order) i)
        ∙ append_nil s.front)

no_row : (o : Option CashRow) → option_map posting_of_cash_move_row o ≡ None → option_map (λ (row : CashRow). row.id) o ≡ None
no_row None e = refl
no_row (Some row) e = absurd (cc)

number_is : (base : Base) (t : Trade) → Among base t → (b : Bool) → t.is_cash ≡ b
    → option_map (λ (row : CashRow). row.id) (find (is_cash_row_of_trade t.id) (sheets base).moves)
    ≡ cond b (Some (1 + length (filter (is_earlier (last_status_stamp_of_trade t)) (postings_of_base base)))) None
unfolding sort_by
number_is base t a true e = ap (option_map (λ (row : CashRow). row.id)) (number_of base t a e)
number_is base t a false e =
    no_row (find (is_cash_row_of_trade t.id) (sheets base).moves)
    (sym (find-map (is_posting_of_trade t.id) posting_of_cash_move_row (sheets base).moves) ∙ ap (find (is_posting_of_trade t.id)) (rows_posted base)
    ∙ find_first (is_posting_of_trade t.id) (postings_sorted_by_stamp (postings_of_base base))
    ∙ ap first (turn_filter (is_posting_of_trade t.id) (postings_of_base base) ∙ ap postings_sorted_by_stamp (by_its_number base t a ∙ ap (λ b. cond b (posting_of_trade base.accounts t ∷ []) []) e)))

all_true : {X : Type 0} (xs : List X) → filter (λ x. true) xs ≡ xs
all_true [] = refl
all_true (x ∷ xs) = ap (λ ys. x ∷ ys) (all_true xs)

pub number_kept : (base later : Base) (t u : Trade) → Among base t → Among later u → core u ≡ core t → Keeps (last_status_stamp_of_trade t) base later
    → option_map (λ (row : CashRow). row.id) (find (is_cash_row_of_trade u.id) (sheets later).moves) ≡ option_map (λ (row : CashRow). row.id) (find (is_cash_row_of_trade t.id) (sheets base).moves)
number_kept base later t u a a' same k =
    number_is later u a' u.is_cash refl
    ∙ (λ i. cond (same i).is_cash (Some (1 + length (filter (is_earlier (last_status_stamp_of_trade (same i))) (postings_of_base later)))) None)
    ∙ ap (λ (n : ℕ). cond t.is_cash (Some (1 + n)) None)
    (ap length (sym (all_true (filter (is_earlier (last_status_stamp_of_trade t)) (postings_of_base later))))
    ∙ count_kept (last_status_stamp_of_trade t) base later (λ n. true) k
    ∙ ap length (all_true (filter (is_earlier (last_status_stamp_of_trade t)) (postings_of_base base))))
    ∙ sym (number_is base t a t.is_cash refl)
