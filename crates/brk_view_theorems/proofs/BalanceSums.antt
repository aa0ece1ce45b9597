-- The balances that explanations print are sums of postings.
use Rattle.std.proofs.Common.{◌≡◌, ℕ, ◌==◌, ◌&&◌, Bool, true, false, cond, List, [], ◌∷◌, ◌++◌, Option, Some, None, refl, sym, ◌∙◌, ap, map, filter, arith, ℤ, pos, ◌+ℤ◌}
use Rattle.std.specs.Prelude.{◌||◌, find, nat_le, nat_lt, option_map, unwrap_or}
use Rattle.std.specs.Option.{option_map_or}
use Rattle.std.specs.List.{AllByRecursion, last_or}
use Rattle.std.proofs.lemmas.Bool.{eqb-true, eq-eqb}
use Rattle.std.proofs.lemmas.Bool.Decides.{nat_tests}
use Rattle.std.proofs.lemmas.Int.{ints}
use lib.IntN.{+ℤ_assoc, +ℤ_idr}
use Rattle.brk_model.specs.Adopted.{is_posting_of_trade, posting_of_cash_move_row}
use Rattle.brk_model.specs.Base.{Base, account_with_id, is_completed, last_status_stamp_of_trade, opening_balance_in_accounts, trade_with_id}
use Rattle.brk_model.specs.Derived.{Posting, settlement_amount, balance_of_account, cash_trades, postings_sorted_by_stamp, posting_of_movement, posting_of_trade, postings, postings_of_base}
use Rattle.brk_model.specs.Joins.{account_row_with_id, cash_move_rows_of_account}
use Rattle.brk_model.specs.Lists.{sort_by, total_by}
use Rattle.brk_model.specs.LookupView.{is_cash_row_of_trade}
use Rattle.brk_model.specs.Records.{Account, Movement, Trade}
use Rattle.brk_model.specs.Sheets.{sheets}
use Rattle.brk_model.specs.Statement.{sorted_cash_rows_of_account}
use Rattle.brk_model.specs.Tables.{AccountRow, CashRow, account_row, trade_row}
use Rattle.brk_model_explain.specs.Running.{running_totals}
use Rattle.brk_model_explain.specs.Trades.{balance_change_of_trade, result_details_of_trade}
use Rattle.brk_trade_books.specs.Books.{BooksInvariant}
use Rattle.brk_trade_books.proofs.LotReading.{filter-both, filter-map, filter-swap}
use Rattle.brk_trade_books.proofs.MoveReading.{rows_posted, turn_filter}
use Rattle.brk_trade_books.proofs.Places.{FoundAt, filter-one, find-at}
use Rattle.brk_trade_books.proofs.Postings.{postings_none, postings_one, total_sort}
use Rattle.brk_trade_books.proofs.Reading.{find-map, reads_account}
use Rattle.brk_trade_books.proofs.Same.{All-append, All-filter, All-mapped, filter-none, filter-same}
use Rattle.brk_trade_books.proofs.SumReading.{balance_sums, total-map}
use Rattle.brk_view_theorems.specs.Balances.{PrintedBalancesMatchBase, printed_balance_before_trade, last_number_or_default, postings_before_stamp, postings_up_to_stamp}
use Rattle.brk_view_theorems.proofs.Among.{Among, among}
use Rattle.brk_view_theorems.proofs.SortedRows.{find_first, first, total_sorted}

-- ---- the last of the running totals

-- of a list with elements the default is not read
pub last_some : (zs : List ℤ) (a b z : ℤ) → unwrap_or (last_or (Some z) zs) a ≡ unwrap_or (last_or (Some z) zs) b
last_some [] a b z = refl
last_some (y ∷ zs) a b z = last_some zs a b y

last_running : {X : Type 0} (f : X → ℤ) (from : ℤ) (x : X) (xs : List X) → unwrap_or (last_or None (running_totals f from (x ∷ xs))) from ≡ from +ℤ total_by f (x ∷ xs)
unfolding total_by
last_running f from x [] = sym (+ℤ_assoc' from (f x))
  where
    +ℤ_assoc' : (a b : ℤ) → a +ℤ (b +ℤ pos 0) ≡ a +ℤ b
    +ℤ_assoc' a b = omega (arith, ints)
last_running f from x (y ∷ xs) =
    last_some (running_totals f ((from +ℤ f x) +ℤ f y) xs) from (from +ℤ f x) ((from +ℤ f x) +ℤ f y) ∙ last_running f (from +ℤ f x) y xs ∙ +ℤ_assoc from (f x) (total_by f (y ∷ xs))

pub running_ends : {X : Type 0} (f : X → ℤ) (from : ℤ) (xs : List X) → last_number_or_default from (running_totals f from xs) ≡ from +ℤ total_by f xs
unfolding total_by
running_ends f from [] = sym (+ℤ_idr from)
running_ends f from (x ∷ xs) = last_running f from x xs

pub last_is_balance : (base : Base) (id : ℕ) (r : AccountRow) → BooksInvariant base → account_row_with_id (sheets base) id ≡ Some r
    → last_number_or_default r.opening (running_totals (λ (row : CashRow). row.amount) r.opening (sorted_cash_rows_of_account (sheets base) r.id)) ≡ r.balance
last_is_balance base id r books e =
    running_ends (λ (row : CashRow). row.amount) r.opening (sorted_cash_rows_of_account (sheets base) r.id)
    ∙ ap (λ z. r.opening +ℤ z) (total_sorted (λ (row : CashRow). row.amount) (λ a b. nat_lt a.stamp b.stamp) (filter (λ (row : CashRow). row.account == r.id) (sheets base).moves)
    ∙ ap (λ (n : ℕ). total_by (λ (row : CashRow). row.amount) (cash_move_rows_of_account (sheets base) n))
    (eqb-true r.id id (found_passes (λ (a : AccountRow). a.id == id) (sheets base).accounts r e)))
    ∙ sym (balance_sums base id r books e)
  where
    found_passes : {X : Type 0} (p : X → Bool) (xs : List X) (x : X) → find p xs ≡ Some x → p x ≡ true
    found_passes {X = X} p xs x e = let f : FoundAt X p x xs = find-at p xs x e in f.passes

-- ---- cash rows as postings

opening_is : (base : Base) (account : ℕ) → option_map_or (λ (a : AccountRow). a.opening) (account_row_with_id (sheets base) account) (pos 0) ≡ opening_balance_in_accounts base.accounts account
opening_is base account = ap (λ o. option_map_or (λ (a : AccountRow). a.opening) o (pos 0)) (reads_account base account) ∙ by_account (account_with_id base account)
  where
    by_account : (o : Option Account)
        → option_map_or (λ (a : AccountRow). a.opening) (option_map (account_row base.accounts (postings_of_base base)) o) (pos 0)
        ≡ option_map_or (λ a. a.opening) o (pos 0)
    by_account None = refl
    by_account (Some a) = refl

abbrev is_to : ℕ → Posting → Bool
is_to account p = p.account == account

-- the cash rows of an account whose stamps pass a test, and its postings whose stamps do
cash_sum : (base : Base) (account : ℕ) (test : ℕ → Bool)
    → total_by (λ (row : CashRow). row.amount) (filter (λ (row : CashRow). test row.stamp) (sorted_cash_rows_of_account (sheets base) account))
    ≡ total_by (λ p. p.amount) (filter (λ p. test p.stamp) (filter (is_to account) (postings_of_base base)))
cash_sum base account test =
    total_sort (λ (row : CashRow). row.amount) (λ (row : CashRow). test row.stamp) (λ a b. nat_lt a.stamp b.stamp) (filter (λ (row : CashRow). row.account == account) M)
    ∙ sym (total-map (λ (p : Posting). p.amount) posting_of_cash_move_row (filter (λ (row : CashRow). test row.stamp) (filter (λ (row : CashRow). row.account == account) M)))
    ∙ ap (total_by (λ p. p.amount)) (sym (filter-map E posting_of_cash_move_row (filter (λ (row : CashRow). row.account == account) M))
    ∙ ap (filter E) (sym (filter-map A posting_of_cash_move_row M) ∙ ap (filter A) (rows_posted base)) ∙ sym (filter-both A E (postings_sorted_by_stamp ps)))
    ∙ total_sort (λ (p : Posting). p.amount) (λ p. A p && E p) (λ a b. nat_lt a.stamp b.stamp) ps
    ∙ ap (total_by (λ p. p.amount)) (filter-both A E ps)
  where
    M : List CashRow
    M = (sheets base).moves

    ps : List Posting
    ps = postings_of_base base

    A : Posting → Bool
    A = is_to account

    E : Posting → Bool
    E p = test p.stamp

-- ---- the posting of a completed trade among all

only_posting : (accounts : List Account) (xs : List Trade) (t : Trade) (ys : List Trade) (ms : List Movement) (q : Posting → Bool)
    → AllByRecursion (λ u. q (posting_of_trade accounts u) ≡ false) xs → q (posting_of_trade accounts t) ≡ true → AllByRecursion (λ u. q (posting_of_trade accounts u) ≡ false) ys
    → AllByRecursion (λ m. q (posting_of_movement m) ≡ false) ms → filter q (postings accounts (xs ++ t ∷ ys) ms) ≡ cond t.is_cash (posting_of_trade accounts t ∷ []) []
only_posting accounts xs t ys ms q f g h k = by_kind t.is_cash refl
  where
    P : Trade → Posting
    P = posting_of_trade accounts

    none : (ts : List Trade) → AllByRecursion (λ u. q (P u) ≡ false) ts → AllByRecursion (λ p. q p ≡ false) (map P (cash_trades ts))
    none ts j = All-mapped (λ p. q p ≡ false) P (cash_trades ts) (All-filter (λ u. q (P u) ≡ false) (λ u. u.is_cash) ts j)

    moved : AllByRecursion (λ p. q p ≡ false) (map posting_of_movement ms)
    moved = All-mapped (λ p. q p ≡ false) posting_of_movement ms k

    rest : AllByRecursion (λ p. q p ≡ false) (map P (cash_trades ys) ++ map posting_of_movement ms)
    rest = All-append (λ p. q p ≡ false) (map P (cash_trades ys)) (map posting_of_movement ms) (none ys h) moved

    by_kind : (b : Bool) → t.is_cash ≡ b → filter q (postings accounts (xs ++ t ∷ ys) ms) ≡ cond b (P t ∷ []) []
    by_kind true e =
        ap (filter q) (postings_one accounts xs t ys ms e)
        ∙ filter-one q (map P (cash_trades xs)) (P t) (map P (cash_trades ys) ++ map posting_of_movement ms) g
        ∙ (λ i. filter-none q (map P (cash_trades xs)) (none xs f) i ++ P t ∷ filter-none q (map P (cash_trades ys) ++ map posting_of_movement ms) rest i)
    by_kind false e =
        ap (filter q) (postings_none accounts xs t ys ms e)
        ∙ filter-none q (postings accounts (xs ++ ys) ms)
        (All-append (λ p. q p ≡ false) (map P (cash_trades (xs ++ ys))) (map posting_of_movement ms) (none (xs ++ ys) (All-append (λ u. q (P u) ≡ false) xs ys f h)) moved)

-- by its stamp
pub at_its_stamp : (base : Base) (t : Trade) → Among base t → filter (λ p. p.stamp == last_status_stamp_of_trade t) (postings_of_base base) ≡ cond t.is_cash (posting_of_trade base.accounts t ∷ []) []
at_its_stamp base t a =
    ap (λ ts. filter (λ p. p.stamp == last_status_stamp_of_trade t) (postings base.accounts ts base.movements)) a.stands
    ∙ only_posting base.accounts a.front t a.back base.movements (λ p. p.stamp == last_status_stamp_of_trade t) a.moments_before
    (eq-eqb (last_status_stamp_of_trade t) (last_status_stamp_of_trade t) refl) a.moments_after a.moved

-- by its number
pub by_its_number : (base : Base) (t : Trade) → Among base t → filter (is_posting_of_trade t.id) (postings_of_base base) ≡ cond t.is_cash (posting_of_trade base.accounts t ∷ []) []
by_its_number base t a =
    ap (λ ts. filter (is_posting_of_trade t.id) (postings base.accounts ts base.movements)) a.stands
    ∙ only_posting base.accounts a.front t a.back base.movements (is_posting_of_trade t.id) a.ids_before (eq-eqb t.id t.id refl) a.ids_after (none base.movements)
  where
    none : (ms : List Movement) → AllByRecursion (λ m. is_posting_of_trade t.id (posting_of_movement m) ≡ false) ms
    none [] = tt
    none (m ∷ ms) = (refl, none ms)

-- ---- its cash row

amount_or : (o : Option CashRow) → option_map_or (λ (row : CashRow). row.amount) o (pos 0) ≡ option_map_or (λ p. p.amount) (option_map posting_of_cash_move_row o) (pos 0)
amount_or None = refl
amount_or (Some row) = refl

pub moved_is : (base : Base) (t : Trade) → Among base t → balance_change_of_trade (result_details_of_trade (sheets base) (trade_row t)) ≡ cond t.is_cash (settlement_amount base.accounts t) (pos 0)
unfolding sort_by
moved_is base t a =
    amount_or (find (is_cash_row_of_trade t.id) (sheets base).moves)
    ∙ ap (λ o. option_map_or (λ p. p.amount) o (pos 0)) (sym (find-map (is_posting_of_trade t.id) posting_of_cash_move_row (sheets base).moves)
    ∙ ap (find (is_posting_of_trade t.id)) (rows_posted base) ∙ find_first (is_posting_of_trade t.id) (postings_sorted_by_stamp (postings_of_base base))
    ∙ ap first (turn_filter (is_posting_of_trade t.id) (postings_of_base base) ∙ ap postings_sorted_by_stamp (by_its_number base t a)))
    ∙ by_kind t.is_cash
  where
    by_kind : (b : Bool) → option_map_or (λ p. p.amount) (first (postings_sorted_by_stamp (cond b (posting_of_trade base.accounts t ∷ []) []))) (pos 0)
        ≡ cond b (settlement_amount base.accounts t) (pos 0)
    by_kind true = refl
    by_kind false = refl

-- its posting is to its account
own_sum : (base : Base) (t : Trade) → Among base t
    → total_by (λ p. p.amount) (filter (λ p. p.stamp == last_status_stamp_of_trade t) (filter (is_to t.account) (postings_of_base base))) ≡ cond t.is_cash (settlement_amount base.accounts t) (pos 0)
unfolding total_by
own_sum base t a =
    ap (total_by (λ p. p.amount)) (filter-swap (λ p. p.stamp == last_status_stamp_of_trade t) (is_to t.account) (postings_of_base base) ∙ ap (filter (is_to t.account)) (at_its_stamp base t a))
    ∙ by_kind t.is_cash
  where
    by_kind : (b : Bool) → total_by (λ p. p.amount) (filter (is_to t.account) (cond b (posting_of_trade base.accounts t ∷ []) [])) ≡ cond b (settlement_amount base.accounts t) (pos 0)
    by_kind true =
        ap (λ c. total_by (λ p. p.amount) (cond c (posting_of_trade base.accounts t ∷ []) [])) (eq-eqb t.account t.account refl) ∙ +ℤ_idr (settlement_amount base.accounts t)
    by_kind false = refl

-- ---- up to a stamp

parts_of : (m n : ℕ) → nat_le m n ≡ nat_lt m n || (m == n)
parts_of m n = grind (arith, nat_tests)

not_both : (m n : ℕ) → nat_lt m n ≡ true → (m == n) ≡ false
not_both m n e = grind (arith, nat_tests)

either_sum : {X : Type 0} (f : X → ℤ) (p q : X → Bool) (xs : List X) → ((x : X) → p x ≡ true → q x ≡ false)
    → total_by f (filter (λ x. p x || q x) xs) ≡ total_by f (filter p xs) +ℤ total_by f (filter q xs)
unfolding total_by
either_sum f p q [] h = refl
either_sum {X = X} f p q (x ∷ xs) h = by_test (p x) (q x) refl refl (either_sum f p q xs h)
  where
    U : List X
    U = filter (λ x. p x || q x) xs

    by_test : (b c : Bool) → p x ≡ b → q x ≡ c → total_by f U ≡ total_by f (filter p xs) +ℤ total_by f (filter q xs)
        → total_by f (cond (b || c) (x ∷ U) U) ≡ total_by f (cond b (x ∷ filter p xs) (filter p xs)) +ℤ total_by f (cond c (x ∷ filter q xs) (filter q xs))
    by_test true true e g ih = let k : true ≡ false = sym g ∙ h x e in absurd (cc)
    by_test true false e g ih = ap (λ z. f x +ℤ z) ih ∙ sym (+ℤ_assoc (f x) (total_by f (filter p xs)) (total_by f (filter q xs)))
    by_test false true e g ih = ap (λ z. f x +ℤ z) ih ∙ swap (f x) (total_by f (filter p xs)) (total_by f (filter q xs))
      where
        swap : (a b c : ℤ) → a +ℤ (b +ℤ c) ≡ b +ℤ (a +ℤ c)
        swap a b c = omega (arith, ints)
    by_test false false e g ih = ih

until_parts : (stamp account : ℕ) (ps : List Posting)
    → total_by (λ p. p.amount) (filter (is_to account) (postings_up_to_stamp stamp ps))
    ≡ total_by (λ p. p.amount) (filter (λ p. nat_lt p.stamp stamp) (filter (is_to account) ps)) +ℤ total_by (λ p. p.amount) (filter (λ p. p.stamp == stamp) (filter (is_to account) ps))
until_parts stamp account ps =
    ap (total_by (λ p. p.amount))
    (filter-swap (is_to account) (λ p. nat_le p.stamp stamp) ps
    ∙ filter-same (λ p. nat_le p.stamp stamp) (λ p. nat_lt p.stamp stamp || (p.stamp == stamp)) (filter (is_to account) ps)
    (each (filter (is_to account) ps)))
    ∙ either_sum (λ p. p.amount) (λ p. nat_lt p.stamp stamp) (λ p. p.stamp == stamp) (filter (is_to account) ps) (λ p e. not_both p.stamp stamp e)
  where
    each : (qs : List Posting) → AllByRecursion (λ p. nat_le p.stamp stamp ≡ nat_lt p.stamp stamp || (p.stamp == stamp)) qs
    each [] = tt
    each (p ∷ qs) = (parts_of p.stamp stamp, each qs)

-- ---- before a trade and after it

pub balances_as_told : (base : Base) (t : Trade) → BooksInvariant base → trade_with_id base t.id ≡ Some t → is_completed t ≡ true → PrintedBalancesMatchBase base t
unfolding balance_of_account
balances_as_told base t books e c = record {
  before = before;
  after = (λ i. before i +ℤ moved_is base t a i)
      ∙ +ℤ_assoc (opening_balance_in_accounts base.accounts t.account)
      (total_by (λ p. p.amount) (filter (is_to t.account) (postings_before_stamp (last_status_stamp_of_trade t) ps)))
      (cond t.is_cash (settlement_amount base.accounts t) (pos 0))
      ∙ ap (λ z. opening_balance_in_accounts base.accounts t.account +ℤ z)
      ((λ i. ap (total_by (λ p. p.amount)) (filter-swap (is_to t.account) (λ p. nat_lt p.stamp (last_status_stamp_of_trade t)) ps) i +ℤ sym
      (own_sum base t a) i)
      ∙ sym (until_parts (last_status_stamp_of_trade t) t.account ps));
}
  where
    ps : List Posting
    ps = postings_of_base base

    a : Among base t
    a = among base t books e c

    before : printed_balance_before_trade (sheets base) t ≡ balance_of_account base.accounts (postings_before_stamp (last_status_stamp_of_trade t) ps) t.account
    before = λ i. opening_is base t.account i +ℤ
        (cash_sum base t.account (λ n. nat_lt n (last_status_stamp_of_trade t))
        ∙ ap (total_by (λ p. p.amount)) (filter-swap (λ p. nat_lt p.stamp (last_status_stamp_of_trade t)) (is_to t.account) ps)) i
