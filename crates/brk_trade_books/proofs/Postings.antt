-- Postings and their rows with one posting more: that with the last stamp has the last number.
use Rattle.std.proofs.Common.{◌≡◌, ◌<◌, ◌≤◌, ℕ, ◌+◌, ◌==◌, Bool, true, false, cond, List, [], ◌∷◌, ◌++◌, refl, sym, ◌∙◌, ap, subst, map, filter, length, arith, ℤ, ◌+ℤ◌}
use Rattle.std.specs.Prelude.{nat_lt}
use Rattle.std.specs.List.{AllByRecursion}
use Rattle.std.proofs.lemmas.Bool.Decides.{nat_tests}
use lib.IntN.{+ℤ_assoc, +ℤ_comm}
use Rattle.brk_model.specs.Lists.{insert_by, sort_by, total_by}
use Rattle.brk_model.specs.Records.{Account, Movement, Trade}
use Rattle.brk_model.specs.Base.{opening_balance_in_accounts}
use Rattle.brk_model.specs.Derived.{Posting, settlement_amount, balance_of_account, cash_trades, postings_sorted_by_stamp, posting_of_movement, postings_to_account, posting_of_trade, postings}
use Rattle.brk_model.specs.Keys.{number, rows_sorted_by_key, insert_row_by_key, is_key_less, cash_move_key, is_row_key_less}
use Rattle.brk_model.specs.Tables.{CashRow, cash_move_row, numbered_cash_move_rows}
use Rattle.brk_trade_books.proofs.Order.{NewKey, Sorted, append_nil, by_key-append, sort_sorted}
use Rattle.brk_trade_books.proofs.Places.{append_assoc, filter-append, filter-not_one, filter-one, map-append}
use Rattle.brk_trade_books.proofs.Positions.{sort_last}
use Rattle.brk_trade_books.proofs.Same.{All-map, map-last}
use Rattle.brk_trade_books.proofs.Tested.{All-back, All-front}
use Rattle.brk_trade_books.proofs.Worth.{total-append}

-- ---- the postings of completed trades with one more, and of movements

pub postings_one : (accounts : List Account) (xs : List Trade) (t : Trade) (ys : List Trade) (ms : List Movement) → t.is_cash ≡ true
    → postings accounts (xs ++ t ∷ ys) ms
    ≡ map (posting_of_trade accounts) (cash_trades xs) ++ posting_of_trade accounts t ∷ (map (posting_of_trade accounts) (cash_trades ys) ++ map posting_of_movement ms)
postings_one accounts xs t ys ms e =
    let P = posting_of_trade accounts in
    ap (λ ts. map P ts ++ map posting_of_movement ms) (filter-one (λ u. u.is_cash) xs t ys e)
    ∙ ap (λ ps. ps ++ map posting_of_movement ms) (map-append P (cash_trades xs) (t ∷ cash_trades ys))
    ∙ append_assoc (map P (cash_trades xs)) (P t ∷ map P (cash_trades ys)) (map posting_of_movement ms)

pub postings_none : (accounts : List Account) (xs : List Trade) (t : Trade) (ys : List Trade) (ms : List Movement) → t.is_cash ≡ false
    → postings accounts (xs ++ t ∷ ys) ms ≡ postings accounts (xs ++ ys) ms
postings_none accounts xs t ys ms e =
    ap (λ ts. map (posting_of_trade accounts) ts ++ map posting_of_movement ms) (filter-not_one (λ u. u.is_cash) xs t ys e ∙ sym (filter-append (λ u. u.is_cash) xs ys))

pub postings_both : (accounts : List Account) (xs ys : List Trade) (ms : List Movement)
    → postings accounts (xs ++ ys) ms ≡ map (posting_of_trade accounts) (cash_trades xs) ++ (map (posting_of_trade accounts) (cash_trades ys) ++ map posting_of_movement ms)
postings_both accounts xs ys ms =
    let P = posting_of_trade accounts in
    ap (λ ts. map P ts ++ map posting_of_movement ms) (filter-append (λ u. u.is_cash) xs ys)
    ∙ ap (λ ps. ps ++ map posting_of_movement ms) (map-append P (cash_trades xs) (cash_trades ys))
    ∙ append_assoc (map P (cash_trades xs)) (map P (cash_trades ys)) (map posting_of_movement ms)

pub postings_moved : (accounts : List Account) (done : List Trade) (ms : List Movement) (m : Movement) → postings accounts done (ms ++ m ∷ []) ≡ postings accounts done ms ++ posting_of_movement m ∷ []
postings_moved accounts done ms m =
    ap (λ ps. map (posting_of_trade accounts) (cash_trades done) ++ ps) (map-last posting_of_movement ms m)
    ∙ sym (append_assoc (map (posting_of_trade accounts) (cash_trades done)) (map posting_of_movement ms) (posting_of_movement m ∷ []))

-- ---- sums with one more

pub total_one : {X : Type 0} (f : X → ℤ) (xs : List X) (x : X) (ys : List X) → total_by f (xs ++ x ∷ ys) ≡ total_by f (xs ++ ys) +ℤ f x
unfolding total_by
total_one f xs x ys =
    total-append f xs (x ∷ ys) ∙ ap (λ n. total_by f xs +ℤ n) (+ℤ_comm (f x) (total_by f ys))
    ∙ sym (+ℤ_assoc (total_by f xs) (total_by f ys) (f x)) ∙ ap (λ n. n +ℤ f x) (sym (total-append f xs ys))

-- a sum goes by no order
total_insert : {X : Type 0} (f : X → ℤ) (p : X → Bool) (before : X → X → Bool) (x : X) (ys : List X)
    → total_by f (filter p (insert_by before x ys)) ≡ total_by f (filter p (x ∷ ys))
unfolding total_by
total_insert f p before x [] = refl
total_insert {X = X} f p before x (y ∷ ys) = by_test (before y x) (total_insert f p before x ys)
  where
    swap : (b c : Bool) → total_by f (cond b (y ∷ cond c (x ∷ filter p ys) (filter p ys)) (cond c (x ∷ filter p ys) (filter p ys)))
        ≡ total_by f (cond c (x ∷ cond b (y ∷ filter p ys) (filter p ys)) (cond b (y ∷ filter p ys) (filter p ys)))
    swap true true =
        sym (+ℤ_assoc (f y) (f x) (total_by f (filter p ys))) ∙ ap (λ n. n +ℤ total_by f (filter p ys)) (+ℤ_comm (f y) (f x))
        ∙ +ℤ_assoc (f x) (f y) (total_by f (filter p ys))
    swap true false = refl
    swap false true = refl
    swap false false = refl

    put : (b : Bool) → total_by f (filter p (insert_by before x ys)) ≡ total_by f (filter p (x ∷ ys))
        → total_by f (cond b (y ∷ filter p (insert_by before x ys)) (filter p (insert_by before x ys))) ≡ total_by f (cond b (y ∷ filter p (x ∷ ys)) (filter p (x ∷ ys)))
    put true ih = ap (λ n. f y +ℤ n) ih
    put false ih = ih

    by_test : (b : Bool) → total_by f (filter p (insert_by before x ys)) ≡ total_by f (filter p (x ∷ ys))
        → total_by f (filter p (cond b (y ∷ insert_by before x ys) (x ∷ y ∷ ys))) ≡ total_by f (filter p (x ∷ y ∷ ys))
    by_test true ih = put (p y) ih ∙ swap (p y) (p x)
    by_test false ih = refl

pub total_sort : {X : Type 0} (f : X → ℤ) (p : X → Bool) (before : X → X → Bool) (xs : List X) → total_by f (filter p (sort_by before xs)) ≡ total_by f (filter p xs)
unfolding sort_by total_by
total_sort f p before [] = refl
total_sort f p before (x ∷ xs) = total_insert f p before x (sort_by before xs) ∙ put (p x) (total_sort f p before xs)
  where
    put : (b : Bool) → total_by f (filter p (sort_by before xs)) ≡ total_by f (filter p xs)
        → total_by f (cond b (x ∷ filter p (sort_by before xs)) (filter p (sort_by before xs))) ≡ total_by f (cond b (x ∷ filter p xs) (filter p xs))
    put true ih = ap (λ n. f x +ℤ n) ih
    put false ih = ih

pub length_insert : {X : Type 0} (before : X → X → Bool) (x : X) (ys : List X) → length (insert_by before x ys) ≡ length ys + 1
length_insert before x [] = refl
length_insert {X = X} before x (y ∷ ys) = by_test (before y x) (length_insert before x ys)
  where
    by_test : (b : Bool) → length (insert_by before x ys) ≡ length ys + 1 → length (cond b (y ∷ insert_by before x ys) (x ∷ y ∷ ys)) ≡ length (y ∷ ys) + 1
    by_test true ih = omega (arith, ih)
    by_test false ih = omega arith

pub length_sort : {X : Type 0} (before : X → X → Bool) (xs : List X) → length (sort_by before xs) ≡ length xs
unfolding sort_by
length_sort before [] = refl
length_sort before (x ∷ xs) = let h = length_sort before xs in let k = length_insert before x (sort_by before xs) in omega (arith, h, k)

pub length_one : {X : Type 0} (xs : List X) (x : X) (ys : List X) → length (xs ++ x ∷ ys) ≡ length (xs ++ ys) + 1
length_one [] x ys = omega arith
length_one (y ∷ xs) x ys = let h = length_one xs x ys in omega (arith, h)

-- ---- numbered rows

is_after : ℕ → CashRow → Type 0
is_after n r = n ≤ r.id

numbers_after : (m n : ℕ) (ps : List Posting) → m ≤ n → AllByRecursion (λ r. m ≤ r.id) (numbered_cash_move_rows n ps)
numbers_after m n [] h = tt
numbers_after m n (p ∷ ps) h = (h, numbers_after m (n + 1) ps (omega (arith, h)))

later_number : (m n : ℕ) → m + 1 ≤ n → is_key_less (number n ∷ []) (number m ∷ []) ≡ false
later_number m n h = grind (arith, nat_tests)

numbered_sorted : (n : ℕ) (ps : List Posting) → Sorted (is_row_key_less cash_move_key) (numbered_cash_move_rows n ps)
numbered_sorted n [] = tt
numbered_sorted n (p ∷ ps) =
    (All-map (numbered_cash_move_rows (n + 1) ps) (λ r h. later_number n r.id h) (numbers_after (n + 1) (n + 1) ps (omega arith)), numbered_sorted (n + 1) ps)

-- they stand by their numbers
pub numbered_stay : (n : ℕ) (ps : List Posting) → rows_sorted_by_key cash_move_key (numbered_cash_move_rows n ps) ≡ numbered_cash_move_rows n ps
numbered_stay n ps = sort_sorted (is_row_key_less cash_move_key) (numbered_cash_move_rows n ps) (numbered_sorted n ps)

pub numbered_last : (n : ℕ) (ps : List Posting) (p : Posting) → numbered_cash_move_rows n (ps ++ p ∷ []) ≡ numbered_cash_move_rows n ps ++ cash_move_row (n + length ps) p ∷ []
numbered_last n [] p = ap (λ m. cash_move_row m p ∷ []) (omega arith)
numbered_last n (q ∷ ps) p = ap (λ rows. cash_move_row n q ∷ rows) (numbered_last (n + 1) ps p ∙ ap (λ m. numbered_cash_move_rows (n + 1) ps ++ cash_move_row m p ∷ []) (omega arith))

numbers_below : (n : ℕ) (ps : List Posting) → AllByRecursion (λ r. r.id < n + length ps) (numbered_cash_move_rows n ps)
numbers_below n [] = tt
numbers_below n (p ∷ ps) = (omega arith, All-map (numbered_cash_move_rows (n + 1) ps) (λ r h. omega (arith, h)) (numbers_below (n + 1) ps))

new_last : (n : ℕ) (ps : List Posting) (p : Posting) → NewKey cash_move_key (cash_move_row (n + length ps) p) (numbered_cash_move_rows n ps)
new_last n ps p = All-map (numbered_cash_move_rows n ps) (λ r h e. let k : r.id ≡ n + length ps = cc in omega (arith, h, k)) (numbers_below n ps)

-- ---- the posting with the last stamp

pub is_before : ℕ → Posting → Type 0
is_before stamp p = p.stamp < stamp

pub turn_last : (xs : List Posting) (p : Posting) (ys : List Posting) → AllByRecursion (λ q. q.stamp < p.stamp) (xs ++ ys)
    → postings_sorted_by_stamp (xs ++ p ∷ ys) ≡ postings_sorted_by_stamp (xs ++ ys) ++ p ∷ []
turn_last xs p ys h =
    sort_last (λ a b. nat_lt a.stamp b.stamp) xs p ys
    (All-map xs (λ q k. grind (arith, nat_tests)) (All-front (λ q. q.stamp < p.stamp) xs ys h))
    (All-map ys (λ q k. grind (arith, nat_tests)) (All-back (λ q. q.stamp < p.stamp) xs ys h))

pub rows_last : (xs : List Posting) (p : Posting) (ys : List Posting) → AllByRecursion (λ q. q.stamp < p.stamp) (xs ++ ys)
    → rows_sorted_by_key cash_move_key (numbered_cash_move_rows 1 (postings_sorted_by_stamp (xs ++ p ∷ ys)))
    ≡ insert_row_by_key cash_move_key (cash_move_row (length (xs ++ ys) + 1) p)
    (rows_sorted_by_key cash_move_key (numbered_cash_move_rows 1 (postings_sorted_by_stamp (xs ++ ys))))
rows_last xs p ys h =
    let turned : List Posting = postings_sorted_by_stamp (xs ++ ys) in
    ap (λ ps. rows_sorted_by_key cash_move_key (numbered_cash_move_rows 1 ps)) (turn_last xs p ys h) ∙ ap (rows_sorted_by_key cash_move_key) (numbered_last 1 turned p)
    ∙ by_key-append cash_move_key (numbered_cash_move_rows 1 turned) (cash_move_row (1 + length turned) p) (new_last 1 turned p)
    ∙ ap (λ n. insert_row_by_key cash_move_key (cash_move_row n p) (rows_sorted_by_key cash_move_key (numbered_cash_move_rows 1 turned)))
    (number_is (length turned) (length (xs ++ ys)) (length_sort (λ a b. nat_lt a.stamp b.stamp) (xs ++ ys)))
  where
    number_is : (m n : ℕ) → m ≡ n → 1 + m ≡ n + 1
    number_is m n e = omega (arith, e)

pub rows_end : (ps : List Posting) (p : Posting) → AllByRecursion (λ q. q.stamp < p.stamp) ps
    → rows_sorted_by_key cash_move_key (numbered_cash_move_rows 1 (postings_sorted_by_stamp (ps ++ p ∷ [])))
    ≡ insert_row_by_key cash_move_key (cash_move_row (length ps + 1) p)
    (rows_sorted_by_key cash_move_key (numbered_cash_move_rows 1 (postings_sorted_by_stamp ps)))
rows_end ps p h =
    rows_last ps p [] (subst (AllByRecursion (λ q. q.stamp < p.stamp)) (sym (append_nil ps)) h)
    ∙ ap (λ qs. insert_row_by_key cash_move_key (cash_move_row (length qs + 1) p) (rows_sorted_by_key cash_move_key (numbered_cash_move_rows 1 (postings_sorted_by_stamp qs)))) (append_nil ps)

-- ---- what rows move

total_numbered : (n account : ℕ) (ps : List Posting)
    → total_by (λ r. r.amount) (filter (λ r. r.account == account) (numbered_cash_move_rows n ps)) ≡ total_by (λ p. p.amount) (filter (λ p. p.account == account) ps)
unfolding total_by
total_numbered n account [] = refl
total_numbered n account (p ∷ ps) = by_test (p.account == account) (total_numbered (n + 1) account ps)
  where
    by_test : (b : Bool)
        → total_by (λ r. r.amount) (filter (λ r. r.account == account) (numbered_cash_move_rows (n + 1) ps)) ≡ total_by (λ p. p.amount) (filter (λ p. p.account == account) ps)
        → total_by (λ r. r.amount)
        (cond b (cash_move_row n p ∷ filter (λ r. r.account == account) (numbered_cash_move_rows (n + 1) ps))
        (filter (λ r. r.account == account) (numbered_cash_move_rows (n + 1) ps)))
        ≡ total_by (λ p. p.amount) (cond b (p ∷ filter (λ p. p.account == account) ps) (filter (λ p. p.account == account) ps))
    by_test true ih = ap (λ n. p.amount +ℤ n) ih
    by_test false ih = ih

pub rows_total : (account : ℕ) (ps : List Posting)
    → total_by (λ r. r.amount) (filter (λ r. r.account == account) (rows_sorted_by_key cash_move_key (numbered_cash_move_rows 1 (postings_sorted_by_stamp ps))))
    ≡ total_by (λ p. p.amount) (filter (λ p. p.account == account) ps)
rows_total account ps =
    ap (λ rows. total_by (λ r. r.amount) (filter (λ r. r.account == account) rows)) (numbered_stay 1 (postings_sorted_by_stamp ps))
    ∙ total_numbered 1 account (postings_sorted_by_stamp ps) ∙ total_sort (λ p. p.amount) (λ p. p.account == account) (λ a b. nat_lt a.stamp b.stamp) ps

-- ---- a balance in its parts

posted_trades : (accounts : List Account) (ts : List Trade) (account : ℕ)
    → total_by (λ p. p.amount) (filter (λ p. p.account == account) (map (posting_of_trade accounts) ts)) ≡ total_by (settlement_amount accounts) (filter (λ t. t.account == account) ts)
unfolding total_by
posted_trades accounts [] account = refl
posted_trades accounts (t ∷ ts) account = by_test (t.account == account) (posted_trades accounts ts account)
  where
    P : List Posting
    P = filter (λ p. p.account == account) (map (posting_of_trade accounts) ts)

    T : List Trade
    T = filter (λ t. t.account == account) ts

    by_test : (b : Bool) → total_by (λ p. p.amount) P ≡ total_by (settlement_amount accounts) T
        → total_by (λ p. p.amount) (cond b (posting_of_trade accounts t ∷ P) P) ≡ total_by (settlement_amount accounts) (cond b (t ∷ T) T)
    by_test true ih = ap (λ n. settlement_amount accounts t +ℤ n) ih
    by_test false ih = ih

-- its opening, its trades' amounts, and what else moved
pub balance_parts : (accounts : List Account) (done : List Trade) (ms : List Movement) (account : ℕ)
    → balance_of_account accounts (postings accounts done ms) account
    ≡ opening_balance_in_accounts accounts account +ℤ
    (total_by (settlement_amount accounts) (filter (λ t. t.account == account) (cash_trades done)) +ℤ total_by (λ p. p.amount)
    (postings_to_account (map posting_of_movement ms) account))
unfolding balance_of_account
balance_parts accounts done ms account =
    ap (λ n. opening_balance_in_accounts accounts account +ℤ n)
    (ap (total_by (λ p. p.amount)) (filter-append (λ p. p.account == account) (map (posting_of_trade accounts) (cash_trades done)) (map posting_of_movement ms))
    ∙ total-append (λ p. p.amount) (postings_to_account (map (posting_of_trade accounts) (cash_trades done)) account) (postings_to_account (map posting_of_movement ms) account)
    ∙ ap (λ n. n +ℤ total_by (λ p. p.amount) (postings_to_account (map posting_of_movement ms) account)) (posted_trades accounts (cash_trades done) account))
