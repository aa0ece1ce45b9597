-- Lookups in the tables of a base find the records that the model finds in the base.
use Rattle.std.proofs.Common.{◌≡◌, ℕ, ◌+◌, ◌==◌, Bool, true, false, cond, List, [], ◌∷◌, refl, sym, ◌∙◌, ap, map, filter, length, arith, Option, Some, None}
use Rattle.std.specs.Prelude.{◌||◌, find, is_none, is_some, option_map, bytes_eq}
use Rattle.std.specs.List.{list_any}
use Rattle.std.proofs.lemmas.Bool.Decides.{nat_tests}
use Rattle.brk_money.specs.Spelling.{Text}
use Rattle.brk_model.specs.Lists.{insert_by, sort_by}
use Rattle.brk_model.specs.Base.{Base, broker_with_id, customer_with_id, account_with_id, completed_trades}
use Rattle.brk_model.specs.Derived.{postings_of_base}
use Rattle.brk_model.specs.Keys.{KeyPart, number, is_key_less, is_row_key_less, rows_sorted_by_key, customer_key, account_key}
use Rattle.brk_model.specs.Tables.{tables_of_base_in_schema, broker_row, account_row}
use Rattle.brk_model.specs.Sheets.{sheets, tables_sorted_by_key}
use Rattle.brk_model.specs.Form.{has_account, has_broker, has_customer}
use Rattle.brk_trade_books.specs.Reads.{contains_customer_with_tax_id, account_count_of_customer}
use Rattle.brk_trade_books.proofs.Order.{key_one_way, by_key-filter}

-- ---- in sorted rows

-- a row that none before it is like is found where it was put in
find-insert : {X : Type 0} (before : X → X → Bool) (p : X → Bool) (x : X) (ys : List X) → ((y : X) → p x ≡ true → before y x ≡ true → p y ≡ false)
    → find p (insert_by before x ys) ≡ cond (p x) (Some x) (find p ys)
find-insert before p x [] h = refl
find-insert before p x (y ∷ ys) h = by_test (find-insert before p x ys h) (before y x) (p x) refl refl
  where
    by_test : find p (insert_by before x ys) ≡ cond (p x) (Some x) (find p ys) → (b c : Bool) → before y x ≡ b → p x ≡ c
        → find p (insert_by before x (y ∷ ys)) ≡ cond (p x) (Some x) (find p (y ∷ ys))
    by_test ih true true e f = let k : p y ≡ false = h y f e in let j : find p (insert_by before x ys) ≡ Some x = rw f at ih in rw (e, f, k) j
    by_test ih true false e f = let j : find p (insert_by before x ys) ≡ find p ys = rw f at ih in rw (e, f, j) refl
    by_test ih false c e f = rw e refl

pub find-sorted : {Row : Type 0} (key : Row → List KeyPart) (p : Row → Bool) (xs : List Row) → ((x y : Row) → p x ≡ true → is_row_key_less key y x ≡ true → p y ≡ false)
    → find p (rows_sorted_by_key key xs) ≡ find p xs
unfolding sort_by
find-sorted key p [] h = refl
find-sorted key p (x ∷ xs) h = find-insert (is_row_key_less key) p x (rows_sorted_by_key key xs) (h x) ∙ ap (λ o. cond (p x) (Some x) o) (find-sorted key p xs h)

-- a key doesn't go before itself
not_itself : (j k : List KeyPart) → j ≡ k → is_key_less j k ≡ true → ⊥
not_itself j k p e = let f : true ≡ false = sym e ∙ (λ i. is_key_less (p i) (sym p i)) ∙ key_one_way j k e in absurd (cc)

-- by what is of one key alone
pub find-key : {Row : Type 0} (key : Row → List KeyPart) (p : Row → Bool) (k : List KeyPart) (xs : List Row) → ((x : Row) → p x ≡ true → key x ≡ k)
    → find p (rows_sorted_by_key key xs) ≡ find p xs
find-key {Row = Row} key p k xs h = find-sorted key p xs (λ x y e f. other x y (p y) refl e f)
  where
    other : (x y : Row) (b : Bool) → p y ≡ b → p x ≡ true → is_key_less (key y) (key x) ≡ true → p y ≡ false
    other x y false g e f = g
    other x y true g e f = absurd (not_itself (key y) (key x) (h y g ∙ sym (h x e)) f)

-- by a number that is the key
pub find-id : {Row : Type 0} (id : Row → ℕ) (n : ℕ) (xs : List Row) → find (λ r. id r == n) (rows_sorted_by_key (λ r. number (id r) ∷ []) xs) ≡ find (λ r. id r == n) xs
find-id id n xs = find-sorted (λ r. number (id r) ∷ []) (λ r. id r == n) xs (λ x y e f. other (id x) (id y) n e f)
  where
    other : (a b n : ℕ) → (a == n) ≡ true → is_key_less (number b ∷ []) (number a ∷ []) ≡ true → (b == n) ≡ false
    other a b n e f = grind (arith, nat_tests)

pub find-map : {X Y : Type 0} (p : Y → Bool) (f : X → Y) (xs : List X) → find p (map f xs) ≡ option_map f (find (λ x. p (f x)) xs)
find-map p f [] = refl
find-map p f (x ∷ xs) = by_test (p (f x)) (find-map p f xs)
  where
    by_test : (b : Bool) → find p (map f xs) ≡ option_map f (find (λ x. p (f x)) xs) → cond b (Some (f x)) (find p (map f xs)) ≡ option_map f (cond b (Some x) (find (λ x. p (f x)) xs))
    by_test true e = refl
    by_test false e = e

pub is_some-map : {X Y : Type 0} (f : X → Y) (o : Option X) → is_some (option_map f o) ≡ is_some o
is_some-map f None = refl
is_some-map f (Some x) = refl

pub is_none-map : {X Y : Type 0} (f : X → Y) (o : Option X) → is_none (option_map f o) ≡ is_none o
is_none-map f None = refl
is_none-map f (Some x) = refl

-- what a look-up gave, seen as a row, tells whether the row is there
pub is_there : {X Row : Type 0} (view : X → Row) (o : Option X) (row : Option Row) → option_map view o ≡ row → is_some o ≡ is_some row
is_there view o row e = sym (is_some-map view o) ∙ ap is_some e

-- and what it listed, how many rows there are
pub are_counted : {X Row : Type 0} (view : X → Row) (xs : List X) (rows : List Row) → map view xs ≡ rows → length xs ≡ length rows
are_counted {X = X} view xs rows e = sym (as_many xs) ∙ ap length e
  where
    as_many : (ys : List X) → length (map view ys) ≡ length ys
    as_many [] = refl
    as_many (y ∷ ys) = let e = as_many ys in omega arith

-- whether one is found is no matter of order
some-cond : {X : Type 0} (b : Bool) (x : X) (o : Option X) → is_some (cond b (Some x) o) ≡ b || is_some o
some-cond true x o = refl
some-cond false x o = refl

some-insert : {X : Type 0} (before : X → X → Bool) (p : X → Bool) (x : X) (ys : List X) → is_some (find p (insert_by before x ys)) ≡ p x || is_some (find p ys)
some-insert before p x [] = some-cond (p x) x None
some-insert {X = X} before p x (y ∷ ys) = by_test (before y x) (some-insert before p x ys)
  where
    swap : (a b c : Bool) → a || (b || c) ≡ b || (a || c)
    swap true true c = refl
    swap true false c = refl
    swap false true c = refl
    swap false false c = refl

    by_test : (b : Bool) → is_some (find p (insert_by before x ys)) ≡ p x || is_some (find p ys)
        → is_some (find p (cond b (y ∷ insert_by before x ys) (x ∷ y ∷ ys))) ≡ p x || is_some (find p (y ∷ ys))
    by_test true e =
        some-cond (p y) y (find p (insert_by before x ys)) ∙ ap (λ b. p y || b) e ∙ swap (p y) (p x) (is_some (find p ys)) ∙ sym (ap (λ b. p x || b) (some-cond (p y) y (find p ys)))
    by_test false e = some-cond (p x) x (find p (y ∷ ys))

pub some-any : {Row : Type 0} (key : Row → List KeyPart) (p : Row → Bool) (xs : List Row) → is_some (find p (rows_sorted_by_key key xs)) ≡ list_any p xs
unfolding sort_by
some-any key p [] = refl
some-any key p (x ∷ xs) = some-insert (is_row_key_less key) p x (rows_sorted_by_key key xs) ∙ ap (λ b. p x || b) (some-any key p xs)

-- nor is whether one passes
pub some-is-any : {X : Type 0} (p : X → Bool) (xs : List X) → is_some (find p xs) ≡ list_any p xs
some-is-any p [] = refl
some-is-any p (x ∷ xs) = some-cond (p x) x (find p xs) ∙ ap (λ b. p x || b) (some-is-any p xs)

pub any-sorted : {Row : Type 0} (key : Row → List KeyPart) (p : Row → Bool) (xs : List Row) → list_any p (rows_sorted_by_key key xs) ≡ list_any p xs
any-sorted key p xs = sym (some-is-any p (rows_sorted_by_key key xs)) ∙ some-any key p xs

length-insert_by : {X : Type 0} (before : X → X → Bool) (x : X) (ys : List X) → length (insert_by before x ys) ≡ length ys + 1
length-insert_by before x [] = omega arith
length-insert_by before x (y ∷ ys) = by_test (before y x) (length-insert_by before x ys)
  where
    by_test : (b : Bool) → length (insert_by before x ys) ≡ length ys + 1 → length (cond b (y ∷ insert_by before x ys) (x ∷ y ∷ ys)) ≡ length (y ∷ ys) + 1
    by_test true e = omega arith
    by_test false e = omega arith

length-by_key : {Row : Type 0} (key : Row → List KeyPart) (xs : List Row) → length (rows_sorted_by_key key xs) ≡ length xs
unfolding sort_by
length-by_key key [] = refl
length-by_key key (x ∷ xs) = let e = length-insert_by (is_row_key_less key) x (rows_sorted_by_key key xs) in let f = length-by_key key xs in omega arith

count-map : {X Y : Type 0} (p : Y → Bool) (f : X → Y) (xs : List X) → length (filter p (map f xs)) ≡ length (filter (λ x. p (f x)) xs)
count-map p f [] = refl
count-map p f (x ∷ xs) = by_test (p (f x)) (count-map p f xs)
  where
    by_test : (b : Bool) → length (filter p (map f xs)) ≡ length (filter (λ x. p (f x)) xs)
        → length (cond b (f x ∷ filter p (map f xs)) (filter p (map f xs))) ≡ length (cond b (x ∷ filter (λ x. p (f x)) xs) (filter (λ x. p (f x)) xs))
    by_test true e = omega arith
    by_test false e = e

-- ---- in the tables of a base

pub reads_broker : (base : Base) (id : ℕ) → find (λ r. r.id == id) (sheets base).brokers ≡ option_map (broker_row base.accounts (completed_trades base)) (broker_with_id base id)
unfolding tables_of_base_in_schema tables_sorted_by_key
reads_broker base id =
    find-id (λ r. r.id) id (map (broker_row base.accounts (completed_trades base)) base.brokers) ∙ find-map (λ r. r.id == id) (broker_row base.accounts (completed_trades base)) base.brokers

pub reads_customer : (base : Base) (id : ℕ) → find (λ r. r.id == id) (sheets base).customers ≡ customer_with_id base id
unfolding tables_of_base_in_schema tables_sorted_by_key
reads_customer base id = find-id (λ r. r.id) id base.customers

pub reads_account : (base : Base) (id : ℕ) → find (λ r. r.id == id) (sheets base).accounts ≡ option_map (account_row base.accounts (postings_of_base base)) (account_with_id base id)
unfolding tables_of_base_in_schema tables_sorted_by_key
reads_account base id =
    find-id (λ r. r.id) id (map (account_row base.accounts (postings_of_base base)) base.accounts) ∙ find-map (λ r. r.id == id) (account_row base.accounts (postings_of_base base)) base.accounts

pub reads_has_broker : (base : Base) (id : ℕ) → has_broker (sheets base) id ≡ is_some (broker_with_id base id)
reads_has_broker base id = ap is_some (reads_broker base id) ∙ is_some-map _ (broker_with_id base id)

pub reads_has_customer : (base : Base) (id : ℕ) → has_customer (sheets base) id ≡ is_some (customer_with_id base id)
reads_has_customer base id = ap is_some (reads_customer base id)

pub reads_same_customer : (base : Base) (id : ℕ) → has_customer (sheets base) id ≡ list_any (λ c. c.id == id) base.customers
unfolding tables_of_base_in_schema tables_sorted_by_key
reads_same_customer base id = some-any customer_key (λ c. c.id == id) base.customers

pub reads_tax_id : (base : Base) (tax_id : Text) → contains_customer_with_tax_id (sheets base) tax_id ≡ list_any (λ c. bytes_eq c.tax_id tax_id) base.customers
unfolding tables_of_base_in_schema tables_sorted_by_key
reads_tax_id base tax_id = some-any customer_key (λ c. bytes_eq c.tax_id tax_id) base.customers

pub reads_has_account : (base : Base) (id : ℕ) → has_account (sheets base) id ≡ is_some (account_with_id base id)
reads_has_account base id = ap is_some (reads_account base id) ∙ is_some-map _ (account_with_id base id)

pub reads_count : (base : Base) (customer : ℕ) → account_count_of_customer (sheets base) customer ≡ length (filter (λ a. a.customer == customer) base.accounts)
unfolding tables_of_base_in_schema tables_sorted_by_key
reads_count base customer =
    ap length (sym (by_key-filter account_key (λ r. r.customer == customer) (map (account_row base.accounts (postings_of_base base)) base.accounts)))
    ∙ length-by_key account_key (filter (λ r. r.customer == customer) (map (account_row base.accounts (postings_of_base base)) base.accounts))
    ∙ count-map (λ r. r.customer == customer) (account_row base.accounts (postings_of_base base)) base.accounts

pub reads_last : (base : Base) → (sheets base).last ≡ base.last
unfolding tables_of_base_in_schema tables_sorted_by_key
reads_last base = refl
