-- The customers that pass the test have the accounts of a customer who was found.
use Rattle.std.proofs.Common.{◌≡◌, ℕ, ◌==◌, List, [], ◌∷◌, Bool, true, false, not, cond, Option, Some, None, refl, sym, ap, ◌∙◌, find}
use Rattle.std.specs.Prelude.{◌&&◌, ◌||◌, bytes_eq, is_none, is_some}
use Rattle.std.specs.List.{AllByRecursion, list_any}
use Rattle.std.proofs.lemmas.Bool.{eqb-true}
use Rattle.brk_money.specs.Spelling.{Text}
use Rattle.brk_model.specs.Keys.{KeyPart, rows_sorted_by_key, customer_key, word}
use Rattle.brk_model.specs.Lists.{insert_by, sort_by}
use Rattle.brk_model.specs.Records.{Customer}
use Rattle.brk_audit_theorems.specs.Sound.{HasDistinctKeys, customer_tax_id_key}
use Rattle.brk_trade_books.proofs.Bools.{numbers_back, same_text}
use Rattle.brk_trade_books.proofs.Order.{All-insert}
use Rattle.brk_trade_books.proofs.Reading.{some-any, some-is-any}

-- ---- by id

never : (customers : List Customer) (id n : ℕ) → (n == id) ≡ false → list_any (λ c. (c.id == id) && (c.id == n)) customers ≡ false
never [] id n e = refl
never (c ∷ customers) id n e = by_test (never customers id n e) (c.id == id) refl
  where
    by_test : list_any (λ c. (c.id == id) && (c.id == n)) customers ≡ false → (b : Bool) → (c.id == id) ≡ b → (b && (c.id == n)) || list_any (λ c. (c.id == id) && (c.id == n)) customers ≡ false
    by_test ih true f = ap (λ m. (m == n) || list_any (λ c. (c.id == id) && (c.id == n)) customers) (eqb-true c.id id f)
        ∙ ap (λ b. b || list_any (λ c. (c.id == id) && (c.id == n)) customers) (numbers_back id n ∙ e) ∙ ih
    by_test ih false f = ih

once : (customers : List Customer) (id n : ℕ) (x : Customer) → Some x ≡ find (λ c. c.id == id) customers → (n == id) ≡ true
    → list_any (λ c. (c.id == id) && (c.id == n)) customers ≡ true
once [] id n x s e = absurd (cc)
once (c ∷ customers) id n x s e = by_test (λ k. once customers id n x k e) (c.id == id) refl s
  where
    by_test : (Some x ≡ find (λ c. c.id == id) customers → list_any (λ c. (c.id == id) && (c.id == n)) customers ≡ true) → (b : Bool) → (c.id == id) ≡ b
        → Some x ≡ cond b (Some c) (find (λ c. c.id == id) customers)
        → (b && (c.id == n)) || list_any (λ c. (c.id == id) && (c.id == n)) customers ≡ true
    by_test ih true f s = ap (λ m. (m == n) || list_any (λ c. (c.id == id) && (c.id == n)) customers) (eqb-true c.id id f)
        ∙ ap (λ b. b || list_any (λ c. (c.id == id) && (c.id == n)) customers) (numbers_back id n ∙ e)
    by_test ih false f s = ih s

pub owned_by_id : (customers : List Customer) (id n : ℕ) (x : Customer) → Some x ≡ find (λ c. c.id == id) customers
    → (n == id) ≡ list_any (λ c. (c.id == id) && (c.id == n)) customers
owned_by_id customers id n x s = by_test (n == id) refl
  where
    by_test : (b : Bool) → (n == id) ≡ b → b ≡ list_any (λ c. (c.id == id) && (c.id == n)) customers
    by_test true e = sym (once customers id n x s e)
    by_test false e = sym (never customers id n e)

-- ---- by tax id

others : (customers : List Customer) (tax_id : Text) (n : ℕ) → AllByRecursion (λ d. bytes_eq d.tax_id tax_id ≡ false) customers
    → list_any (λ d. bytes_eq d.tax_id tax_id && (d.id == n)) customers ≡ false
others [] tax_id n h = refl
others (d ∷ customers) tax_id n h = ap (λ b. (b && (d.id == n)) || list_any (λ d. bytes_eq d.tax_id tax_id && (d.id == n)) customers) h.0 ∙ others customers tax_id n h.1

apart_from : (c : Customer) (customers : List Customer) (tax_id : Text) → bytes_eq c.tax_id tax_id ≡ true → AllByRecursion (λ d. customer_tax_id_key d ≡ customer_tax_id_key c → ⊥) customers
    → AllByRecursion (λ d. bytes_eq d.tax_id tax_id ≡ false) customers
apart_from c [] tax_id e h = tt
apart_from c (d ∷ customers) tax_id e h = (differs (bytes_eq d.tax_id tax_id) refl, apart_from c customers tax_id e h.1)
  where
    differs : (b : Bool) → bytes_eq d.tax_id tax_id ≡ b → bytes_eq d.tax_id tax_id ≡ false
    differs false f = f
    differs true f = absurd (h.0 (ap (λ x. word x ∷ []) (same_text d.tax_id tax_id f ∙ sym (same_text c.tax_id tax_id e))))

pub owned_by_tax_id : (customers : List Customer) (tax_id : Text) (n : ℕ) (x : Customer) → HasDistinctKeys customer_tax_id_key customers → Some x ≡ find (λ c. bytes_eq c.tax_id tax_id) customers
    → (n == x.id) ≡ list_any (λ c. bytes_eq c.tax_id tax_id && (c.id == n)) customers
owned_by_tax_id [] tax_id n x h s = absurd (cc)
owned_by_tax_id (c ∷ customers) tax_id n x h s = by_test (owned_by_tax_id customers tax_id n x h.1) (bytes_eq c.tax_id tax_id) refl s
  where
    or_false : (b : Bool) → b || false ≡ b
    or_false true = refl
    or_false false = refl

    same : (x y : Customer) → Some x ≡ Some y → x.id ≡ y.id
    same x y e = cc

    by_test : (Some x ≡ find (λ c. bytes_eq c.tax_id tax_id) customers → (n == x.id) ≡ list_any (λ c. bytes_eq c.tax_id tax_id && (c.id == n)) customers)
        → (b : Bool) → bytes_eq c.tax_id tax_id ≡ b → Some x ≡ cond b (Some c) (find (λ c. bytes_eq c.tax_id tax_id) customers)
        → (n == x.id) ≡ (b && (c.id == n)) || list_any (λ c. bytes_eq c.tax_id tax_id && (c.id == n)) customers
    by_test ih true e s =
        ap (λ m. n == m) (same x c s) ∙ numbers_back n c.id ∙ sym (or_false (c.id == n))
        ∙ ap (λ b. (c.id == n) || b) (sym (others customers tax_id n (apart_from c customers tax_id e h.0)))
    by_test ih false e s = ih s

-- ---- keys apart in any order

apart_put : {Row : Type 0} (key : Row → List KeyPart) (before : Row → Row → Bool) (x : Row) (ys : List Row) → AllByRecursion (λ y. key y ≡ key x → ⊥) ys → HasDistinctKeys key ys
    → HasDistinctKeys key (insert_by before x ys)
apart_put key before x [] h k = (tt, tt)
apart_put key before x (y ∷ ys) h k =
    elim (before y x) as (λ b. HasDistinctKeys key (cond b (y ∷ insert_by before x ys) (x ∷ y ∷ ys)))
    [ true ↦ (All-insert (λ w. key w ≡ key y → ⊥) before x ys (λ e. h.0 (sym e)) k.0, apart_put key before x ys h.1 k.1) | false ↦ (h, k) ]

All-sorted : {X : Type 0} (P : X → Type 0) (before : X → X → Bool) (xs : List X) → AllByRecursion P xs → AllByRecursion P (sort_by before xs)
unfolding sort_by
All-sorted P before [] h = tt
All-sorted P before (x ∷ xs) h = All-insert P before x (sort_by before xs) h.0 (All-sorted P before xs h.1)

pub apart_sorted : {Row : Type 0} (key : Row → List KeyPart) (before : Row → Row → Bool) (xs : List Row) → HasDistinctKeys key xs → HasDistinctKeys key (sort_by before xs)
unfolding sort_by
apart_sorted key before [] h = tt
apart_sorted key before (x ∷ xs) h = apart_put key before x (sort_by before xs) (All-sorted (λ y. key y ≡ key x → ⊥) before xs h.0) (apart_sorted key before xs h.1)

-- ---- whether one is there

none_not_some : {X : Type 0} (o : Option X) → is_none o ≡ not (is_some o)
none_not_some None = refl
none_not_some (Some x) = refl

pub missing_sorted : (p : Customer → Bool) (customers : List Customer) → is_none (find p customers) ≡ is_none (find p (rows_sorted_by_key customer_key customers))
missing_sorted p customers =
    none_not_some (find p customers) ∙ ap not (some-is-any p customers ∙ sym (some-any customer_key p customers)) ∙ sym (none_not_some (find p (rows_sorted_by_key customer_key customers)))
