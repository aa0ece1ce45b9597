-- Sorting the tables by key leaves rows with one key in their order, and a row that is found by a
-- unique key is the only one.
use Rattle.std.proofs.Common.{◌≡◌, List, [], ◌∷◌, Bool, true, false, cond, Option, Some, None, refl, sym, ap, ◌∙◌, filter, find}
use Rattle.std.specs.Prelude.{⊤, option_to_list}
use Rattle.std.specs.List.{AllByRecursion}
use Rattle.brk_model.specs.Keys.{KeyPart, rows_sorted_by_key, is_key_less, is_row_key_less}
use Rattle.brk_audit_theorems.proofs.Climbs.{Climbs, not_itself}
use Rattle.brk_trade_books.proofs.LotReading.{all_pass}
use Rattle.brk_trade_books.proofs.Order.{NoneBefore, Sorted, by_key-filter, key_one_way, sort_sorted}

-- a key does not go before itself
not_before_itself : (j k : List KeyPart) (b : Bool) → is_key_less j k ≡ b → j ≡ k → is_key_less j k ≡ false
not_before_itself j k false e f = e
not_before_itself j k true e f = absurd (let g : true ≡ false = sym e ∙ (λ i. is_key_less (f i) (sym f i)) ∙ key_one_way j k e in cc)

one_key_sorted : {Row : Type 0} (key : Row → List KeyPart) (k : List KeyPart) (rows : List Row) → AllByRecursion (λ r. key r ≡ k) rows → Sorted (is_row_key_less key) rows
one_key_sorted key k [] h = tt
one_key_sorted key k (r ∷ rows) h = (none r rows h.0 h.1, one_key_sorted key k rows h.1)
  where
    none : (r : _) (rows : List _) → key r ≡ k → AllByRecursion (λ r. key r ≡ k) rows → NoneBefore (is_row_key_less key) r rows
    none r [] e h = tt
    none r (q ∷ rows) e h = (not_before_itself (key q) (key r) (is_key_less (key q) (key r)) refl (h.0 ∙ sym e), none r rows e h.1)

each_of : {X : Type 0} (P Q : X → Type 0) (xs : List X) → ((x : X) → P x → Q x) → AllByRecursion P xs → AllByRecursion Q xs
each_of P Q [] f h = tt
each_of P Q (x ∷ xs) f h = (f x h.0, each_of P Q xs f h.1)

-- the rows of one key, whatever order all stand in
pub rows_of_key : {Row : Type 0} (key : Row → List KeyPart) (p : Row → Bool) (k : List KeyPart) (rows : List Row) → ((r : Row) → p r ≡ true → key r ≡ k)
    → filter p (rows_sorted_by_key key rows) ≡ filter p rows
rows_of_key key p k rows h =
    sym (by_key-filter key p rows)
    ∙ sort_sorted (is_row_key_less key) (filter p rows)
    (one_key_sorted key k (filter p rows) (each_of (λ r. p r ≡ true) (λ r. key r ≡ k) (filter p rows) h (all_pass p rows)))

-- ---- at most one row

-- none of the others passes with one that does
abbrev pub Alone : {X : Type 0} → (X → Bool) → List X → Type 0
Alone p [] = ⊤
Alone p (x ∷ xs) = (p x ≡ true → AllByRecursion (λ y. p y ≡ false) xs) × Alone p xs

none_left : {X : Type 0} (p : X → Bool) (xs : List X) → AllByRecursion (λ y. p y ≡ false) xs → filter p xs ≡ []
none_left p [] h = refl
none_left p (x ∷ xs) h = ap (λ b. cond b (x ∷ filter p xs) (filter p xs)) h.0 ∙ none_left p xs h.1

same_some : {X : Type 0} (x y : X) → Some x ≡ Some y → x ≡ y
same_some x y e = cc

-- the row that is found is the only one
pub found_alone : {X : Type 0} (p : X → Bool) (xs : List X) (x : X) → Alone p xs → Some x ≡ find p xs → filter p xs ≡ x ∷ []
found_alone p [] x h e = absurd (cc)
found_alone p (y ∷ xs) x h e = by_test (found_alone p xs x h.1) (p y) refl e
  where
    by_test : (Some x ≡ find p xs → filter p xs ≡ x ∷ []) → (b : Bool) → p y ≡ b → Some x ≡ cond b (Some y) (find p xs) → cond b (y ∷ filter p xs) (filter p xs) ≡ x ∷ []
    by_test ih true f e = ap (λ zs. y ∷ zs) (none_left p xs (h.0 f)) ∙ ap (λ z. z ∷ []) (sym (same_some x y e))
    by_test ih false f e = ih e

-- and where none is found there is none
pub none_alone : {X : Type 0} (p : X → Bool) (xs : List X) → None ≡ find p xs → filter p xs ≡ []
none_alone p [] e = refl
none_alone p (y ∷ xs) e = by_test (none_alone p xs) (p y) e
  where
    by_test : (None ≡ find p xs → filter p xs ≡ []) → (b : Bool) → None ≡ cond b (Some y) (find p xs) → cond b (y ∷ filter p xs) (filter p xs) ≡ []
    by_test ih true e = absurd (cc)
    by_test ih false e = ih e

-- ---- rows by their keys

-- of rows whose keys rise no two have one key
pub climbs_alone : {Row : Type 0} (key : Row → List KeyPart) (p : Row → Bool) (k : List KeyPart) (rows : List Row) → ((r : Row) → p r ≡ true → key r ≡ k) → Climbs key rows → Alone p rows
climbs_alone key p k [] h c = tt
climbs_alone {Row = Row} key p k (r ∷ rows) h c = (λ e. others rows e c.0, climbs_alone key p k rows h c.1)
  where
    other : (q : Row) → p r ≡ true → is_key_less (key r) (key q) ≡ true → (b : Bool) → p q ≡ b → p q ≡ false
    other q e f false g = g
    other q e f true g = absurd (not_itself (key r) (key q) (h r e ∙ sym (h q g)) f)

    others : (qs : List Row) → p r ≡ true → AllByRecursion (λ q. is_key_less (key r) (key q) ≡ true) qs → AllByRecursion (λ q. p q ≡ false) qs
    others [] e f = tt
    others (q ∷ qs) e f = (other q e f.0 (p q) refl, others qs e f.1)

-- what is found by its key is all that there is of it
pub found_is_all : {Row : Type 0} (key : Row → List KeyPart) (p : Row → Bool) (k : List KeyPart) (rows : List Row) → ((r : Row) → p r ≡ true → key r ≡ k) → Climbs key rows
    → option_to_list (find p rows) ≡ filter p rows
found_is_all {Row = Row} key p k rows h c = by_case (find p rows) refl
  where
    alone : Alone p rows
    alone = climbs_alone key p k rows h c

    by_case : (o : Option Row) → find p rows ≡ o → option_to_list (find p rows) ≡ filter p rows
    by_case None e = ap option_to_list e ∙ sym (none_alone p rows (sym e))
    by_case (Some x) e = ap option_to_list e ∙ sym (found_alone p rows x alone (sym e))
