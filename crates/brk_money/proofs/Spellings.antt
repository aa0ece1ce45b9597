-- A text has a value if and only if it is the canonical text of the value.
use Rattle.std.proofs.Common.{◌≡◌, ◌≢◌, ◌+◌, ◌-◌, ◌*◌, ◌/◌, ◌%◌, ◌≤◌, ◌^◌, ℕ, List, [], ◌∷◌, Bool, true, false, arith, refl, sym, ap, ◌∙◌, rules, cond, ◌&&◌}
use Rattle.std.specs.Prelude.{suc, ℤ, pos, negsuc, neg_ℤ, Option, Some, None, IfSome, IfNone, fold, filter, nat_le, nat_abs, slice_index, ◌==◌}
use Rattle.std.specs.Char.{is_ascii_digit}
use Rattle.std.specs.Str.{all_ascii_digits, bytes_eq}
use Rattle.std.specs.Fmt.{decimal}
use Rattle.std.proofs.lemmas.Slice.Eq.{bytes_eq-Decides}
use Rattle.std.proofs.lemmas.Bool.{leb-true, le-leb, ne_eqb}
use Rattle.std.proofs.lemmas.List.Elements.{filter-append}
use Rattle.std.proofs.lemmas.List.Sums.{fold-append}
use Rattle.std.specs.List.{AllByRecursion}
use Rattle.brk_money.specs.Spelling.{Text, value_if_canonical, number_from_ascii_digits, decimal_number_of_text, number_within_limit, number_with_more_digits}
use Rattle.brk_money.specs.Spelling.{cents_of_text, cents_text, cents_from_ascii_digits, unsigned_cents_text, IsWithinAmountLimit, amount_within_limit}
use Rattle.brk_money.proofs.Digits.{whole_only}
use Rattle.brk_money.proofs.Plain.{plain_first}

-- of a test that passes both parts pass
parts : (a b : Bool) → a && b ≡ true → (a ≡ true) × (b ≡ true)
parts true b h = (refl, h)
parts false b h = absurd (cc)

-- nothing is left out where all pass
filter_passing : (test : ℕ → Bool) (ds : List ℕ) → AllByRecursion (λ c. test c ≡ true) ds → filter test ds ≡ ds
filter_passing test [] all = refl
filter_passing test (c ∷ ds) all = rw (all.0) (ap (λ (l : List ℕ). c ∷ l) (filter_passing test ds all.1))

each_digit : (ds : List ℕ) → all_ascii_digits ds ≡ true → AllByRecursion (λ c. is_ascii_digit c ≡ true) ds
each_digit [] p = tt
each_digit (c ∷ ds) p = let both = parts (is_ascii_digit c) (all_ascii_digits ds) p in (both.0, each_digit ds both.1)

-- digits read as one by one
digits_fold : (n : ℕ) (ds : List ℕ) → fold (λ n c. 10 * n + (c - 48)) n ds ≡ number_with_more_digits n ds
digits_fold n [] = refl
digits_fold n (c ∷ ds) =
    ap (λ (k : ℕ). fold (λ n c. 10 * n + (c - 48)) k ds) (step n c) ∙ digits_fold (n * 10 + (c - 48)) ds
  where
    step : (n c : ℕ) → 10 * n + (c - 48) ≡ n * 10 + (c - 48)
    step n c = omega arith

-- the value of a number's digits
digits_value-decimal : (n : ℕ) → n ≤ 10 ^ 17 → number_from_ascii_digits (decimal n) ≡ n
digits_value-decimal n h =
    let w = whole_only (decimal n) n h refl in
    ap (fold (λ n c. 10 * n + (c - 48)) 0) (filter_passing is_ascii_digit (decimal n) (each_digit (decimal n) w.digits)) ∙ digits_fold 0 (decimal n) ∙ w.reads

-- a text that spells a value is its spelling
pub spelled : {A : Type 0} (spell : A → Text) (value x : A) (text : Text) → value_if_canonical spell value text ≡ Some x → text ≡ spell x
spelled spell value x text h = with_test (bytes_eq (spell value) text) refl h
  where
    with_test : (b : Bool) → bytes_eq (spell value) text ≡ b → cond b (Some value) None ≡ Some x → text ≡ spell x
    with_test true e s = sym ((bytes_eq-Decides (spell value) text).0 e) ∙ ap spell (let v : value ≡ x = cc in v)
    with_test false e s = absurd (cc)

-- the spelling of a value spells it
pub spells : {A : Type 0} (spell : A → Text) (value x : A) (text : Text) → value ≡ x → text ≡ spell x → value_if_canonical spell value text ≡ Some x
spells spell value x text v e =
    let same : bytes_eq (spell value) text ≡ true = (bytes_eq-Decides (spell value) text).1 (ap spell v ∙ sym e) in
    rw same (ap Some v)

pub number_of-decimal : (text : Text) (n : ℕ) → n ≤ 10 ^ 17 → text ≡ decimal n → decimal_number_of_text text ≡ Some n
number_of-decimal text n h e = spells decimal (number_from_ascii_digits text) n text (ap number_from_ascii_digits e ∙ digits_value-decimal n h) e

-- what is found of a number up to a limit
pub at_most_found : (text : Text) (n limit : ℕ) → limit ≤ 10 ^ 17 → n ≤ limit → text ≡ decimal n → Some n ≡ number_within_limit limit (decimal_number_of_text text)
at_most_found text n limit small h e =
    let low : nat_le n limit ≡ true = le-leb n limit h in
    sym (rw (number_of-decimal text n (omega arith) e, low) refl)

at_most_by : (limit : ℕ) (o : Option ℕ) → ((n : ℕ) → n ≤ limit → o ≡ Some n → ⊥) → None ≡ number_within_limit limit o
at_most_by limit None h = refl
at_most_by limit (Some n) h = with_test (nat_le n limit) refl
  where
    with_test : (b : Bool) → nat_le n limit ≡ b → None ≡ cond b (Some n) None
    with_test true e = absurd (h n (leb-true n limit e) refl)
    with_test false e = refl

pub at_most_none : (text : Text) (limit : ℕ) → ((n : ℕ) → n ≤ limit → text ≢ decimal n) → None ≡ number_within_limit limit (decimal_number_of_text text)
at_most_none text limit h = at_most_by limit (decimal_number_of_text text) (λ n low e. h n low (spelled decimal (number_from_ascii_digits text) n text e))

-- one digit more
pub digit_kept : (k : ℕ) (ds : List ℕ) → k ≤ 9 → filter is_ascii_digit ((48 + k) ∷ ds) ≡ (48 + k) ∷ filter is_ascii_digit ds
digit_kept k ds h = first is_ascii_digit (48 + k) ds (search rules)
  where
    first : (test : ℕ → Bool) (c : ℕ) (ds : List ℕ) → test c ≡ true → filter test (c ∷ ds) ≡ c ∷ filter test ds
    first test c ds e = rw e refl

-- the value of an amount's digits
digits_value-magnitude : (n : ℕ) → n ≤ 10 ^ 17 → number_from_ascii_digits (unsigned_cents_text n) ≡ n
digits_value-magnitude n h =
    let whole = decimal (n / 100) in
    let kept = filter-append is_ascii_digit whole (46 ∷ (48 + n % 100 / 10) ∷ (48 + n % 10) ∷ []) in
    let tail : filter is_ascii_digit (46 ∷ (48 + n % 100 / 10) ∷ (48 + n % 10) ∷ []) ≡ (48 + n % 100 / 10) ∷ (48 + n % 10) ∷ [] =
    digit_kept (n % 100 / 10) ((48 + n % 10) ∷ []) (omega arith) ∙ ap (λ (l : List ℕ). (48 + n % 100 / 10) ∷ l) (digit_kept (n % 10) [] (omega arith)) in
    let front = digits_value-decimal (n / 100) (omega arith) in
    ap (fold (λ n c. 10 * n + (c - 48)) 0) kept
    ∙ fold-append (λ n c. 10 * n + (c - 48)) 0 (filter is_ascii_digit whole) (filter is_ascii_digit (46 ∷ (48 + n % 100 / 10) ∷ (48 + n % 10) ∷ []))
    ∙ ap (fold (λ n c. 10 * n + (c - 48)) (number_from_ascii_digits whole)) tail
    ∙ ap (λ (v : ℕ). 10 * (10 * v + (48 + n % 100 / 10 - 48)) + (48 + n % 10 - 48)) front
    ∙ last n
  where
    last : (n : ℕ) → 10 * (10 * (n / 100) + (48 + n % 100 / 10 - 48)) + (48 + n % 10 - 48) ≡ n
    last n = omega arith

-- the first byte decides the sign
cents_value-text : (z : ℤ) → IsWithinAmountLimit z → cents_from_ascii_digits (cents_text z) ≡ z
cents_value-text (pos n) h =
    let first = plain_first n h in
    let unsigned : (slice_index (unsigned_cents_text n) 0 == 45) ≡ false = ne_eqb _ _ (λ e. omega arith) in
    rw unsigned (ap pos (digits_value-magnitude n h))
cents_value-text (negsuc n) h = ap (λ (v : ℕ). neg_ℤ (pos v)) (digits_value-magnitude (suc n) h)

pub cents_of-text : (text : Text) (z : ℤ) → IsWithinAmountLimit z → text ≡ cents_text z → cents_of_text text ≡ Some z
cents_of-text text z h e = spells cents_text (cents_from_ascii_digits text) z text (ap cents_from_ascii_digits e ∙ cents_value-text z h) e

within_size : (z : ℤ) → IsWithinAmountLimit z → nat_le (nat_abs z) (10 ^ 17) ≡ true
within_size (pos n) h = le-leb n (10 ^ 17) h
within_size (negsuc n) h = le-leb (suc n) (10 ^ 17) h

size_within : (z : ℤ) → nat_le (nat_abs z) (10 ^ 17) ≡ true → IsWithinAmountLimit z
size_within (pos n) h = leb-true n (10 ^ 17) h
size_within (negsuc n) h = leb-true (suc n) (10 ^ 17) h

pub within_found : (text : Text) (z : ℤ) → IsWithinAmountLimit z → text ≡ cents_text z → Some z ≡ amount_within_limit (cents_of_text text)
within_found text z h e = sym (rw (cents_of-text text z h e, within_size z h) refl)

within_by : (o : Option ℤ) → ((z : ℤ) → IsWithinAmountLimit z → o ≡ Some z → ⊥) → None ≡ amount_within_limit o
within_by None h = refl
within_by (Some z) h = with_test (nat_le (nat_abs z) (10 ^ 17)) refl
  where
    with_test : (b : Bool) → nat_le (nat_abs z) (10 ^ 17) ≡ b → None ≡ cond b (Some z) None
    with_test true e = absurd (h z (size_within z e) refl)
    with_test false e = refl

pub within_none : (text : Text) → ((z : ℤ) → IsWithinAmountLimit z → text ≢ cents_text z) → None ≡ amount_within_limit (cents_of_text text)
within_none text h = within_by (cents_of_text text) (λ z w e. h z w (spelled cents_text (cents_from_ascii_digits text) z text e))

-- what a reader of numbers up to a limit answers
pub number_read : (text : Text) (limit : ℕ) (o : Option ℕ) → limit ≤ 10 ^ 17 → IfSome o (λ n. (n ≤ limit) × (text ≡ decimal n))
    → IfNone o ((n : ℕ) → n ≤ limit → text ≢ decimal n) → o ≡ number_within_limit limit (decimal_number_of_text text)
number_read text limit (Some n) small found none = at_most_found text n limit small found.0 found.1
number_read text limit None small found none = at_most_none text limit none

-- what a reader of amounts answers
pub cents_read : (text : Text) (o : Option ℤ) → IfSome o (λ z. IsWithinAmountLimit z × (text ≡ cents_text z))
    → IfNone o ((z : ℤ) → IsWithinAmountLimit z → text ≢ cents_text z) → o ≡ amount_within_limit (cents_of_text text)
cents_read text (Some z) found none = within_found text z found.0 found.1
cents_read text None found none = within_none text none
