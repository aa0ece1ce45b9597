-- Numbers that are read within a lower and an upper limit.
use Rattle.std.proofs.Common.{◌≡◌, ◌≤◌, ◌≤ℤ◌, ◌<ℤ◌, ℕ, Bool, true, false, refl, ◌∙◌, ap, cond, arith, subst, ◌&&◌}
use Rattle.std.specs.Prelude.{Option, Some, None, Ok, Err, MatchOption, SomeIff, nat_le, ℤ, pos, negsuc, nat_abs, ◌^◌}
use Rattle.std.specs.Option.{ok_or, option_and_then}
use Rattle.std.proofs.lemmas.Int.{ints}
use Rattle.std.proofs.lemmas.Bool.{leb-true, leb-false, le-leb, ne_eqb}
use Rattle.brk_money.specs.Spelling.{Text, IsWithinAmountLimit, number_within_limit, amount_within_limit, cents_of_text}
use Rattle.brk_money.specs.declared.cents.TheConstants.Cents
use Rattle.brk_money.specs.Kinds.{tax_status_with_number}
use Rattle.brk_money.specs.declared.refusal.Refusal.{Refusal}
use Rattle.brk_money.specs.declared.refusal.Refusal.TheVariants.{BadText}
use Rattle.brk_money.specs.declared.tax_status.TaxStatus.{TaxStatus}
use Rattle.brk_model.specs.Forms.{nonnegative_amount, value_if_valid, read_opening_balance}

-- what is not within both limits fails one of the tests
fails_one : (low high n : ℕ) → ((low ≤ n) × (n ≤ high) → ⊥) → nat_le low n && nat_le n high ≡ false
fails_one low high n h = by_low (nat_le low n) refl
  where
    by_high : (c : Bool) → nat_le n high ≡ c → nat_le low n ≡ true → c ≡ false
    by_high true e l = absurd (h (leb-true low n l, leb-true n high e))
    by_high false e l = refl

    by_low : (b : Bool) → nat_le low n ≡ b → b && nat_le n high ≡ false
    by_low true e = by_high (nat_le n high) refl e
    by_low false e = refl

-- what a test of both limits answers
tested : (low high n : ℕ) (refusal : Refusal) (answer : Option ℕ) → SomeIff answer ((low ≤ n) × (n ≤ high)) n
    → ok_or answer refusal ≡ cond (nat_le low n && nat_le n high) (Ok n) (Err refusal)
tested low high n refusal (Some x) h = rw (le-leb low n h.0.0, le-leb n high h.0.1) (ap Ok h.1)
tested low high n refusal None h = rw (fails_one low high n h) refl

-- a number that was found up to some limit, tested for both
pub within_limits : (low high limit : ℕ) (refusal : Refusal) (o : Option ℕ) (found : Option ℕ) (answer : Option ℕ) → high ≤ limit → found ≡ number_within_limit limit o
    → MatchOption found (answer ≡ None) (λ n. SomeIff answer ((low ≤ n) × (n ≤ high)) n)
    → ok_or answer refusal ≡ value_if_valid (λ n. nat_le low n && nat_le n high) refusal o
within_limits low high limit refusal None found answer g e h =
    let h' = subst (λ (f : Option ℕ). MatchOption f (answer ≡ None) (λ n. SomeIff answer ((low ≤ n) × (n ≤ high)) n)) e h in
    ap (λ (a : Option ℕ). ok_or a refusal) h'
within_limits low high limit refusal (Some n) found answer g e h =
    by_limit (nat_le n limit) refl (subst (λ (f : Option ℕ). MatchOption f (answer ≡ None) (λ n. SomeIff answer ((low ≤ n) × (n ≤ high)) n)) e h)
  where
    by_limit : (b : Bool) → nat_le n limit ≡ b → MatchOption (cond b (Some n) None) (answer ≡ None) (λ n. SomeIff answer ((low ≤ n) × (n ≤ high)) n)
        → ok_or answer refusal ≡ cond (nat_le low n && nat_le n high) (Ok n) (Err refusal)
    by_limit true e s = tested low high n refusal answer s
    by_limit false e s =
        let above = leb-false n limit e in
        ap (λ (a : Option ℕ). ok_or a refusal) s ∙ rw (fails_one low high n (λ both. omega (arith, both.1, above))) refl

pub within_both : (low high : ℕ) (refusal : Refusal) (o : Option ℕ) (found : Option ℕ) (answer : Option ℕ) → found ≡ number_within_limit high o
    → MatchOption found (answer ≡ None) (λ n. SomeIff answer ((low ≤ n) × (n ≤ high)) n)
    → ok_or answer refusal ≡ value_if_valid (λ n. nat_le low n && nat_le n high) refusal o
within_both low high refusal o found answer e h = within_limits low high high refusal o found answer (omega arith) e h

-- no low limit
pub from_zero : (high n : ℕ) (answer : Option ℕ) → SomeIff answer (n ≤ high) n → SomeIff answer ((0 ≤ n) × (n ≤ high)) n
from_zero high n (Some x) h = ((omega arith, h.0), h.1)
from_zero high n None h = λ both. h both.1

pub up_to : (high : ℕ) (refusal : Refusal) (o : Option ℕ) → value_if_valid (λ n. nat_le 0 n && nat_le n high) refusal o ≡ value_if_valid (λ n. nat_le n high) refusal o
up_to high refusal None = refl
up_to high refusal (Some n) = rw (le-leb 0 n (omega arith)) refl

-- an amount that is not below 0
pub below_zero : (o : Option ℤ) (z r : ℤ) → o ≡ Some z → r ≡ z → r <ℤ pos 0 → None ≡ number_within_limit Cents.GREATEST (nonnegative_amount o)
below_zero o (pos n) r e f h = absurd (omega (arith, ints, f, h))
below_zero o (negsuc n) r e f h = rw e refl

pub from_zero_on : (o : Option ℤ) (z r : ℤ) → o ≡ Some z → r ≡ z → pos 0 ≤ℤ r → IsWithinAmountLimit z → Some (nat_abs r) ≡ number_within_limit Cents.GREATEST (nonnegative_amount o)
from_zero_on o (pos n) r e f h w = rw (e, f, le-leb n Cents.GREATEST w) refl
from_zero_on o (negsuc n) r e f h w = absurd (omega (arith, ints, f, h))

-- the tax status with a number up to 2
pub status_read : (o : Option ℕ) (found : Option ℕ) (answer : Option TaxStatus) → found ≡ number_within_limit 2 o
    → MatchOption found (answer ≡ None) (λ n. answer ≡ tax_status_with_number n) → ok_or answer BadText ≡ value_if_valid (λ _. true) BadText (option_and_then tax_status_with_number o)
status_read None found answer e h =
    ap (λ (a : Option TaxStatus). ok_or a BadText) (subst (λ (f : Option ℕ). MatchOption f (answer ≡ None) (λ n. answer ≡ tax_status_with_number n)) e h)
status_read (Some n) found answer e h =
    by_high (nat_le n 2) refl (subst (λ (f : Option ℕ). MatchOption f (answer ≡ None) (λ n. answer ≡ tax_status_with_number n)) e h)
  where
    passes : (o : Option TaxStatus) → ok_or o BadText ≡ value_if_valid (λ _. true) BadText o
    passes None = refl
    passes (Some s) = refl

    by_high : (b : Bool) → nat_le n 2 ≡ b → MatchOption (cond b (Some n) None) (answer ≡ None) (λ n. answer ≡ tax_status_with_number n)
        → ok_or answer BadText ≡ value_if_valid (λ _. true) BadText (tax_status_with_number n)
    by_high true e s = ap (λ (a : Option TaxStatus). ok_or a BadText) s ∙ passes (tax_status_with_number n)
    by_high false e s =
        let above = leb-false n 2 e in
        let zero' = ne_eqb n 0 (λ (h : n ≡ 0). omega arith) in
        let one' = ne_eqb n 1 (λ (h : n ≡ 1). omega arith) in
        let two' = ne_eqb n 2 (λ (h : n ≡ 2). omega arith) in
        ap (λ (a : Option TaxStatus). ok_or a BadText) s ∙ rw (zero', one', two') refl

-- an amount that was read
pub opening_read : (text : Text) (answer : Option ℤ) → answer ≡ amount_within_limit (cents_of_text text) → ok_or answer BadText ≡ read_opening_balance text
opening_read text answer e = ap (λ (a : Option ℤ). ok_or a BadText) e ∙ by_amount (cents_of_text text)
  where
    by_test : (z : ℤ) (b : Bool) → ok_or (cond b (Some z) None) BadText ≡ cond b (Ok z) (Err BadText)
    by_test z true = refl
    by_test z false = refl

    by_amount : (o : Option ℤ) → ok_or (amount_within_limit o) BadText ≡ value_if_valid (λ z. nat_le (nat_abs z) (10 ^ 17)) BadText o
    by_amount None = refl
    by_amount (Some z) = by_test z (nat_le (nat_abs z) (10 ^ 17))
