-- Numbers that are read from digits, and the digits that `decimal` writes.
use Rattle.std.proofs.Common.{◌≡◌, ◌+◌, ◌-◌, ◌*◌, ◌<◌, ◌≤◌, ◌^◌, ℕ, List, [], ◌∷◌, arith, true, sym, ap, rules, get_or, length}
use Rattle.std.specs.Prelude.{suc, zero}
use Rattle.std.specs.Str.{all_ascii_digits}
use Rattle.std.specs.Fmt.{decimal}
use Rattle.std.proofs.lemmas.Str.Parse.{IsNumeralModel, numerals_by_fold}
use Rattle.std.proofs.lemmas.Fmt.{decimal-digits_value, decimal_digit, decimal_nonempty, digits_decimal, digits_value-decimal, first_decimal}
use Rattle.brk_money.specs.Spelling.{number_with_more_digits}

-- more digits never make the number less
pub read_on_le : (n : ℕ) (cs : List ℕ) → n ≤ number_with_more_digits n cs
read_on_le n [] = omega arith
read_on_le n (c ∷ cs) = let more = read_on_le (n * 10 + (c - 48)) cs in omega arith

-- `number_with_more_digits` from 0 is the value of digits
own : IsNumeralModel (λ ds. all_ascii_digits ds ≡ true) (number_with_more_digits 0)
own = numerals_by_fold _ (search rules) number_with_more_digits (search rules)

-- digits with no needless zero in front are what their number is written as
pub whole_found : (bs : List ℕ) → all_ascii_digits bs ≡ true → number_with_more_digits 0 bs ≤ 10 ^ 17 → 0 < length bs → (get_or bs 0 0 ≡ 48 → length bs ≡ 1)
    → bs ≡ decimal (number_with_more_digits 0 bs)
whole_found bs p small some first = sym (decimal-digits_value own bs p some first (omega arith))

-- The bytes `bs` are one or more decimal digits, without a leading zero unless there is only one,
-- and `n` is their number.
pub record IsWhole (bs : List ℕ) (n : ℕ) : Type 0 where
  pub digits : all_ascii_digits bs ≡ true
  pub reads : number_with_more_digits 0 bs ≡ n
  pub some : 0 < length bs
  pub first : get_or bs 0 0 ≡ 48 → length bs ≡ 1

decimal_first : (n : ℕ) → n ≤ 10 ^ 17 → get_or (decimal n) 0 0 ≡ 48 → length (decimal n) ≡ 1
decimal_first zero h e = ap length (decimal_digit 0 (omega arith))
decimal_first (suc n) h e = absurd (omega (arith, first_decimal (suc n) (omega arith) (omega arith)))

pub whole_only : (bs : List ℕ) (n : ℕ) → n ≤ 10 ^ 17 → bs ≡ decimal n → IsWhole bs n
whole_only bs n h e = rw e (record {
  digits = digits_decimal own n (omega arith);
  reads = digits_value-decimal own n (omega arith);
  some = decimal_nonempty n (omega arith);
  first = decimal_first n h;
})
