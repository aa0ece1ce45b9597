-- The printed text of an amount: its sign, its whole units and its two digits.
use Rattle.std.proofs.Common.{rules, ◌≡◌, ◌/◌, ◌%◌, ◌++◌, ℕ, true, false, [], ◌∷◌, arith, refl}
use Rattle.std.specs.Prelude.{suc, ℤ, pos, negsuc, nat_abs}
use Rattle.std.specs.Fmt.{decimal}
use Rattle.std.proofs.lemmas.Fmt.{decimal_digit}
use Rattle.brk_money.specs.Spelling.{Text, unsigned_cents_text, cents_text}
use Rattle.std.specs.Int.Signed.{lt_z}

-- The text of `n` cents without a sign, in the parts that are formatted.
abbrev pub parts : ℕ → Text
parts n = decimal (n / 100) ++ 46 ∷ (decimal (n % 100 / 10) ++ decimal (n % 10))

magnitude_printed : (n : ℕ) → parts n ≡ unsigned_cents_text n
magnitude_printed n = rw (decimal_digit (n % 100 / 10) (omega arith), decimal_digit (n % 10) (omega arith)) refl

pub printed_below : (y z : ℤ) (n : ℕ) (sign : Text) → y ≡ z → n ≡ nat_abs y → lt_z y (pos 0) ≡ true → sign ≡ 45 ∷ [] → sign ++ parts n ≡ cents_text z
printed_below (pos m) z n sign e a below s = absurd (search (rules, below))
printed_below (negsuc m) z n sign e a below s = rw (← e, a, s, magnitude_printed (suc m)) refl

pub printed_from_zero : (y z : ℤ) (n : ℕ) (sign : Text) → y ≡ z → n ≡ nat_abs y → lt_z y (pos 0) ≡ false → sign ≡ [] → sign ++ parts n ≡ cents_text z
printed_from_zero (pos m) z n sign e a below s = rw (← e, a, s, magnitude_printed m) refl
printed_from_zero (negsuc m) z n sign e a below s = absurd (search (rules, below))
