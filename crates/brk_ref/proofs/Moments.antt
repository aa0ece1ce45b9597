-- Numbers of milliseconds that are stamps.
use Rattle.std.proofs.Common.{◌≡◌, ◌≤◌, ℕ, ℤ, pos, ◌≤ℤ◌, Option, Some, None, sym, ◌∙◌, arith}
use Rattle.std.specs.Prelude.{IfSome, SomeIff, option_map}
use Rattle.std.proofs.lemmas.Int.{ints}
use Rattle.brk_money.specs.Moments.{greatest_stamp}

same_number : (m n : ℕ) → pos m ≡ pos n → m ≡ n
same_number m n e = cc

pub stamp_within : (n : ℕ) (z : ℤ) (answer : Option ℕ) → z ≡ pos n → n ≤ greatest_stamp → IfSome answer (λ stamp. z ≡ pos stamp)
    → SomeIff (option_map (λ stamp. pos stamp) answer) ((pos 0 ≤ℤ z) × (z ≤ℤ pos greatest_stamp)) z → SomeIff answer ((0 ≤ n) × (n ≤ greatest_stamp)) n
stamp_within n z (Some stamp) e h found is = ((omega arith, h), same_number stamp n (sym found ∙ e))
stamp_within n z None e h found is = λ both. is (omega (arith, ints, e), omega (arith, ints, e, h))
