-- A next stamp exists exactly if it does not exceed the greatest stamp.
use Rattle.std.proofs.Common.{◌≡◌, ◌≤◌, ℕ, ◌+◌, ◌==◌, Bool, true, false, cond, Option, Some, None, max, refl, sym, ◌∙◌, ap, arith}
use Rattle.std.specs.Prelude.{IfSome, is_none, nat_lt}
use Rattle.std.proofs.lemmas.Bool.Decides.{nat_tests}
use Rattle.brk_money.specs.Moments.{greatest_stamp, stamp_after, unlimited_stamp_after}

within : (m : ℕ) → m ≤ greatest_stamp → false ≡ nat_lt greatest_stamp m
within m h = grind (arith, nat_tests)

past_greatest : (l now : ℕ) → (l == greatest_stamp) ≡ true → true ≡ nat_lt greatest_stamp (max now (l + 1))
past_greatest l now e = grind (arith, nat_tests)

below_greatest : (l now : ℕ) → l ≤ greatest_stamp → now ≤ greatest_stamp → (l == greatest_stamp) ≡ false → max now (l + 1) ≤ greatest_stamp
below_greatest l now g h e = grind (arith, nat_tests)

pub stamp_left : (last : Option ℕ) (now : ℕ) → IfSome last (λ l. l ≤ greatest_stamp) → now ≤ greatest_stamp → is_none (stamp_after last now) ≡ nat_lt greatest_stamp (unlimited_stamp_after last now)
stamp_left None now g h = within now h
stamp_left (Some l) now g h = by_test (l == greatest_stamp) refl
  where
    by_test : (b : Bool) → (l == greatest_stamp) ≡ b → is_none (cond (l == greatest_stamp) None (Some (max now (l + 1)))) ≡ nat_lt greatest_stamp (max now (l + 1))
    by_test true e = ap (λ b. is_none (cond b None (Some (max now (l + 1))))) e ∙ past_greatest l now e
    by_test false e = ap (λ b. is_none (cond b None (Some (max now (l + 1))))) e ∙ within (max now (l + 1)) (below_greatest l now g h e)

pub stamp_is : (last : Option ℕ) (now stamp : ℕ) → stamp_after last now ≡ Some stamp → stamp ≡ unlimited_stamp_after last now
stamp_is None now stamp e = cc
stamp_is (Some l) now stamp e = by_test (l == greatest_stamp) refl
  where
    by_test : (b : Bool) → (l == greatest_stamp) ≡ b → stamp ≡ max now (l + 1)
    by_test true f = let k : None ≡ Some stamp = sym (ap (λ b. cond b None (Some (max now (l + 1)))) f) ∙ e in absurd (cc)
    by_test false f = let k : Some (max now (l + 1)) ≡ Some stamp = sym (ap (λ b. cond b None (Some (max now (l + 1)))) f) ∙ e in cc
