-- The checks that an accepted command has passed.
use Rattle.std.proofs.Common.{◌≡◌, ◌≤◌, ℕ, Bool, true, false, not, List, [], ◌∷◌, ◌++◌, refl, Some, None}
use Rattle.std.specs.List.{AllByRecursion}
use Rattle.std.proofs.lemmas.Bool.{ltb-false}
use Rattle.brk_money.specs.Moments.{greatest_stamp}
use Rattle.brk_model.specs.Base.{Base}
use Rattle.brk_model.specs.Commands.{Command}
use Rattle.brk_model.specs.Tests.{RefusalCheck, checks_of_command, refusal_of_command, first_refusal, stamp_of_next_command, is_one_day_settlement_start_too_early, checks_of_stamp}

pub none_refuse : (ts : List RefusalCheck) → first_refusal ts ≡ None → AllByRecursion (λ t. t.0 ≡ false) ts
none_refuse [] e = tt
none_refuse (t ∷ ts) e = by_test (none_refuse ts) t.0 refl
  where
    by_test : (first_refusal ts ≡ None → AllByRecursion (λ t. t.0 ≡ false) ts) → (b : Bool) → t.0 ≡ b → AllByRecursion (λ t. t.0 ≡ false) (t ∷ ts)
    by_test ih true f = let k : Some t.1 ≡ None = rw f at e in absurd (cc)
    by_test ih false f = (f, ih (rw f at e))

pub All-front : {X : Type 0} (P : X → Type 0) (xs ys : List X) → AllByRecursion P (xs ++ ys) → AllByRecursion P xs
All-front P [] ys h = tt
All-front P (x ∷ xs) ys h = (h.0, All-front P xs ys h.1)

pub All-back : {X : Type 0} (P : X → Type 0) (xs ys : List X) → AllByRecursion P (xs ++ ys) → AllByRecursion P ys
All-back P [] ys h = h
All-back P (x ∷ xs) ys h = All-back P xs ys h.1

-- none of its tests found anything wrong
pub passed : (base : Base) (now : ℕ) (command : Command) → refusal_of_command base now command ≡ None
    → AllByRecursion (λ t. t.0 ≡ false) (checks_of_command base (stamp_of_next_command base now) command)
unfolding refusal_of_command
passed base now command e = All-front _ (checks_of_command base (stamp_of_next_command base now) command) _ (none_refuse _ e)

-- and its stamp is no later than the last one that there is
pub in_time : (base : Base) (now : ℕ) (command : Command) → refusal_of_command base now command ≡ None → stamp_of_next_command base now ≤ greatest_stamp
unfolding refusal_of_command
in_time base now command e =
    ltb-false greatest_stamp (stamp_of_next_command base now)
    (All-back (λ t. t.0 ≡ false) (checks_of_command base (stamp_of_next_command base now) command) (checks_of_stamp (stamp_of_next_command base now) command) (none_refuse _ e)).0

-- nor is it too early for the day that it sets
pub not_too_early : (base : Base) (now : ℕ) (command : Command) → refusal_of_command base now command ≡ None → is_one_day_settlement_start_too_early (stamp_of_next_command base now) command ≡ false
unfolding refusal_of_command
not_too_early base now command e =
    (All-back (λ t. t.0 ≡ false) (checks_of_command base (stamp_of_next_command base now) command) (checks_of_stamp (stamp_of_next_command base now) command) (none_refuse _ e)).1.0

pub not_not : (b : Bool) → not b ≡ false → b ≡ true
not_not true e = refl
not_not false e = cc
