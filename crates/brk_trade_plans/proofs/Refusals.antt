-- The first refusal of two lists of checks, one after the other.
use Rattle.std.proofs.Common.{◌≡◌, Bool, true, false, List, [], ◌∷◌, ◌++◌, refl, Option, Some, None}
use Rattle.brk_money.specs.declared.refusal.Limit.TheVariants as limit
use Rattle.brk_money.specs.declared.refusal.Refusal.{Refusal}
use Rattle.brk_money.specs.declared.refusal.Refusal.TheVariants.{NoSecurity, Range, ClockEnd}
use Rattle.brk_model.specs.Tests.{RefusalCheck, first_refusal}

-- the first of two refusals, where there is one
abbrev pub first_of : Option Refusal → Option Refusal → Option Refusal
first_of None later = later
first_of (Some refusal) later = Some refusal

-- the first refusal of tests and more tests is that of the first ones, or else that of the others
pub first_joined : (ts us : List RefusalCheck) → first_refusal (ts ++ us) ≡ first_of (first_refusal ts) (first_refusal us)
first_joined [] us = refl
first_joined (t ∷ ts) us = by_test (first_joined ts us) t.0 refl
  where
    by_test : first_refusal (ts ++ us) ≡ first_of (first_refusal ts) (first_refusal us) → (b : Bool) → t.0 ≡ b
        → first_refusal (t ∷ ts ++ us) ≡ first_of (first_refusal (t ∷ ts)) (first_refusal us)
    by_test more true f = rw f refl
    by_test more false f = rw f more

-- of a feed whose symbols are there, a volume is refused, or else the clock
pub volume_refused : (unknown beyond : Bool) (clock : RefusalCheck) → unknown ≡ false → beyond ≡ true
    → first_refusal ((unknown, NoSecurity) ∷ (beyond, Range limit.Volume) ∷ clock ∷ []) ≡ Some (Range limit.Volume)
volume_refused unknown beyond clock e f = rw (e, f) refl

pub clock_refused : (unknown beyond ended : Bool) → unknown ≡ false → beyond ≡ false → ended ≡ true
    → first_refusal ((unknown, NoSecurity) ∷ (beyond, Range limit.Volume) ∷ (ended, ClockEnd) ∷ []) ≡ Some ClockEnd
clock_refused unknown beyond ended e f g = rw (e, f, g) refl
