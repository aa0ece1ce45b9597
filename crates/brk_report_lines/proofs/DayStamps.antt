-- The stamps from the first of one day to the last of another.
use Rattle.std.proofs.Common.{◌≡◌, ℕ, ◌+◌, ◌*◌, ◌/◌, ◌≤◌, ◌&&◌, arith}
use Rattle.std.specs.Prelude.{nat_le}
use Rattle.std.specs.Cmp.{both_ways}
use Rattle.std.proofs.lemmas.Bool.{le-leb, leb-true}
use Rattle.brk_money.specs.Moments.{day_of}

le_same : (a b c d : ℕ) → (a ≤ b → c ≤ d) → (c ≤ d → a ≤ b) → nat_le a b ≡ nat_le c d
le_same a b c d f g = both_ways (nat_le a b) (nat_le c d) (λ h. le-leb c d (f (leb-true a b h))) (λ h. le-leb a b (g (leb-true c d h)))

from_day : (from stamp : ℕ) → nat_le (from * 86400000) stamp ≡ nat_le from (day_of stamp)
from_day from stamp = le_same (from * 86400000) stamp from (stamp / 86400000) (λ h. omega (arith, h)) (λ h. omega (arith, h))

to_day : (to stamp : ℕ) → nat_le stamp (to * 86400000 + 86399999) ≡ nat_le (day_of stamp) to
to_day to stamp = le_same stamp (to * 86400000 + 86399999) (stamp / 86400000) to (λ h. omega (arith, h)) (λ h. omega (arith, h))

-- from the first stamp of a day to the last of another
pub within_days : (from to stamp : ℕ) → (nat_le (from * 86400000) stamp && nat_le stamp (to * 86400000 + 86399999)) ≡ (nat_le from (day_of stamp) && nat_le (day_of stamp) to)
within_days from to stamp = λ i. from_day from stamp i && to_day to stamp i
