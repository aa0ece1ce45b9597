-- A conjunction of tests fails if one of them fails.
use Rattle.std.proofs.Common.{◌≡◌, Bool, true, false, refl}
use Rattle.std.specs.Prelude.{◌&&◌}

pub first_fails : (a b : Bool) → a ≡ false → a && b ≡ false
first_fails a b h = rw h refl

pub last_fails : (a b : Bool) → b ≡ false → a && b ≡ false
last_fails true b h = h
last_fails false b h = refl
