-- A visitor that skips the records that fail a test.
use Rattle.std.specs.Prelude.{◌≡◌, Bool, true, false}

-- If the test is true, `p` becomes `q` by taking the record `x` (`takes`); otherwise `q` is `p`.
abbrev pub VisitorTakesRecordOnlyIf : {V X : Type 0} → Bool → (V → X → V → Type 0) → V → X → V → Type 0
VisitorTakesRecordOnlyIf true takes p x q = takes p x q
VisitorTakesRecordOnlyIf false takes p x q = q ≡ p
