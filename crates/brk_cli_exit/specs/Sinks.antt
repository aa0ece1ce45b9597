-- The bytes of a text that a sink has received.
use Rattle.std.specs.Prelude.{◌≡◌, ◌⊎◌, ℕ, List, ◌++◌, Option}
use Rattle.std.specs.Io.KnownBytes.{Appends}

-- A sink received a prefix of `text`, perhaps empty and perhaps all of it: its content grew from
-- `old` to `new` by these bytes. Vacuous if the content before is unknown.
abbrev pub ReceivesPrefix : Option (List ℕ) → Option (List ℕ) → List ℕ → Type 0
ReceivesPrefix old new text = (prefix : List ℕ) × (left : List ℕ) × Appends old new prefix × (text ≡ prefix ++ left)

-- Between the states `old` and `new` the sink received a prefix of `text`, perhaps empty or all of
-- it (vacuous if its content before is unknown), and its last step was a failure.
abbrev pub SinkFailsWithinText : {S : Type 0} → (S → Option (List ℕ)) → (S → S → Type 0) → S → S → List ℕ → Type 0
SinkFailsWithinText {S} contents fails old new text = (last : S) × fails last new × ReceivesPrefix (contents old) (contents new) text

-- The sink received all of `text` between the states `old` and `new`, or it received a prefix of
-- `text`, perhaps empty or all of it, and then failed. Vacuous if its content before is unknown.
abbrev pub ReceivesTextOrFails : {S : Type 0} → (S → Option (List ℕ)) → (S → S → Type 0) → S → S → List ℕ → Type 0
ReceivesTextOrFails contents fails old new text = Appends (contents old) (contents new) text ⊎ SinkFailsWithinText contents fails old new text
