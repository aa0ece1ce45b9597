-- The text of fields that are appended to other fields.
use Rattle.std.specs.Prelude.{ℕ, List, ◌∷◌, flat_map}
use Rattle.brk_money.specs.Spelling.{Text}

-- The bytes of `fields`, in sequence, each with the byte `separator` before it.
abbrev pub fields_after_separators : ℕ → List Text → Text
fields_after_separators separator fields = flat_map (λ field. separator ∷ field) fields
