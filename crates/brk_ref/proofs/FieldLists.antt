-- Lists of fields of a known length.
use Rattle.std.proofs.Common.{ℕ, ◌≤◌, ◌<◌, arith, length, get_or, List, [], ◌∷◌}
use Rattle.std.specs.Borrow.{Bor}
use Rattle.brk_money.specs.Spelling.{Text}
use Rattle.brk_ref.specs.Fields.{texts_of_fields}

-- The bytes of the field at an index, and no bytes beyond the last field.
abbrev pub field_at : List (Bor Text) → ℕ → Text
field_at fields i = (get_or fields i (record { ref_ptr = (0, 0); now = [] })).now

-- what holds of two fields, which are all, holds of the texts of all
pub of_two : (P : List Text → Type 0) (fields : List (Bor Text)) → 2 ≤ length fields → length fields < 3
    → P (field_at fields 0 ∷ field_at fields 1 ∷ []) → P (texts_of_fields fields)
of_two P [] l h p = absurd (omega arith)
of_two P (a ∷ []) l h p = absurd (omega arith)
of_two P (a ∷ b ∷ []) l h p = p
of_two P (a ∷ b ∷ c ∷ rest) l h p = absurd (omega arith)

-- what holds of three fields, which are all, holds of the texts of all
pub of_three : (P : List Text → Type 0) (fields : List (Bor Text)) → 3 ≤ length fields → length fields < 4
    → P (field_at fields 0 ∷ field_at fields 1 ∷ field_at fields 2 ∷ []) → P (texts_of_fields fields)
of_three P [] l h p = absurd (omega arith)
of_three P (a ∷ []) l h p = absurd (omega arith)
of_three P (a ∷ b ∷ []) l h p = absurd (omega arith)
of_three P (a ∷ b ∷ c ∷ []) l h p = p
of_three P (a ∷ b ∷ c ∷ d ∷ rest) l h p = absurd (omega arith)

-- what holds of five fields, which are all, holds of the texts of all
pub of_five : (P : List Text → Type 0) (fields : List (Bor Text)) → 5 ≤ length fields → length fields < 6
    → P (field_at fields 0 ∷ field_at fields 1 ∷ field_at fields 2 ∷ field_at fields 3 ∷ field_at fields 4 ∷ []) → P (texts_of_fields fields)
of_five P [] l h p = absurd (omega arith)
of_five P (a ∷ []) l h p = absurd (omega arith)
of_five P (a ∷ b ∷ []) l h p = absurd (omega arith)
of_five P (a ∷ b ∷ c ∷ []) l h p = absurd (omega arith)
of_five P (a ∷ b ∷ c ∷ d ∷ []) l h p = absurd (omega arith)
of_five P (a ∷ b ∷ c ∷ d ∷ e ∷ []) l h p = p
of_five P (a ∷ b ∷ c ∷ d ∷ e ∷ f ∷ rest) l h p = absurd (omega arith)

-- what holds of six fields, which are all, holds of the texts of all
pub of_six : (P : List Text → Type 0) (fields : List (Bor Text)) → 6 ≤ length fields → length fields < 7
    → P (field_at fields 0 ∷ field_at fields 1 ∷ field_at fields 2 ∷ field_at fields 3 ∷ field_at fields 4 ∷ field_at fields 5 ∷ []) → P (texts_of_fields fields)
of_six P [] l h p = absurd (omega arith)
of_six P (a ∷ []) l h p = absurd (omega arith)
of_six P (a ∷ b ∷ []) l h p = absurd (omega arith)
of_six P (a ∷ b ∷ c ∷ []) l h p = absurd (omega arith)
of_six P (a ∷ b ∷ c ∷ d ∷ []) l h p = absurd (omega arith)
of_six P (a ∷ b ∷ c ∷ d ∷ e ∷ []) l h p = absurd (omega arith)
of_six P (a ∷ b ∷ c ∷ d ∷ e ∷ f ∷ []) l h p = p
of_six P (a ∷ b ∷ c ∷ d ∷ e ∷ f ∷ g ∷ rest) l h p = absurd (omega arith)
