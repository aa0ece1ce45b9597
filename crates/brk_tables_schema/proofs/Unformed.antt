-- A column that cannot be read is malformed.
use Rattle.std.proofs.Common.{◌≡◌, ◌<◌, ℕ, zero, suc, List, [], ◌∷◌, length, get_or, Bool, true, false, Some, slice_get, refl, sym, ap, ◌∙◌, arith}
use Rattle.std.specs.Prelude.{◌&&◌}
use Rattle.std.specs.Prelude.{Result, Ok, Err, IsErrAnd}
use Rattle.std.specs.Str.{IsUtf8, is_utf8}
use Rattle.std.proofs.lemmas.Str.{IsUtf8-from_is_utf8, is_utf8-from_IsUtf8}
use Rattle.std.specs.List.{list_all}
use Rattle.std.proofs.lemmas.List.Folds.{list_all_at}
use Rattle.sqlite_value.specs.declared.value.Value.{Value}
use Rattle.sqlite_value.specs.declared.value.Value.TheVariants.{Null, Int, Real, Text as Words, Blob}
use Rattle.sqlite_value.specs.Order.{Row, column}
use Rattle.brk_tables_schema.specs.declared.decode_error.DecodeError.{DecodeError}
use Rattle.brk_tables_schema.specs.declared.decode_error.DecodeError.TheVariants.{Form}
use Rattle.brk_tables_schema.specs.Formed.{is_text_cell, passes_all_cell_checks}

-- a form that nothing has
unformed : (b : Bool) → (b ≡ true → ⊥) → b ≡ false
unformed true never = absurd (never refl)
unformed false never = refl

pub not_words : (v : Value) (form : List ℕ → Bool) → ((s : List ℕ) → v ≡ Words s → form s ≡ true → ⊥) → is_text_cell form v ≡ false
not_words (Int n) form never = refl
not_words Null form never = refl
not_words (Real x) form never = refl
not_words (Words s) form never = unformed _ (never s refl)
not_words (Blob b) form never = refl

-- ---- a row

past : (b : Bool) → b && false ≡ false
past true = refl
past false = refl

-- one column has no form
pub no_form_at : (forms : List (Value → Bool)) (row : Row) (k : ℕ) (form : Value → Bool) → slice_get forms k ≡ Some form
    → (k < length row → form (column row k) ≡ false) → passes_all_cell_checks forms row ≡ false
no_form_at [] row k form is never = absurd (let e = is in cc)
no_form_at (f ∷ forms) [] k form is never = refl
no_form_at (f ∷ forms) (v ∷ row) zero form is never = let e : f ≡ form = cc in rw (e, never (omega arith)) refl
no_form_at (f ∷ forms) (v ∷ row) (suc k) form is never = rw (no_form_at forms row k form is (λ lt. never (omega (arith, lt)))) (past (f v))

-- there are too many columns or too few
pub wrong_length : (forms : List (Value → Bool)) (row : Row) → (length row ≡ length forms → ⊥) → passes_all_cell_checks forms row ≡ false
wrong_length [] [] never = absurd (never refl)
wrong_length [] (v ∷ row) never = refl
wrong_length (f ∷ forms) [] never = refl
wrong_length (f ∷ forms) (v ∷ row) never = rw (wrong_length forms row (λ e. never (ap suc e))) (past (f v))

-- ---- texts

pub no_text : (v : Value) → (((t : List ℕ) × (v ≡ Words t) × IsUtf8 t) → ⊥) → is_text_cell is_utf8 v ≡ false
no_text v never = not_words v is_utf8 (λ s e f. never (s, e, IsUtf8-from_is_utf8 s f))

pub no_formed_text : (form : List ℕ → Bool) → ((s : List ℕ) → form s ≡ true → IsUtf8 s) → (v : Value) → is_text_cell is_utf8 v ≡ false → is_text_cell form v ≡ false
no_formed_text form utf8 v none =
    not_words v form (λ s e f. let k : is_utf8 s ≡ true = is_utf8-from_IsUtf8 s (utf8 s f) in let other : is_utf8 s ≡ false = rw e at none in
    let clash = sym k ∙ other in cc)

-- ---- rows

pub not_all : {X : Type 0} (p : X → Bool) → (xs : List X) (i : ℕ) (d : X) → i < length xs → p (get_or xs i d) ≡ false → list_all p xs ≡ false
not_all = list_all_at

-- an error that is handed on
pub handed_on : {X Y : Type 0} (inner : Result X DecodeError) (outer : Result Y DecodeError) (decode_error : DecodeError)
    → IsErrAnd outer (λ out. out ≡ decode_error) → inner ≡ Err decode_error → outer ≡ Err Form → inner ≡ Err Form
handed_on inner (Err out) decode_error gives was is = let e : out ≡ Form = cc in was ∙ ap Err (sym gives ∙ e)
handed_on inner (Ok y) decode_error gives was is = absurd gives
