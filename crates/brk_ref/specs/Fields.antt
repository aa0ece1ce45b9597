-- The fields of a row, and the result of parsing them.
use Rattle.std.specs.Prelude.{◌≡◌, ℕ, List, map, Result, Ok, Err}
use Rattle.std.specs.Borrow.{Bor}
use Rattle.brk_money.specs.Spelling.{Text}
use Rattle.brk_money.specs.declared.refusal.Refusal.{Refusal}
use Rattle.brk_model.specs.Forms.{ReadResult}

-- The list of the bytes of each of the borrowed `fields`, in the sequence of the fields.
abbrev pub texts_of_fields : List (Bor (List ℕ)) → List Text
texts_of_fields fields = map (λ (field : Bor (List ℕ)). field.now) fields

-- A parser's result corresponds to `wanted`, the model's: at `Ok`, `wanted` is `Ok` of the model's
-- value (`view`) of the record; at `Err`, `wanted` is `Err` of the same refusal.
abbrev pub ParsesAs : {A B : Type 0} → (A → B) → Result A Refusal → ReadResult B → Type 0
ParsesAs view (Ok x) wanted = wanted ≡ Ok (view x)
ParsesAs view (Err refusal) wanted = wanted ≡ Err refusal
