-- The results of parsing, as the model expresses them.
use Rattle.std.specs.Prelude.{List, ◌++◌, Result, Ok, Err}
use Rattle.brk_money.specs.declared.refusal.Refusal.{Refusal}
use Rattle.brk_model.specs.Forms.{ReadResult, ◌⊛◌}

-- The result of a parser in the model's values: `view` of the parsed record, or the refusal.
abbrev pub abstract_parse_result : {A B : Type 0} → (A → B) → Result A Refusal → ReadResult B
abstract_parse_result view (Ok x) = Ok (view x)
abstract_parse_result view (Err refusal) = Err refusal

-- The parsed list `front`, then `last`. If one of the two is a refusal, this refusal; if both are,
-- the refusal of the earlier format check, or of `front` if neither is earlier.
abbrev pub appended_parse_results : {X : Type 0} → ReadResult (List X) → ReadResult (List X) → ReadResult (List X)
appended_parse_results front last = Ok (λ xs ys. xs ++ ys) ⊛ front ⊛ last
