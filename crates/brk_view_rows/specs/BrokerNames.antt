-- Names that are parsed from fields, without repetitions.
use Rattle.std.specs.Prelude.{Bool, if◌then◌else◌, List, [], ◌∷◌, ◌++◌, Ok, Err, bytes_eq}
use Rattle.std.specs.Global.{Vec}
use Rattle.std.specs.List.{list_any}
use Rattle.brk_money.specs.Spelling.{Text}
use Rattle.brk_model.specs.Forms.{ReadResult}
use Rattle.brk_model.specs.Lists.{distinct_texts}

-- True if `name` equals one of `names`.
abbrev pub contains_name : List Text → Text → Bool
contains_name names name = list_any (bytes_eq name) names

-- The list `names`, with `name` added at its end if no element of `names` equals it.
abbrev pub names_with_new_name : List Text → Text → List Text
names_with_new_name names name = if contains_name names name then names else names ++ name ∷ []

-- The parsed names, in order, each where it first occurs, or the refusal of parsing.
abbrev pub distinct_parsed_names : ReadResult (List Text) → ReadResult (List Text)
distinct_parsed_names (Ok names) = Ok (distinct_texts names)
distinct_parsed_names (Err refusal) = Err refusal

-- The list of the names in the vector `names`.
abbrev pub names_of_vector : Vec Text → List Text
names_of_vector names = names.items
