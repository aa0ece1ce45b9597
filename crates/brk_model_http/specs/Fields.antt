-- The fields of a request's head: the length of its body, and the wish to close the stream.
use Rattle.std.specs.Prelude.{ℕ, List, [], ◌∷◌, Bool, map, length, codes, Some, None, if◌then◌else◌, ◌&&◌, nat_lt, nat_eq, Result, Ok, Err}
use Rattle.std.specs.List.{list_all, list_any, filter_map}
use Rattle.std.specs.Char.{is_ascii_digit, to_ascii_lowercase}
use Rattle.std.specs.Str.Parse.{digits_value}
use Rattle.std.specs.Cmp.Lexicographic.{pointwise}
use Rattle.brk_money.specs.Spelling.{Text}
use Rattle.brk_model_http.specs.declared.problem.RequestProblem.{RequestProblem}
use Rattle.brk_model_http.specs.declared.problem.RequestProblem.TheVariants.{TooLarge, BadRequest, NotImplemented}

-- The type of a field of a request's head: its name and its value.
abbrev pub HeadField : Type 0
HeadField = Text × Text

-- True if the texts are equal when the case of ASCII letters is ignored.
abbrev pub is_equal_ignoring_case : Text → Text → Bool
is_equal_ignoring_case a b = pointwise nat_eq (map to_ascii_lowercase a) (map to_ascii_lowercase b)

-- The values of the fields with the name `name`, in any case of ASCII letters, in sequence.
abbrev pub values_of_field : Text → List HeadField → List Text
values_of_field name pairs = filter_map (λ p. if is_equal_ignoring_case p.0 name then Some p.1 else None) pairs

-- True if at least one field has the name `name`, in any case of ASCII letters.
abbrev pub has_field_named : Text → List HeadField → Bool
has_field_named name pairs = list_any (λ p. is_equal_ignoring_case p.0 name) pairs

-- True if a field has the name `Connection` and the value `close`, in any case of ASCII letters.
abbrev pub has_connection_close : List HeadField → Bool
has_connection_close pairs = list_any (λ p. is_equal_ignoring_case p.0 (codes "connection") && is_equal_ignoring_case p.1 (codes "close")) pairs

-- The greatest length of a request's body, in bytes.
abbrev pub most_body_bytes : ℕ
most_body_bytes = 65536

-- True if the value consists of ASCII digits and is not empty.
abbrev pub has_only_digits : Text → Bool
has_only_digits value = nat_lt 0 (length value) && list_all is_ascii_digit value

-- The length `n`, in bytes, if it is at most `most_body_bytes`, otherwise the problem `TooLarge`.
abbrev pub body_length_within_limit : ℕ → Result ℕ RequestProblem
body_length_within_limit n = if nat_lt most_body_bytes n then Err TooLarge else Ok n

-- The length of a body, in bytes, by the value of a Content-Length; `BadRequest` if it is not one
-- or more ASCII digits, `TooLarge` if it has more than nine or is above `most_body_bytes`.
abbrev pub body_length_of_value : Text → Result ℕ RequestProblem
body_length_of_value value =
    if has_only_digits value
    then (if nat_lt 9 (length value) then Err TooLarge else body_length_within_limit (digits_value 10 value))
    else Err BadRequest

-- The length of a body, in bytes, by all Content-Length fields: 0 without one, the length or the
-- problem of a single one, and `BadRequest` for two or more.
abbrev pub body_length_of_values : List Text → Result ℕ RequestProblem
body_length_of_values [] = Ok 0
body_length_of_values (value ∷ []) = body_length_of_value value
body_length_of_values (value ∷ other ∷ more) = Err BadRequest

-- The length of a body, in bytes, by the fields of its head: the problem `NotImplemented` with a
-- Transfer-Encoding field, otherwise by the Content-Length fields (`body_length_of_values`). The
-- case of ASCII letters in names of fields is ignored.
abbrev pub body_length_of_fields : List HeadField → Result ℕ RequestProblem
body_length_of_fields pairs =
    if has_field_named (codes "transfer-encoding") pairs then Err NotImplemented else body_length_of_values (values_of_field (codes "content-length") pairs)
