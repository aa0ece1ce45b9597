-- The route of a request's target, in which nothing is decoded.
use Rattle.std.specs.Prelude.{ℕ, Bool, ◌&&◌, if◌then◌else◌, List, [], ◌∷◌, Option, Some, None, option_map, Ok, Err, bytes_eq, codes, eqb}
use Rattle.std.specs.List.{list_any, slice_split}
use Rattle.std.specs.Str.{is_utf8}
use Rattle.brk_money.specs.Spelling.{Text}
use Rattle.brk_model.specs.Records.{Key}
use Rattle.brk_model.specs.Forms.{ReadResult, is_batch_name, read_id}

-- The parts of the text before, between and after the bytes equal to `cut`, in sequence and without
-- these bytes. A part may be empty; without such a byte the text is the only part.
unfoldable pub split_at_byte : ℕ → Text → List Text
split_at_byte cut text = slice_split (λ b. eqb b cut) text

-- The route of a target: a row, with or without a key, or the view with a name.
pub data Route : Type 0 where
  ToRow : Option Key → Route
  ToView : Text → Route

-- The key of the text `batch` and a row number; none if the name or the number is malformed.
abbrev pub key_of_batch_row : Text → ReadResult ℕ → Option Key
key_of_batch_row batch (Err refusal) = None
key_of_batch_row batch (Ok n) = if is_batch_name batch then Some (record { batch = batch; n = n }) else None

-- True if a target's part before its first slash is empty, and its next part, `word`, is `name`.
abbrev pub has_first_segment : Text → Text → Text → Bool
has_first_segment first word name = bytes_eq first [] && bytes_eq word name

-- The route of a target with the given parts between slashes: /rows, /rows/BATCH/N with a batch
-- name and a row number (`read_id`), or /ask/VIEW with one of `views`; none for any other target.
abbrev pub route_of_segments : List Text → List Text → Option Route
route_of_segments views (first ∷ word ∷ []) = if has_first_segment first word (codes "rows") then Some (ToRow None) else None
route_of_segments views (first ∷ word ∷ view ∷ []) =
    if has_first_segment first word (codes "ask") && list_any (λ v. bytes_eq v view) views then Some (ToView view) else None
route_of_segments views (first ∷ word ∷ batch ∷ n ∷ []) =
    if has_first_segment first word (codes "rows") then option_map (λ key. ToRow (Some key)) (key_of_batch_row batch (read_id n)) else None
route_of_segments views _ = None

-- The route of the target for the known `views`, undecoded; none if it is not UTF-8 or has none.
unfoldable pub route_of_target : List Text → Text → Option Route
route_of_target views target = if is_utf8 target then route_of_segments views (split_at_byte 47 target) else None
