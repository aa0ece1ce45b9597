-- The effect of a read on the remaining bytes of the reader and on the buffer.
use Rattle.std.specs.Prelude.{◌≡◌, ◌≤◌, ℕ, List, ◌++◌, Option, ⊤}
use Rattle.std.specs.Io.KnownBytes.{Consumes}
use Rattle.brk_model_http.specs.declared.head_end.HeadEnd.{HeadEnd}
use Rattle.brk_model_http.specs.declared.head_end.HeadEnd.TheVariants.{Nothing, TooLong, Cut, At}

-- The read appended bytes, perhaps none, to `buffer`, the next bytes of the reader, which has
-- `left` before and `left'` after. If its content is unknown, the bytes are not specified.
abbrev pub ReadsIntoBuffer : Option (List ℕ) → Option (List ℕ) → List ℕ → List ℕ → Type 0
ReadsIntoBuffer left left' buffer buffer' = (bytes : List ℕ) × Consumes left left' bytes × (buffer' ≡ buffer ++ bytes)

-- The end of the head, if it has one, is at most `len` bytes from the start.
abbrev pub HeadEndIsWithin : HeadEnd → ℕ → Type 0
HeadEndIsWithin (At n) len = n ≤ len
HeadEndIsWithin Nothing len = ⊤
HeadEndIsWithin TooLong len = ⊤
HeadEndIsWithin Cut len = ⊤
