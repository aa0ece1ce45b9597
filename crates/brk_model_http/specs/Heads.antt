-- The end of a request's head.
use Rattle.std.specs.Prelude.{ℕ, ◌+◌, [], ◌∷◌, length, take, Option, Some, None, option_map, if◌then◌else◌, ◌==◌, ◌&&◌, nat_le}
use Rattle.brk_money.specs.Spelling.{Text}
use Rattle.brk_model_http.specs.declared.head_end.HeadEnd.{HeadEnd}
use Rattle.brk_model_http.specs.declared.head_end.HeadEnd.TheVariants.{Nothing, TooLong, Cut, At}

-- The greatest length of a request's head with its empty line, in bytes.
abbrev pub most_head_bytes : ℕ
most_head_bytes = 16384

-- The length, in bytes, of the line end (LF or CR LF) with which the bytes begin, or none.
abbrev pub leading_line_end_length : Text → Option ℕ
leading_line_end_length [] = None
leading_line_end_length (b ∷ []) = if b == 10 then Some 1 else None
leading_line_end_length (b ∷ c ∷ bytes) = if b == 10 then Some 1 else (if b == 13 && c == 10 then Some 2 else None)

-- The `leading_line_end_length` of `bytes` if the byte `b` before them is an LF, otherwise none.
abbrev pub line_end_length_after_line_feed : ℕ → Text → Option ℕ
line_end_length_after_line_feed b bytes = if b == 10 then leading_line_end_length bytes else None

-- The first number plus 1 if there is one, otherwise `further` plus 1; none if there is neither.
abbrev pub first_present_plus_one : Option ℕ → Option ℕ → Option ℕ
first_present_plus_one None further = option_map (λ n. n + 1) further
first_present_plus_one (Some n) further = Some (n + 1)

-- The number of bytes up to the end of the first empty line (LF LF or LF CR LF), or none.
unfoldable pub head_length : Text → Option ℕ
head_length [] = None
head_length (b ∷ bytes) = first_present_plus_one (line_end_length_after_line_feed b bytes) (head_length bytes)

-- The end of the head of an input of `len` bytes: `At n` if the first empty line ends after `n`;
-- without one, `Nothing` for an empty input, `TooLong` for at least `limit` bytes, otherwise `Cut`.
abbrev pub head_end_by_length : ℕ → Option ℕ → ℕ → HeadEnd
head_end_by_length limit (Some n) len = At n
head_end_by_length limit None len = if len == 0 then Nothing else (if nat_le limit len then TooLong else Cut)

-- The end of the head at the front of `input`, if a head may have at most `limit` bytes.
abbrev pub head_end_within : ℕ → Text → HeadEnd
head_end_within limit input = head_end_by_length limit (head_length (take limit input)) (length input)

-- The end of the head at the front of `input`, if a head may have at most `most_head_bytes` bytes.
unfoldable pub head_end : Text → HeadEnd
head_end input = head_end_within most_head_bytes input
