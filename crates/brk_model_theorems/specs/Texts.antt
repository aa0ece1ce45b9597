-- Occurrences of a part in a text.
use Rattle.std.specs.Prelude.{ℕ, ◌<◌, List}
use Rattle.std.specs.Str.Pattern.{LacksTextAt}

-- No occurrence of the text `part` in `text` begins before the byte `n`, counted from 0.
abbrev pub OccursNowhereBefore : ℕ → List ℕ → List ℕ → Type 0
OccursNowhereBefore n part text = (i : ℕ) → i < n → LacksTextAt part text i
