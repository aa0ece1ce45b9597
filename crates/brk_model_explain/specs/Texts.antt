-- The texts of timestamps, and the kinds of lines of which an explanation consists. A text that is
-- longer than the places in which it is aligned is not shortened.
use Rattle.std.specs.Prelude.{ℕ, ◌/◌, ◌%◌, ◌∷◌, ◌++◌, ℤ, decimal, replicate}
use Rattle.std.specs.Fmt.{signed_decimal}
use Rattle.brk_money.specs.Spelling.{Text, cents_text, day_text, padded_decimal}
use Rattle.brk_money.specs.Moments.{day_of}
use Rattle.brk_model.specs.Rows.{nonnegative_cents_text}
use Rattle.brk_model.specs.Statement.{left_aligned_text, right_aligned_text}

-- The text of the time of day `n` milliseconds after midnight, such as 09:05:00.021.
unfoldable pub time_of_day_text : ℕ → Text
time_of_day_text n =
    padded_decimal 2 (n / 3600000) ++ 58 ∷ padded_decimal 2 (n / 60000 % 60) ++ 58 ∷ padded_decimal 2 (n / 1000 % 60) ++ 46 ∷ padded_decimal 3 (n % 1000)

-- The text of the stamp `stamp` in UTC, such as 2024-03-01 09:05:00.021.
unfoldable pub timestamp_text : ℕ → Text
timestamp_text stamp = day_text (day_of stamp) ++ 32 ∷ time_of_day_text (stamp % 86400000)

-- A blank column in place of a timestamp: 23 spaces.
abbrev pub blank_timestamp_text : Text
blank_timestamp_text = replicate 23 32

-- The line of `label`, left-aligned in 15 places, a space, and `text`.
unfoldable pub labeled_text : Text → Text → Text
labeled_text label text = left_aligned_text 15 label ++ 32 ∷ text

-- The line of `label`, left-aligned in 15 places, a space, and `value`, right-aligned in 22 places.
unfoldable pub labeled_value : Text → Text → Text
labeled_value label value = left_aligned_text 15 label ++ 32 ∷ right_aligned_text 22 value

-- The line of `label`, left-aligned in 15 places, a space, and `n`, right-aligned in 22 places.
unfoldable pub labeled_number : Text → ℕ → Text
labeled_number label n = labeled_value label (decimal n)

-- The line of `label`, left-aligned in 15 places, a space, and `amount` cents, right-aligned in 22.
unfoldable pub labeled_amount : Text → ℤ → Text
labeled_amount label amount = labeled_value label (cents_text amount)

-- The first columns of a row, separated by spaces: `word`, left-aligned in 6 places, `moment`, a
-- timestamp's text or blank, and, right-aligned, `id` in 13, `shares` in 11, `price` (cents) in 10.
unfoldable pub leading_row_columns : Text → Text → ℕ → ℤ → ℕ → Text
leading_row_columns word moment id shares price =
    left_aligned_text 6 word ++ 32 ∷ moment ++ 32 ∷ right_aligned_text 13 (decimal id) ++ 32 ∷ right_aligned_text 11 (signed_decimal shares) ++ 32
    ∷ right_aligned_text 10 (nonnegative_cents_text price)

-- A space, and `amount`, an amount in cents, right-aligned in 16 places.
unfoldable pub value_column : ℤ → Text
value_column amount = 32 ∷ right_aligned_text 16 (cents_text amount)

-- A space, and `amount`, an amount in cents, right-aligned in 22 places.
unfoldable pub amount_column : ℤ → Text
amount_column amount = 32 ∷ right_aligned_text 22 (cents_text amount)

-- A space, and the number `shares`, right-aligned in 11 places.
unfoldable pub shares_column : ℤ → Text
shares_column shares = 32 ∷ right_aligned_text 11 (signed_decimal shares)
