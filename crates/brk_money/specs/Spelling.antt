-- The canonical texts of numbers, amounts and days. A text parses as the value whose text it is.
use Rattle.std.specs.Prelude.{ℕ, suc, ◌+◌, ◌-◌, ◌*◌, ◌/◌, ◌%◌, ◌≤◌, if◌then◌else◌, List, [], ◌∷◌, ◌++◌, fold, filter, length, take, drop, replicate, ◌==◌}
use Rattle.std.specs.Prelude.{Option, Some, None, ℤ, pos, negsuc, neg_ℤ, nat_le, nat_abs, decimal, bytes_eq, slice_index, Bool}
use Rattle.std.specs.Char.{is_ascii_digit}
use Rattle.brk_money.specs.declared.cents.TheConstants.Cents
use Rattle.brk_money.specs.Moments.{CivilDate, civil_date_of_day, day_of_civil_date}

-- The type of a text: the list of its bytes.
abbrev pub Text : Type 0
Text = List ℕ

-- The value `value` if its canonical text by `spell` equals `text`, otherwise none.
abbrev pub value_if_canonical : {A : Type 0} → (A → Text) → A → Text → Option A
value_if_canonical spell value text = if bytes_eq (spell value) text then Some value else None

-- The number of the text's ASCII digits, in sequence, or 0 without any; other bytes are left out.
abbrev pub number_from_ascii_digits : Text → ℕ
number_from_ascii_digits text = fold (λ n c. 10 * n + (c - 48)) 0 (filter is_ascii_digit text)

-- The number whose canonical decimal text (no leading zero) equals `text`, or none.
abbrev pub decimal_number_of_text : Text → Option ℕ
decimal_number_of_text text = value_if_canonical decimal (number_from_ascii_digits text) text

-- The given number if there is one and it is at most `limit`, otherwise none.
abbrev pub number_within_limit : ℕ → Option ℕ → Option ℕ
number_within_limit limit None = None
number_within_limit limit (Some n) = if nat_le n limit then Some n else None

-- True if the absolute value of the amount `z`, in cents, is at most `Cents.GREATEST`.
abbrev pub is_within_amount_limit : ℤ → Bool
is_within_amount_limit z = nat_le (nat_abs z) Cents.GREATEST

-- The amount's absolute value, in cents, is at most `Cents.GREATEST` (`is_within_amount_limit`).
abbrev pub IsWithinAmountLimit : ℤ → Type 0
IsWithinAmountLimit (pos n) = n ≤ Cents.GREATEST
IsWithinAmountLimit (negsuc n) = suc n ≤ Cents.GREATEST

-- The text of `n` cents without a sign, such as 12.05: the decimal digits of the whole units, a
-- point and the two digits of the remaining cents.
abbrev pub unsigned_cents_text : ℕ → Text
unsigned_cents_text n = decimal (n / 100) ++ 46 ∷ (48 + n % 100 / 10) ∷ (48 + n % 10) ∷ []

-- The canonical text of an amount in cents, such as -12.05: a minus if the amount is negative, and
-- the `unsigned_cents_text` of its absolute value.
abbrev pub cents_text : ℤ → Text
cents_text (pos n) = unsigned_cents_text n
cents_text (negsuc n) = 45 ∷ unsigned_cents_text (suc n)

-- The number of cents whose decimal digits are the ASCII digits of the text, or 0 if it has none;
-- the number is negated if the text begins with a minus. All other bytes are left out.
abbrev pub cents_from_ascii_digits : Text → ℤ
cents_from_ascii_digits text = if slice_index text 0 == 45 then neg_ℤ (pos (number_from_ascii_digits text)) else pos (number_from_ascii_digits text)

-- The amount in cents that a text parses as; none if the text is not canonical.
abbrev pub cents_of_text : Text → Option ℤ
cents_of_text text = value_if_canonical cents_text (cents_from_ascii_digits text) text

-- The decimal digits of `n`, padded with zeros in front to at least `places` digits.
abbrev pub padded_decimal : ℕ → ℕ → Text
padded_decimal places n = replicate (places - length (decimal n)) 48 ++ decimal n

-- The text of a civil date, such as 2024-03-01: the year, the month and the day, padded with zeros
-- in front to at least four, two and two digits and separated by hyphens.
abbrev pub date_text : CivilDate → Text
date_text d = padded_decimal 4 d.year ++ 45 ∷ padded_decimal 2 d.month ++ 45 ∷ padded_decimal 2 d.day

-- The canonical text, such as 2024-03-01, of a day, which is given in days since 1970-01-01.
abbrev pub day_text : ℕ → Text
day_text day = date_text (civil_date_of_day day)

-- The civil date of the `number_from_ascii_digits` of bytes 0 to 3, 5 to 6 and 8 to 9 of the text,
-- as far as it has them. It need not be in the calendar.
abbrev pub civil_date_from_ascii_digits : Text → CivilDate
civil_date_from_ascii_digits text = record {
  year = number_from_ascii_digits (take 4 text);
  month = number_from_ascii_digits (take 2 (drop 5 text));
  day = number_from_ascii_digits (take 2 (drop 8 text));
}

-- The day, in days since 1970-01-01, up to `greatest_day`, with the canonical text `text`, or none.
abbrev pub day_of_text : Text → Option ℕ
day_of_text text = value_if_canonical day_text (day_of_civil_date (civil_date_from_ascii_digits text)) text

-- The amount, in cents, if its absolute value is at most `Cents.GREATEST`, otherwise none.
abbrev pub amount_within_limit : Option ℤ → Option ℤ
amount_within_limit None = None
amount_within_limit (Some z) = if is_within_amount_limit z then Some z else None

-- The number with the digits of `n` followed by the ASCII digits of the list. A byte that is no
-- digit counts as its value minus 48, or as 0 if it is below 48.
abbrev pub number_with_more_digits : ℕ → List ℕ → ℕ
number_with_more_digits n [] = n
number_with_more_digits n (c ∷ cs) = number_with_more_digits (n * 10 + (c - 48)) cs
