-- The text of a day is read as that day.
use Rattle.std.proofs.Common.{◌≡◌, ℕ, zero, suc, ◌+◌, ◌-◌, ◌*◌, ◌/◌, ◌%◌, ◌<◌, ◌≤◌, List, [], ◌∷◌, pos, ap, ◌∙◌, arith}
use Rattle.std.specs.Prelude.{Some, fold}
use Rattle.jiff.specs.Words.{days_in_month}
use Rattle.jiff.proofs.SpanFacts.{signed_arith}
use Rattle.jiff_core.specs.Calendar.{day_count}
use Rattle.jiff_core.proofs.CalendarLemmas.{day_count-day, day_count-epoch, day_count-next_month, day_count-next_year}
use Rattle.brk_money.specs.Moments.{CivilDate, civil_date_of_day, day_of_civil_date, days_in_months, days_in_years, greatest_day}
use Rattle.brk_money.specs.Spelling.{Text, civil_date_from_ascii_digits, day_of_text, day_text, number_from_ascii_digits}
use Rattle.brk_money.proofs.Calendar.{civil_at, is_short}
use Rattle.brk_money.proofs.DayTexts.{day_text-digits}
use Rattle.brk_money.proofs.Padded.{date_text_by_digits}
use Rattle.brk_money.proofs.Spellings.{digit_kept, spells}

-- ---- the number of a date

no_more : (n : ℕ) → n ≡ n + 0
no_more n = omega arith

regrouped : (n a b c : ℕ) → n ≡ a + b → n + c ≡ a + (b + c)
regrouped n a b c e = omega (arith, e)

-- the first day of a year is so many days of years on
years_counted : (k y m : ℕ) → m ≡ y + k → day_count (pos m) 1 1 ≡ day_count (pos y) 1 1 + days_in_years k y
years_counted zero y m e =
    let same : m ≡ y = omega (arith, e) in
    ap (λ n. day_count (pos n) 1 1) same ∙ no_more (day_count (pos y) 1 1)
years_counted (suc k) y m e =
    let next = day_count-next_year (pos y) (pos (y + 1)) (omega (arith, signed_arith)) (omega (arith, signed_arith)) in
    years_counted k (y + 1) m (omega (arith, e)) ∙ regrouped _ _ _ (days_in_years k (y + 1)) next

-- and the first day of a month so many days of months
months_counted : (k y m : ℕ) → m ≡ k + 1 → day_count (pos y) m 1 ≡ day_count (pos y) 1 1 + days_in_months y k
months_counted zero y m e =
    let same : m ≡ 1 = omega (arith, e) in
    ap (λ n. day_count (pos y) n 1) same ∙ no_more (day_count (pos y) 1 1)
months_counted (suc k) y m e =
    let same : m ≡ suc k + 1 = omega (arith, e) in
    let before : day_count (pos y) (suc k) 1 ≡ day_count (pos y) 1 1 + days_in_months y k = months_counted k y (suc k) (omega arith) in
    ap (λ n. day_count (pos y) n 1) same ∙ day_count-next_month (pos y) (suc k) (omega arith) ∙ regrouped _ _ _ (days_in_month (pos y) (suc k)) before

summed : (n count first year month days of_years of_months : ℕ) → count ≡ 4_371_953 + n → year ≡ 4_371_953 + of_years → month ≡ year + of_months → month + days ≡ count + 1
    → 1 ≤ days → of_years + of_months + (days - 1) ≡ n
summed n count first year month days of_years of_months a b c d e = omega (arith, a, b, c, d, e)

-- the date of a day has the day's number
number_back : (n : ℕ) → day_of_civil_date (civil_date_of_day n) ≡ n
unfolding day_of_civil_date
number_back n =
    let c : CivilDate = civil_date_of_day n in
    let d = civil_at n in
    let years : day_count (pos c.year) 1 1 ≡ 4_371_953 + days_in_years (c.year - 1970) 1970 =
    years_counted (c.year - 1970) 1970 c.year (omega (arith, d.year_from)) ∙ ap (λ k. k + days_in_years (c.year - 1970) 1970) day_count-epoch in
    let months = months_counted (c.month - 1) c.year c.month (omega (arith, d.month_in)) in
    let days = day_count-day (pos c.year) c.month 1 c.day (omega arith) d.day_in.0 in
    summed n (day_count (pos c.year) c.month c.day) 0 (day_count (pos c.year) 1 1) (day_count (pos c.year) c.month 1) c.day
    (days_in_years (c.year - 1970) 1970) (days_in_months c.year (c.month - 1)) d.counted years months days d.day_in.0

-- ---- the digits of a date

two_value : (m : ℕ) → m < 100 → number_from_ascii_digits ((48 + m / 10) ∷ (48 + m % 10) ∷ []) ≡ m
two_value m h =
    ap (fold (λ n c. 10 * n + (c - 48)) 0)
    (digit_kept (m / 10) ((48 + m % 10) ∷ []) (omega (arith, h)) ∙ ap (λ (l : List ℕ). (48 + m / 10) ∷ l) (digit_kept (m % 10) [] (omega arith)))
    ∙ value m
  where
    value : (m : ℕ) → 10 * (10 * 0 + (48 + m / 10 - 48)) + (48 + m % 10 - 48) ≡ m
    value m = omega arith

four_value : (y : ℕ) → y < 10000
    → number_from_ascii_digits ((48 + y / 100 / 10) ∷ (48 + y / 100 % 10) ∷ (48 + y % 100 / 10) ∷ (48 + y % 100 % 10) ∷ []) ≡ y
four_value y h =
    let a : ℕ = 48 + y / 100 / 10 in
    let b : ℕ = 48 + y / 100 % 10 in
    let c : ℕ = 48 + y % 100 / 10 in
    let d : ℕ = 48 + y % 100 % 10 in
    ap (fold (λ n c. 10 * n + (c - 48)) 0)
    (digit_kept (y / 100 / 10) (b ∷ c ∷ d ∷ []) (omega (arith, h))
    ∙ ap (λ (l : List ℕ). a ∷ l) (digit_kept (y / 100 % 10) (c ∷ d ∷ []) (omega arith))
    ∙ ap (λ (l : List ℕ). a ∷ b ∷ l) (digit_kept (y % 100 / 10) (d ∷ []) (omega arith))
    ∙ ap (λ (l : List ℕ). a ∷ b ∷ c ∷ l) (digit_kept (y % 100 % 10) [] (omega arith)))
    ∙ value y
  where
    value : (y : ℕ) → 10 * (10 * (10 * (10 * 0 + (48 + y / 100 / 10 - 48)) + (48 + y / 100 % 10 - 48)) + (48 + y % 100 / 10 - 48)) + (48 + y % 100 % 10 - 48) ≡ y
    value y = omega arith

value_is : (y m d : ℕ) → y < 10000 → m < 100 → d < 100 → civil_date_from_ascii_digits (date_text_by_digits y m d) ≡ record { year = y; month = m; day = d }
value_is y m d h k l = λ i. record { year = four_value y h i; month = two_value m k i; day = two_value d l i }

-- the text of a day spells it
pub day_of_text-text : (text : Text) (n : ℕ) → n ≤ greatest_day → text ≡ day_text n → day_of_text text ≡ Some n
day_of_text-text text n h e =
    let s = is_short n h in
    spells day_text (day_of_civil_date (civil_date_from_ascii_digits text)) n text
    (ap (λ t. day_of_civil_date (civil_date_from_ascii_digits t)) (e ∙ day_text-digits n h)
    ∙ ap day_of_civil_date (value_is (civil_date_of_day n).year (civil_date_of_day n).month (civil_date_of_day n).day s.0 s.1 s.2) ∙ number_back n) e
