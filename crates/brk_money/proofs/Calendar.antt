-- The civil date that the definitions reach by counting days is the date of the calendar.
use Rattle.std.proofs.Common.{◌≡◌, ℕ, zero, suc, ◌+◌, ◌-◌, ◌*◌, ◌/◌, ◌<◌, ◌≤◌, Bool, true, false, nat_lt, pos, refl, sym, ap, subst, ◌∙◌, arith}
use Rattle.std.proofs.lemmas.Bool.{ltb-true, ltb-false}
use Rattle.jiff.specs.Words.{IsYmd, days_in_month, days_in_year, epoch_day}
use Rattle.jiff.proofs.Family.{epoch_day_injective, epoch_day_range}
use Rattle.jiff.proofs.SpanFacts.{signed_arith}
use Rattle.jiff_core.specs.Calendar.{day_count}
use Rattle.jiff_core.specs.declared.civil.date.Date.{Date}
use Rattle.jiff_core.proofs.CalendarLemmas.{day_count-day, day_count-day_of_year, day_count-end, day_count-epoch, day_count-last_of_year, day_count-later_year}
use Rattle.jiff_core.proofs.CalendarLemmas.{day_count-next_month, day_count-next_year, days_from_civil-day_count, days_in_month_bounds, days_in_year_bounds}
use Rattle.brk_money.specs.Moments.{CivilDate, civil_date_of_day, date_after_year_start, date_after_month_start}

-- The civil date `c` has a month from 1 to 12, a day of that month, and a year that is not before
-- `year`. The number of its day, by `day_count`, is `count`.
pub record IsDateAt (c : CivilDate) (year count : ℕ) : Type 0 where
  pub year_from : year ≤ c.year
  pub month_in : (1 ≤ c.month) × (c.month ≤ 12)
  pub day_in : (1 ≤ c.day) × (c.day ≤ days_in_month (pos c.year) c.month)
  pub counted : day_count (pos c.year) c.month c.day ≡ count

-- a day within a month
in_month : (y m n : ℕ) → (1 ≤ m) × (m ≤ 12) → n < days_in_month (pos y) m
    → IsDateAt (record { year = y; month = m; day = n + 1 }) y (day_count (pos y) m 1 + n)
in_month y m n month h =
    let days = day_count-day (pos y) m 1 (n + 1) (omega arith) (omega arith) in
    record { year_from = omega arith; month_in = month; day_in = (omega arith, omega (arith, h)); counted = omega (arith, days) }

-- the days that December has
december : (y n : ℕ) → day_count (pos y) 12 1 + n < day_count (pos y) 1 1 + days_in_year (pos y) → n < days_in_month (pos y) 12
december y n h =
    let last = day_count-last_of_year (pos y) in
    let days = day_count-day (pos y) 12 1 31 (omega arith) (omega arith) in
    omega (arith, h, last, days)

in_year : (k y m n : ℕ) → m + k ≡ 12 → 1 ≤ m → day_count (pos y) m 1 + n < day_count (pos y) 1 1 + days_in_year (pos y)
    → IsDateAt (date_after_month_start k y m n) y (day_count (pos y) m 1 + n)
in_year zero y m n e low h =
    let twelve : m ≡ 12 = omega arith in
    let fits : n < days_in_month (pos y) m = rw twelve (december y n (rw twelve at h)) in
    in_month y m n (low, omega arith) fits
in_year (suc k) y m n e low h = at (in_year k y (m + 1)) (nat_lt n (days_in_month (pos y) m)) refl
  where
    at : ((rest : ℕ) → m + 1 + k ≡ 12 → 1 ≤ m + 1 → day_count (pos y) (m + 1) 1 + rest < day_count (pos y) 1 1 + days_in_year (pos y)
        → IsDateAt (date_after_month_start k y (m + 1) rest) y (day_count (pos y) (m + 1) 1 + rest)) → (b : Bool) → nat_lt n (days_in_month (pos y) m) ≡ b
        → IsDateAt (date_after_month_start (suc k) y m n) y (day_count (pos y) m 1 + n)
    at more true t = rw (date_after_month_start, t) (in_month y m n (low, omega arith) (ltb-true _ _ t))
    at more false t =
        let beyond = ltb-false _ _ t in
        let next = day_count-next_month (pos y) m low in
        let rest = n - days_in_month (pos y) m in
        let same : day_count (pos y) (m + 1) 1 + rest ≡ day_count (pos y) m 1 + n = omega (arith, beyond, next) in
        rw (date_after_month_start, t) (subst (IsDateAt (date_after_month_start k y (m + 1) rest) y) same
        (more rest (omega (arith, e)) (omega arith) (omega (arith, same, h))))

from_year : (k y n : ℕ) → n < 365 * (k + 1) → IsDateAt (date_after_year_start k y n) y (day_count (pos y) 1 1 + n)
from_year zero y n h = in_year 11 y 1 n refl (omega arith) (omega (arith, h, days_in_year_bounds (pos y)))
from_year (suc k) y n h = at (from_year k (y + 1)) (nat_lt n (days_in_year (pos y))) refl
  where
    at : ((rest : ℕ) → rest < 365 * (k + 1) → IsDateAt (date_after_year_start k (y + 1) rest) (y + 1) (day_count (pos (y + 1)) 1 1 + rest)) → (b : Bool)
        → nat_lt n (days_in_year (pos y)) ≡ b → IsDateAt (date_after_year_start (suc k) y n) y (day_count (pos y) 1 1 + n)
    at more true t = rw (date_after_year_start, t) (in_year 11 y 1 n refl (omega arith) (omega (arith, ltb-true _ _ t)))
    at more false t =
        let beyond = ltb-false _ _ t in
        let next = day_count-next_year (pos y) (pos (y + 1)) (omega (arith, signed_arith)) (omega (arith, signed_arith)) in
        let rest = n - days_in_year (pos y) in
        let same : day_count (pos (y + 1)) 1 1 + rest ≡ day_count (pos y) 1 1 + n = omega (arith, beyond, next) in
        let later = more rest (omega (arith, h, beyond, days_in_year_bounds (pos y))) in
        let d : IsDateAt (date_after_year_start k (y + 1) rest) y (day_count (pos y) 1 1 + n) =
        record { year_from = omega (arith, later.year_from); month_in = later.month_in; day_in = later.day_in; counted = later.counted ∙ same } in
        rw (date_after_year_start, t) d

pub civil_at : (n : ℕ) → IsDateAt (civil_date_of_day n) 1970 (4_371_953 + n)
unfolding civil_date_of_day
civil_at n = subst (IsDateAt (civil_date_of_day n) 1970) (ap (λ k. k + n) day_count-epoch) (from_year (n / 365) 1970 n (omega arith))

-- a date of the days up to 9999-12-31 is of the year 9999 at most
pub last_year : (c : CivilDate) (n : ℕ) → n ≤ 2_932_896 → IsDateAt c 1970 (4_371_953 + n) → c.year ≤ 9999
last_year c n h d = at (nat_lt 9999 c.year) refl
  where
    at : (b : Bool) → nat_lt 9999 c.year ≡ b → c.year ≤ 9999
    at false t = omega (arith, ltb-false _ _ t)
    at true t =
        let beyond = ltb-true 9999 c.year t in
        let later = day_count-later_year (pos 9999) (pos c.year) (omega (arith, signed_arith)) (omega (arith, signed_arith, beyond)) in
        let next = day_count-next_year (pos 9999) (pos 10000) (omega (arith, signed_arith)) refl in
        let place = day_count-day_of_year (pos c.year) c.month c.day d.day_in.0 in
        absurd (omega (arith, later, next, day_count-end, place, d.counted, d.day_in.0, h))

-- The calendar date of the day `n`.
unfoldable pub date_at : (n : ℕ) → n ≤ 2_932_896 → Date
date_at n h =
    let d = civil_at n in
    let high = last_year (civil_date_of_day n) n h d in
    record {
      year = pos (civil_date_of_day n).year;
      month = (civil_date_of_day n).month;
      day = (civil_date_of_day n).day;
      year_in = (omega (arith, signed_arith), omega (arith, signed_arith, high));
      month_in = d.month_in;
      day_in = d.day_in;
    }

pub epoch_day-date_at : (n : ℕ) (h : n ≤ 2_932_896) → epoch_day (date_at n h) ≡ pos n
unfolding date_at
epoch_day-date_at n h =
    let d = civil_at n in
    omega (arith, signed_arith, d.counted, days_from_civil-day_count (pos (civil_date_of_day n).year) (civil_date_of_day n).month (civil_date_of_day n).day)

-- a date with the number of a day has the parts of the day's date
pub parts_of : (d : Date) (n : ℕ) → epoch_day d ≡ pos n → (d.year ≡ pos (civil_date_of_day n).year) × (d.month ≡ (civil_date_of_day n).month) × (d.day ≡ (civil_date_of_day n).day)
unfolding date_at
parts_of d n e =
    let h : n ≤ 2_932_896 = omega (arith, signed_arith, epoch_day_range d, e) in
    epoch_day_injective d (date_at n h) (e ∙ sym (epoch_day-date_at n h))

-- the first day has the number 0
pub epoch_day-first : (d : Date) → IsYmd (pos 1970) (pos 1) (pos 1) d → epoch_day d ≡ pos 0
epoch_day-first d e =
    let month : d.month ≡ 1 = omega (arith, signed_arith, e.1) in
    let day : d.day ≡ 1 = omega (arith, signed_arith, e.2) in
    rw (e.0, month, day) (omega (arith, signed_arith, days_from_civil-day_count (pos 1970) 1 1, day_count-epoch))

-- the parts of the date of a day have four, two and two digits
pub is_short : (n : ℕ) → n ≤ 2_932_896 → ((civil_date_of_day n).year < 10000) × ((civil_date_of_day n).month < 100) × ((civil_date_of_day n).day < 100)
is_short n h =
    let d = civil_at n in
    let high = last_year (civil_date_of_day n) n h d in
    let long = days_in_month_bounds (pos (civil_date_of_day n).year) (civil_date_of_day n).month in
    (omega (arith, high), omega (arith, d.month_in), omega (arith, d.day_in, long))
