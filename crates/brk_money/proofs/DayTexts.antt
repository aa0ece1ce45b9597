-- The text of a day: jiff prints it for the date of the day, and reads that date from it.
use Rattle.std.proofs.Common.{◌≡◌, ℕ, ◌≤◌, pos, sym, ap, ◌∙◌, arith}
use Rattle.std.specs.Prelude.{Result, Ok}
use Rattle.jiff.specs.Words.{epoch_day}
use Rattle.jiff.proofs.SpanFacts.{signed_arith}
use Rattle.jiff.proofs.Family.{epoch_day_range, epoch_day_same, parse_date-date_text}
use Rattle.jiff_core.specs.declared.civil.date.Date.{Date}
use Rattle.jiff_core.specs.declared.error.Error.{Error}
use Rattle.jiff_fmt.specs.Temporal.{DateParts, date_parts, parse_date}
use Rattle.jiff_fmt.specs.Text.{date_text}
use Rattle.brk_money.specs.Moments.{civil_date_of_day}
use Rattle.brk_money.specs.Spelling.{day_text}
use Rattle.brk_money.proofs.Calendar.{date_at, epoch_day-date_at, is_short, parts_of}
use Rattle.brk_money.proofs.Padded.{date_text-digits, date_text_by_digits}

pub day_text-digits : (n : ℕ) → n ≤ 2_932_896 → day_text n ≡ date_text_by_digits (civil_date_of_day n).year (civil_date_of_day n).month (civil_date_of_day n).day
day_text-digits n h = let s = is_short n h in date_text-digits (civil_date_of_day n) s.0 s.1 s.2

-- what is printed of the date of a day is the day's text
pub text_of : (d : Date) (n : ℕ) → epoch_day d ≡ pos n → date_text d ≡ day_text n
text_of d n e =
    let h : n ≤ 2_932_896 = omega (arith, signed_arith, epoch_day_range d, e) in
    let p = parts_of d n e in
    rw (p.0, p.1, p.2) (sym (day_text-digits n h))

-- what is read of a day's text is the day's date
pub parse_date-day_text : (n : ℕ) (h : n ≤ 2_932_896) → parse_date (day_text n) ≡ Ok (date_parts (date_at n h))
parse_date-day_text n h = ap parse_date (sym (text_of (date_at n h) n (epoch_day-date_at n h))) ∙ parse_date-date_text (date_at n h)

-- a date that is read of a day's text has the day's number
pub number_of_text : (d : Date) (n : ℕ) → n ≤ 2_932_896 → Ok (date_parts d) ≡ parse_date (day_text n) → epoch_day d ≡ pos n
unfolding date_at
number_of_text d n h e =
    let same = same_parts _ _ (e ∙ parse_date-day_text n h) in
    epoch_day_same d (date_at n h) (ap (λ p. p.year) same) (ap (λ p. p.month) same) (ap (λ p. p.day) same) ∙ epoch_day-date_at n h
  where
    same_parts : (p q : DateParts) → (let o : Result DateParts Error = Ok p in o) ≡ Ok q → p ≡ q
    same_parts p q e = cc

-- no two days are spelled alike
pub day_text_injective : (m n : ℕ) → m ≤ 2_932_896 → n ≤ 2_932_896 → day_text m ≡ day_text n → m ≡ n
day_text_injective m n hm hn e =
    let same = number_of_text (date_at m hm) n hn (sym (parse_date-day_text m hm) ∙ ap parse_date e) in
    omega (arith, signed_arith, epoch_day-date_at m hm, same)
