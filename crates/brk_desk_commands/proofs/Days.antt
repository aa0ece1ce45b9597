-- The text of a day is valid UTF-8.
use Rattle.std.proofs.Common.{ℕ, ◌+◌, ◌/◌, ◌%◌, ◌<◌, ◌≤◌, [], ◌∷◌, sym, subst, arith}
use Rattle.std.specs.Str.{IsUtf8, IsAscii}
use Rattle.std.proofs.lemmas.Str.{IsUtf8-from_ascii}
use Rattle.std.proofs.lemmas.Str.Ascii.{IsAscii-cons, IsAscii-nil}
use Rattle.brk_money.specs.Moments.{civil_date_of_day}
use Rattle.brk_money.specs.Spelling.{Text, day_text}
use Rattle.brk_money.proofs.Calendar.{is_short}
use Rattle.brk_money.proofs.DayTexts.{day_text-digits}
use Rattle.brk_money.proofs.Padded.{date_text_by_digits}

-- two digits before a text
two_digits : (n : ℕ) (after : Text) → n < 100 → IsAscii after → IsAscii ((48 + n / 10) ∷ (48 + n % 10) ∷ after)
two_digits n after h k =
    let tens : 48 + n / 10 < 128 = omega (arith, h) in
    let ones : 48 + n % 10 < 128 = omega arith in
    IsAscii-cons (48 + n / 10) ((48 + n % 10) ∷ after) tens (IsAscii-cons (48 + n % 10) after ones k)

-- a hyphen before a text
hyphen : (after : Text) → IsAscii after → IsAscii (45 ∷ after)
hyphen after k = IsAscii-cons 45 after (omega arith) k

-- the digits of a date
date_ascii : (y m d : ℕ) → y < 10000 → m < 100 → d < 100 → IsAscii (date_text_by_digits y m d)
date_ascii y m d hy hm hd =
    let day : Text = (48 + d / 10) ∷ (48 + d % 10) ∷ [] in
    let month : Text = (48 + m / 10) ∷ (48 + m % 10) ∷ 45 ∷ day in
    let year : Text = (48 + y % 100 / 10) ∷ (48 + y % 100 % 10) ∷ 45 ∷ month in
    two_digits (y / 100) year (omega (arith, hy)) (two_digits (y % 100) (45 ∷ month) (omega arith)
    (hyphen month (two_digits m (45 ∷ day) hm (hyphen day (two_digits d [] hd IsAscii-nil)))))

-- a day's text is text
pub day_is_text : (n : ℕ) → n ≤ 2_932_896 → IsUtf8 (day_text n)
day_is_text n h =
    let s = is_short n h in
    let date = civil_date_of_day n in
    IsUtf8-from_ascii (day_text n) (subst IsAscii (sym (day_text-digits n h)) (date_ascii date.year date.month date.day s.0 s.1 s.2))
