-- A text that is read as a day of the calendar.
use Rattle.std.proofs.Common.{◌≡◌, ◌≢◌, ◌≤◌, ℕ, Bool, true, false, refl, cond}
use Rattle.std.specs.Prelude.{Option, Some, None, Ok, Err, nat_le}
use Rattle.std.specs.Option.{ok_or}
use Rattle.std.proofs.lemmas.Bool.{leb-true, le-leb}
use Rattle.brk_money.specs.Moments.{day_of_civil_date, greatest_day}
use Rattle.brk_money.specs.Spelling.{Text, civil_date_from_ascii_digits, day_of_text, day_text}
use Rattle.brk_money.specs.declared.refusal.Refusal.TheVariants.{BadText}
use Rattle.brk_money.proofs.DayNumbers.{day_of_text-text}
use Rattle.brk_money.proofs.Spellings.{spelled}
use Rattle.brk_model.specs.Forms.{ReadResult, read_day, value_if_valid}

pub day_read : (text : Text) (n : ℕ) → n ≤ greatest_day → text ≡ day_text n → ok_or (Some n) BadText ≡ read_day text
day_read text n h e = rw (day_of_text-text text n h e, le-leb n greatest_day h) refl

pub no_day : (text : Text) → ((n : ℕ) → n ≤ greatest_day → text ≢ day_text n) → ok_or None BadText ≡ read_day text
no_day text h = by_day (day_of_text text) refl
  where
    by_test : (n : ℕ) (b : Bool) → nat_le n greatest_day ≡ b → day_of_text text ≡ Some n → (let r : ReadResult ℕ = Err BadText in r) ≡ cond b (Ok n) (Err BadText)
    by_test n true t e = absurd (h n (leb-true n greatest_day t) (spelled day_text (day_of_civil_date (civil_date_from_ascii_digits text)) n text e))
    by_test n false t e = refl

    by_day : (o : Option ℕ) → day_of_text text ≡ o → ok_or None BadText ≡ value_if_valid (λ day. nat_le day greatest_day) BadText o
    by_day None e = refl
    by_day (Some n) e = by_test n (nat_le n greatest_day) refl e
