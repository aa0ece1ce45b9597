-- The digits of a date, each part padded with zeros to its width.
use Rattle.std.proofs.Common.{◌≡◌, ℕ, suc, ◌+◌, ◌-◌, ◌/◌, ◌%◌, ◌<◌, ◌^◌, Bool, true, false, nat_lt, [], ◌∷◌, ◌++◌, length, replicate, refl, sym, ap, ◌∙◌, arith}
use Rattle.std.specs.Fmt.{decimal}
use Rattle.std.proofs.lemmas.Bool.{ltb-true, ltb-false}
use Rattle.std.proofs.lemmas.Fmt.{decimal_digit, decimal_step}
use Rattle.std.proofs.lemmas.List.{append_assoc, length-append}
use Rattle.jiff_fmt.specs.Text.{pad2, pad4}
use Rattle.brk_money.specs.Moments.{CivilDate}
use Rattle.brk_money.specs.Spelling.{Text, padded_decimal, date_text}

-- The ten bytes of the text of a date as jiff prints it, such as 2024-03-01, for a year `y` below
-- 10000, a month `m` below 100 and a day `d` below 100.
abbrev pub date_text_by_digits : ℕ → ℕ → ℕ → Text
date_text_by_digits y m d = pad4 y ++ 45 ∷ pad2 m ++ 45 ∷ pad2 d

abbrev zeros : ℕ → Text
zeros places = replicate places 48

-- one digit
one : (n : ℕ) → n < 10 → padded_decimal 1 n ≡ (48 + n) ∷ []
one n h = rw (decimal_digit n h) refl

-- one place more
more : (places n : ℕ) → n < 10 ^ 4 → zeros places ≡ zeros (places - 1) ++ 48 ∷ []
    → padded_decimal (suc places) n ≡ padded_decimal places (n / 10) ++ (48 + n % 10) ∷ []
more places n h split = at (nat_lt n 10) refl
  where
    at : (b : Bool) → nat_lt n 10 ≡ b → padded_decimal (suc places) n ≡ padded_decimal places (n / 10) ++ (48 + n % 10) ∷ []
    at true t =
        let low = ltb-true n 10 t in
        let tens : n / 10 ≡ 0 = omega (arith, low) in
        let ones : n % 10 ≡ n = omega (arith, low) in
        let back : suc places - 1 ≡ places = omega arith in
        rw (tens, ones, decimal_digit n low, decimal_digit 0 (omega arith), back, split) refl
    at false t =
        let ds = decimal (n / 10) in
        let size : suc places - length (ds ++ (48 + n % 10) ∷ []) ≡ places - length ds = omega (arith, length-append ds ((48 + n % 10) ∷ [])) in
        rw (decimal_step n (ltb-false n 10 t) (omega arith), size) (sym (append_assoc (zeros (places - length ds)) ds ((48 + n % 10) ∷ [])))

two : (n : ℕ) → n < 100 → padded_decimal 2 n ≡ pad2 n
two n h = more 1 n (omega arith) refl ∙ ap (λ (ds : Text). ds ++ (48 + n % 10) ∷ []) (one (n / 10) (omega (arith, h)))

four : (n : ℕ) → n < 10000 → padded_decimal 4 n ≡ pad4 n
four n h =
    let front : n / 10 / 10 ≡ n / 100 = omega arith in
    let tens : n / 10 % 10 ≡ n % 100 / 10 = omega arith in
    let ones : n % 10 ≡ n % 100 % 10 = omega arith in
    more 3 n h refl ∙ ap (λ (ds : Text). ds ++ (48 + n % 10) ∷ []) (more 2 (n / 10) (omega arith) refl ∙ ap (λ (ds : Text). ds ++ (48 + n / 10 % 10) ∷ []) (two (n / 10 / 10) (omega (arith, h))))
    ∙ rw (front, tens, ones) refl

-- a date of four, two and two digits
pub date_text-digits : (c : CivilDate) → c.year < 10000 → c.month < 100 → c.day < 100 → date_text c ≡ date_text_by_digits c.year c.month c.day
date_text-digits c y m d = rw (four c.year y, two c.month m, two c.day d) refl
