use Rattle.std.proofs.Common.{arith, ap, sym, ◌∙◌, ◌≡◌, true, FitsSigned, w32, to_z-of_z}
use Rattle.std.specs.Str.{bytes_eq}
use Rattle.std.proofs.lemmas.Slice.Eq.{bytes_eq-Decides}
use Rattle.jiff.proofs.SpanFacts.{signed_arith}
use Rattle.jiff_fmt.specs.Temporal.{parse_date}
use Rattle.brk_money.proofs.DayTexts.{number_of_text, parse_date-day_text, text_of}
use Rattle.brk_money.proofs.dates.parse_day.Goals as goal

pub returns-in_default-clause-none : goal.returns-in_default-clause-none
returns-in_default-clause-none c = λ n h e.
    let both = c.in_default.ensures ∙ ap parse_date e ∙ parse_date-day_text n h in
    cc

pub returns-then-ne-clause-none : goal.returns-then-ne-clause-none
returns-then-ne-clause-none c = λ n h e.
    let day = number_of_text c.in-Ok.date n h (c.in-Ok.ensures ∙ ap parse_date e) in
    let text = c.as_bytes.ensures.value ∙ c.as_str.ensures.value ∙ c.date_text.ensures ∙ text_of c.in-Ok.date n day in
    let both = rw ((bytes_eq-Decides c.as_bytes.result.now c.args.bytes.now).1 (text ∙ sym e)) at c.if-ne.ensures in
    cc

pub returns-clause-found : goal.returns-clause-found
returns-clause-found c =
    let fits : FitsSigned w32 c.to_unix_epoch_day.result = omega (arith, signed_arith, c.to_unix_epoch_day.ensures.bound) in
    let day = sym c.to_unix_epoch_day.ensures.value ∙ sym (to_z-of_z fits) ∙ c.in_ok-day.ensures.found in
    let same : bytes_eq c.as_bytes.result.now c.args.bytes.now ≡ true = grind (arith, c.if-ne.ensures) in
    sym ((bytes_eq-Decides _ _).0 same) ∙ c.as_bytes.ensures.value ∙ c.as_str.ensures.value ∙ c.date_text.ensures ∙ text_of c.in-Ok.date c.in_ok-day.day day
