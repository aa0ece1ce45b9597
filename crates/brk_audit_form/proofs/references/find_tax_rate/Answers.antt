use Rattle.std.proofs.Common.{◌==◌, false, Err, rules, refl, sym, ◌∙◌, ap, map}
use Rattle.std.specs.Prelude.{find}
use Rattle.std.proofs.lemmas.List.Sorted.{answers_always}
use Rattle.brk_ref.specs.Records.{abstract_tax_rate}
use Rattle.brk_trade_rows.specs.Sheets.{abstract_sheets}
use Rattle.brk_audit_theorems.proofs.Parts.{key_parts}
use Rattle.brk_audit_form.proofs.Searches.{number_found}
use Rattle.brk_audit_form.proofs.Places.{number_placed, none_found}
use Rattle.brk_audit_form.proofs.references.find_tax_rate.Goals as goal

pub returns-in-Ok : goal.returns-in-Ok
returns-in-Ok c =
    let s = c.args.sheets.now in
    let place = c.in-Ok.ensures.position (λ r. r.id) (answers_always _ _ _ (λ f a r g called. search rules)) in
    number_placed abstract_tax_rate (λ r. r.id) s.tax_rates.items c.deref.result.now c.get-number.result c.in-Ok.place c.index.result.now
    c.deref.ensures.value (key_parts (abstract_sheets s) c.requires).tax_rates c.in-Ok.ensures.bound (place c.index.result.now) c.index.ensures
    ∙ ap (λ n. find (λ r. r.id == n) (map abstract_tax_rate s.tax_rates.items)) c.get-number.ensures.value

pub returns-in-Err : goal.returns-in-Err
returns-in-Err c =
    let s = c.args.sheets.now in
    let place = c.in-Err.ensures.position (λ r. r.id) (answers_always _ _ _ (λ f a r g called. search rules)) in
    sym (none_found (λ r. r.id == c.get-number.result) (map abstract_tax_rate s.tax_rates.items)
    (number_found abstract_tax_rate (λ r. r.id) s.tax_rates.items c.deref.result.now c.get-number.result (Err c.in-Err.field-0) false
    c.deref.ensures.value (key_parts (abstract_sheets s) c.requires).tax_rates c.in-Err.ensures.bound place refl))
    ∙ ap (λ n. find (λ r. r.id == n) (map abstract_tax_rate s.tax_rates.items)) c.get-number.ensures.value
