use Rattle.std.proofs.Common.{◌==◌, false, Err, rules, refl, sym, ◌∙◌, ap, map}
use Rattle.std.specs.Prelude.{find}
use Rattle.std.proofs.lemmas.List.Sorted.{answers_always}
use Rattle.brk_ref.specs.Rows.{abstract_trade_row}
use Rattle.brk_trade_rows.specs.Sheets.{abstract_sheets}
use Rattle.brk_audit_theorems.proofs.Parts.{key_parts}
use Rattle.brk_audit_form.proofs.Searches.{number_found}
use Rattle.brk_audit_form.proofs.Places.{number_placed, none_found}
use Rattle.brk_audit_form.proofs.references.find_trade.Goals as goal

pub returns-in-Ok : goal.returns-in-Ok
returns-in-Ok c =
    let s = c.args.sheets.now in
    let place = c.in-Ok.ensures.position (λ r. r.id) (answers_always _ _ _ (λ f a r g called. search rules)) in
    number_placed abstract_trade_row (λ r. r.id) s.trades.items c.deref.result.now c.get-number.result c.in-Ok.place c.index.result.now
    c.deref.ensures.value (key_parts (abstract_sheets s) c.requires).trades c.in-Ok.ensures.bound (place c.index.result.now) c.index.ensures
    ∙ ap (λ n. find (λ r. r.id == n) (map abstract_trade_row s.trades.items)) c.get-number.ensures.value

pub returns-in-Err : goal.returns-in-Err
returns-in-Err c =
    let s = c.args.sheets.now in
    let place = c.in-Err.ensures.position (λ r. r.id) (answers_always _ _ _ (λ f a r g called. search rules)) in
    sym (none_found (λ r. r.id == c.get-number.result) (map abstract_trade_row s.trades.items)
    (number_found abstract_trade_row (λ r. r.id) s.trades.items c.deref.result.now c.get-number.result (Err c.in-Err.field-0) false
    c.deref.ensures.value (key_parts (abstract_sheets s) c.requires).trades c.in-Err.ensures.bound place refl))
    ∙ ap (λ n. find (λ r. r.id == n) (map abstract_trade_row s.trades.items)) c.get-number.ensures.value
