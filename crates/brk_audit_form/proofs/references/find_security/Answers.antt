use Rattle.std.proofs.Common.{false, Err, rules, refl, sym, map, nat_cmp}
use Rattle.std.specs.Prelude.{bytes_eq}
use Rattle.std.specs.Cmp.Lexicographic.{slice_cmp}
use Rattle.std.proofs.lemmas.Fn.{always_returns_same}
use Rattle.brk_ref.specs.Records.{abstract_security_row}
use Rattle.brk_trade_rows.specs.Sheets.{abstract_sheets}
use Rattle.brk_audit_theorems.proofs.Parts.{key_parts}
use Rattle.brk_audit_form.proofs.Searches.{word_found}
use Rattle.brk_audit_form.proofs.Places.{word_placed, none_found}
use Rattle.brk_audit_form.proofs.references.find_security.Goals as goal

pub returns-in-Ok : goal.returns-in-Ok
returns-in-Ok c =
    let s = c.args.sheets.now in
    let place = c.in-Ok.ensures.position (λ r. slice_cmp nat_cmp r.symbol c.args.symbol.now) (always_returns_same _ _ _ (λ a r g called. (search rules, search rules))) in
    word_placed abstract_security_row (λ r. r.symbol) s.securities.items c.deref.result.now c.args.symbol.now c.in-Ok.place c.index.result.now
    c.deref.ensures.value (key_parts (abstract_sheets s) c.requires).securities c.in-Ok.ensures.bound (place c.index.result.now) c.index.ensures

pub returns-in-Err : goal.returns-in-Err
returns-in-Err c =
    let s = c.args.sheets.now in
    let place = c.in-Err.ensures.position (λ r. slice_cmp nat_cmp r.symbol c.args.symbol.now) (always_returns_same _ _ _ (λ a r g called. (search rules, search rules))) in
    sym (none_found (λ r. bytes_eq r.symbol c.args.symbol.now) (map abstract_security_row s.securities.items)
    (word_found abstract_security_row (λ r. r.symbol) s.securities.items c.deref.result.now c.args.symbol.now (Err c.in-Err.field-0) false
    c.deref.ensures.value (key_parts (abstract_sheets s) c.requires).securities c.in-Err.ensures.bound place refl))
