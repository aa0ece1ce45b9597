use Rattle.std.proofs.Common.{◌==◌, rules, ◌∙◌, ap, map}
use Rattle.std.specs.List.{list_any}
use Rattle.std.proofs.lemmas.List.Sorted.{answers_always}
use Rattle.brk_ref.specs.Rows.{abstract_trade_row}
use Rattle.brk_trade_rows.specs.Sheets.{abstract_sheets}
use Rattle.brk_audit_theorems.proofs.Parts.{key_parts}
use Rattle.brk_audit_form.proofs.Searches.{number_found, any_found}
use Rattle.brk_audit_form.proofs.references.has_trade.Goals as goal

pub returns : goal.returns
returns c =
    let s = c.args.sheets.now in
    let found = c.binary_search_by_key.ensures in
    let place = found.position (λ r. r.id) (answers_always _ _ _ (λ f a r g called. search rules)) in
    number_found abstract_trade_row (λ r. r.id) s.trades.items c.deref.result.now c.get-number.result c.binary_search_by_key.result c.is_ok.result
    c.deref.ensures.value (key_parts (abstract_sheets s) c.requires).trades found.bound place c.is_ok.ensures.value
    ∙ ap (λ n. list_any (λ r. r.id == n) (map abstract_trade_row s.trades.items)) c.get-number.ensures.value
    ∙ any_found (λ r. r.id == c.args.id) (map abstract_trade_row s.trades.items)
