use Rattle.std.proofs.Common.{rules, nat_cmp}
use Rattle.std.specs.Ordering.{ordering_then}
use Rattle.std.specs.Cmp.Lexicographic.{slice_cmp}
use Rattle.std.proofs.lemmas.Fn.{always_returns_same}
use Rattle.brk_money.specs.Kinds.{trade_status_code}
use Rattle.brk_trade_rows.specs.Sheets.{abstract_sheets}
use Rattle.brk_audit_theorems.proofs.Parts.{key_parts}
use Rattle.brk_audit_form.proofs.Places.{completion_found}
use Rattle.brk_audit_form.proofs.references.has_completion.Goals as goal

pub returns : goal.returns
returns c =
    let s = c.args.sheets.now in
    let code = c.code-code.result.now in
    let found = c.binary_search_by.ensures in
    let place = found.position (λ h. ordering_then (nat_cmp h.trade c.args.id) (slice_cmp nat_cmp (trade_status_code h.status) code))
    (always_returns_same _ _ _ (λ a r g called. (search rules, search rules))) in
    completion_found s.history.items c.deref.result.now c.args.id code c.binary_search_by.result c.is_ok.result
    c.deref.ensures.value c.code-code.ensures (key_parts (abstract_sheets s) c.requires).history found.bound place c.is_ok.ensures.value
