use Rattle.std.proofs.Common.{rules, nat_cmp}
use Rattle.std.specs.Cmp.Lexicographic.{slice_cmp}
use Rattle.std.proofs.lemmas.Fn.{always_returns_same}
use Rattle.brk_ref.specs.Records.{abstract_last_trade_row}
use Rattle.brk_trade_rows.specs.Sheets.{abstract_sheets}
use Rattle.brk_audit_theorems.proofs.Parts.{key_parts}
use Rattle.brk_audit_form.proofs.Searches.{word_found}
use Rattle.brk_audit_form.proofs.references.has_last_trade.Goals as goal

pub returns : goal.returns
returns c =
    let s = c.args.sheets.now in
    let found = c.binary_search_by.ensures in
    let place = found.position (λ r. slice_cmp nat_cmp r.symbol c.args.symbol.now) (always_returns_same _ _ _ (λ a r g called. (search rules, search rules))) in
    word_found abstract_last_trade_row (λ r. r.symbol) s.last_trades.items c.deref.result.now c.args.symbol.now c.binary_search_by.result c.is_ok.result
    c.deref.ensures.value (key_parts (abstract_sheets s) c.requires).last_trades found.bound place c.is_ok.ensures.value
