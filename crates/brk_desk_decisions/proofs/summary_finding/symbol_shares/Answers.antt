use Rattle.std.proofs.Common.{Some, rules, sym, ap, ◌∙◌, tests, w64}
use Rattle.std.specs.Prelude.{bytes_eq, option_map}
use Rattle.std.proofs.lemmas.Int.{to_z-of_z}
use Rattle.std.proofs.lemmas.Iterator.{YieldsList-from_slice}
use Rattle.std.proofs.lemmas.Iterator.Search.{find_from_yields_List}
use Rattle.brk_ref.specs.Rows.{abstract_summary_row}
use Rattle.brk_ref.proofs.Lists.{found_mapped}
use Rattle.brk_desk_decisions.proofs.summary_finding.symbol_shares.Goals as goal

pub returns : goal.returns
returns c =
    let rows = c.args.rows.now in
    let found = find_from_yields_List (λ r. bytes_eq r.symbol c.args.symbol.now) _ _ c.find.result c.find.ensures.ran (YieldsList-from_slice rows cc) (λ x b q k. search (rules, tests)) in
    let some = sym found ∙ ap (option_map (λ r. r.now)) c.in-Some.is in
    ap Some (to_z-of_z w64 c.summary_shares-qty.result (search rules) ∙ c.summary_shares-qty.ensures)
    ∙ sym (found_mapped (λ r. bytes_eq r.symbol c.args.symbol.now) abstract_summary_row (λ r. r.qty) rows ∙ ap (option_map (λ r. r.qty)) some)

pub returns-in_default : goal.returns-in_default
returns-in_default c =
    let rows = c.args.rows.now in
    let found = find_from_yields_List (λ r. bytes_eq r.symbol c.args.symbol.now) _ _ c.find.result c.find.ensures.ran (YieldsList-from_slice rows cc) (λ x b q k. search (rules, tests)) in
    let none = sym found ∙ ap (option_map (λ r. r.now)) c.in_default.is in
    sym (found_mapped (λ r. bytes_eq r.symbol c.args.symbol.now) abstract_summary_row (λ r. r.qty) rows ∙ ap (option_map (λ r. r.qty)) none)
