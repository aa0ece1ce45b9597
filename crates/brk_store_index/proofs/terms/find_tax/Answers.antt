use Rattle.std.proofs.Common.{◌∙◌, ◌==◌, Some, ap, option_map, rules, sym, tests}
use Rattle.std.proofs.lemmas.Iterator.{YieldsList-from_slice}
use Rattle.std.proofs.lemmas.Iterator.Search.{find_from_yields_List}
use Rattle.brk_ref.specs.Records.{abstract_tax_rate}
use Rattle.brk_store_index.proofs.Ranking.{found_mapped}
use Rattle.brk_store_index.proofs.terms.find_tax.Goals as goal

pub returns : goal.returns
returns c =
    let rows = c.args.rows.now in
    let found = find_from_yields_List (λ r. r.id == c.args.id) _ _ c.find.result c.find.ensures.ran (YieldsList-from_slice rows cc) (λ x b q k. search (rules, tests)) in
    let some = sym found ∙ ap (option_map (λ r. r.now)) c.in-Some.is in
    ap Some c.in_ok-copy.ensures ∙ sym (found_mapped abstract_tax_rate (λ r. r.id == c.args.id) rows ∙ ap (option_map abstract_tax_rate) some)

pub returns-in_default : goal.returns-in_default
returns-in_default c =
    let rows = c.args.rows.now in
    let found = find_from_yields_List (λ r. r.id == c.args.id) _ _ c.find.result c.find.ensures.ran (YieldsList-from_slice rows cc) (λ x b q k. search (rules, tests)) in
    let none = sym found ∙ ap (option_map (λ r. r.now)) c.in_default.is in
    sym (found_mapped abstract_tax_rate (λ r. r.id == c.args.id) rows ∙ ap (option_map abstract_tax_rate) none)
