use Rattle.std.proofs.Common.{◌∙◌, ◌++◌, [], ◌∷◌, ap, map, sym, take}
use Rattle.std.proofs.lemmas.Grind.{flat_map-append}
use Rattle.std.proofs.lemmas.List.{map-append, take_more}
use Rattle.brk_model_explain.specs.AccountLines.{holding_line}
use Rattle.brk_explain_rows.specs.Details.{abstract_priced_holding}
use Rattle.brk_model.specs.Statement.{text_of_lines}
use Rattle.brk_money.specs.Spelling.{Text}
use Rattle.brk_report_lines.specs.Written.{line_with_line_feed}
use Rattle.brk_explain_columns.proofs.Chains.{last, more}
use Rattle.brk_explain_lines.proofs.account.put_held_lines.Goals as goal

pub loop-held-preserved : goal.loop-held-preserved
loop-held-preserved c =
    let all = c.args.all.now in
    let i = c.loop-held.held-index in
    let held = c.held-item.result in
    let o = c.args.out.now.items in
    let first = map holding_line (map abstract_priced_holding (take i all)) in
    let next = holding_line (abstract_priced_holding held) in
    more o (text_of_lines first) (line_with_line_feed next ++ []) c.loop-held.out.items c.put_holding.new.out.items c.loop-held.invariant
    (last c.loop-held.out.items (line_with_line_feed next) c.put_holding.new.out.items c.in_ok-put_holding.ensures)
    ∙ ap (λ (t : Text). o ++ t) (sym (flat_map-append line_with_line_feed first (next ∷ [])))
    ∙ ap (λ hs. o ++ text_of_lines hs)
    (sym (map-append holding_line (map abstract_priced_holding (take i all)) (abstract_priced_holding held ∷ []))
    ∙ ap (map holding_line)
    (sym (map-append abstract_priced_holding (take i all) (held ∷ []))
    ∙ ap (map abstract_priced_holding) (ap (λ x. take i all ++ x ∷ []) c.held-item.is ∙ sym (take_more all i held c.loop-held-test.true))))
