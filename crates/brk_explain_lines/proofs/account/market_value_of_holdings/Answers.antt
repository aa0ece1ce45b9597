use Rattle.std.proofs.Common.{◌∙◌, ◌+ℤ◌, ℤ, ◌++◌, [], ◌∷◌, ap, map, sym, take}
use Rattle.std.proofs.lemmas.List.{map-append, take_more}
use Rattle.brk_model_explain.specs.AccountLines.{market_value_of_holding}
use Rattle.brk_model_explain.specs.AccountLines as lines
use Rattle.brk_explain_rows.specs.Details.{abstract_priced_holding}
use Rattle.brk_model.specs.Lists.{total_by}
use Rattle.brk_explain_columns.proofs.Totals.{total_by-more, total_by-none}
use Rattle.brk_explain_lines.proofs.account.market_value_of_holdings.Goals as goal

pub loop-held-init : goal.loop-held-init
loop-held-init c = c.new-total.ensures ∙ sym (total_by-none market_value_of_holding)

pub loop-held-preserved : goal.loop-held-preserved
loop-held-preserved c =
    let all = c.args.all.now in
    let i = c.loop-held.held-index in
    let held = c.held-item.result in
    c.in_ok-total.ensures ∙ ap (λ (z : ℤ). z +ℤ c.in_ok-worth.worth) c.loop-held.invariant
    ∙ ap (λ (z : ℤ). lines.market_value_of_holdings (map abstract_priced_holding (take i all)) +ℤ z) c.in_ok-worth.ensures
    ∙ sym (total_by-more market_value_of_holding (map abstract_priced_holding (take i all)) (abstract_priced_holding held))
    ∙ ap (total_by market_value_of_holding)
    (sym (map-append abstract_priced_holding (take i all) (held ∷ []))
    ∙ ap (map abstract_priced_holding) (ap (λ x. take i all ++ x ∷ []) c.held-item.is ∙ sym (take_more all i held c.loop-held-test.true)))
