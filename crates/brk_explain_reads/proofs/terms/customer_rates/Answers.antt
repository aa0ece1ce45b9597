use Rattle.std.proofs.Common.{◌≡◌, ◌==◌, ◌∙◌, ◌+◌, ◌++◌, ◌∷◌, [], ℕ, List, Option, Some, ap, filter, find, map, sym, take}
use Rattle.std.proofs.lemmas.List.{take_all}
use Rattle.brk_money.specs.declared.fault.CallFault.{CallFault}
use Rattle.brk_model.specs.Records.{CustomerTax, TaxRate}
use Rattle.brk_model.specs.Tables.{Tables}
use Rattle.brk_ref.specs.Records.{abstract_customer_tax, abstract_tax_rate}
use Rattle.brk_ref.specs.declared.customer_tax.CustomerTax as ref
use Rattle.brk_ref.specs.declared.tax.Tax.{Tax}
use Rattle.brk_store_reads.proofs.Retelling.{retold}
use Rattle.brk_model_explain.specs.Trades.{tax_rates_of_customer}
use Rattle.brk_explain_reads.proofs.Each.{map_map, one_more}
use Rattle.brk_store_reads.proofs.Sequences.{read_with, none_read}
use Rattle.brk_explain_reads.proofs.Reading.{both_change_nothing}
use Rattle.brk_explain_reads.proofs.TermParts.{one_by_one}
use Rattle.std.proofs.lemmas.Result.{err_from_is_err_and}
use Rattle.brk_explain_reads.proofs.terms.customer_rates.Goals as goal

-- the tax rate of a customer's tax, if it exists
abbrev rate_of : Tables → CustomerTax → Option TaxRate
rate_of t x = find (λ (r : TaxRate). r.id == x.tax) t.tax_rates

-- the taxes of a customer, and the rates of the first of them
abbrev FirstRates : ℕ → List ref.CustomerTax → List Tax → ℕ → Tables → Type 0
FirstRates customer rows rates i t =
    (map abstract_customer_tax rows ≡ filter (λ (r : CustomerTax). r.customer == customer) t.customer_taxes)
    × (map (λ rate. Some (abstract_tax_rate rate)) rates ≡ map (λ x. rate_of t (abstract_customer_tax x)) (take i rows))

pub loop-row-init : goal.loop-row-init
loop-row-init g c =
    retold g.S.Store c.args.store.now c.taxes_of_customer.new.self c.in_ok-rows.rows tt
    (λ all (t : Tables). map abstract_customer_tax all.items ≡ filter (λ (r : CustomerTax). r.customer == c.args.customer) t.customer_taxes)
    (λ _. FirstRates c.args.customer c.deref-row-items.result.now c.new-rates.result.items 0)
    (λ t e. (ap (map abstract_customer_tax) c.deref-row-items.ensures.value ∙ e, ap (map (λ rate. Some (abstract_tax_rate rate))) c.new-rates.ensures.items))
    c.in_ok-rows.ensures.read

pub loop-row-preserved : goal.loop-row-preserved
loop-row-preserved g c =
    let rows = c.deref-row-items.result.now in
    let i = c.loop-row.row-index in
    let row = c.row-item.result in
    let before = c.loop-row.rates.items in
    let rate = c.in_ok-rate.rate in
    rw c.in_ok-push.ensures.items
    (read_with g.S.Store c.args.store.now c.loop-row.store c.require_tax.new.store {H = CallFault} tt rate tt
    (λ _. FirstRates c.args.customer rows before i)
    (λ rate (t : Tables). rate_of t (abstract_customer_tax row) ≡ Some (abstract_tax_rate rate))
    (λ _. FirstRates c.args.customer rows (before ++ rate ∷ []) (i + 1))
    (λ t p e. (p.0, one_more (λ rate. Some (abstract_tax_rate rate)) (λ x. rate_of t (abstract_customer_tax x)) before rows i rate row c.loop-row-test.true c.row-item.is (sym e) p.1))
    c.loop-row.invariant c.in_ok-rate.ensures.read)

pub returns : goal.returns
returns g c =
    let rows = c.deref-row-items.result.now in
    let i = c.loop-row.row-index in
    let rates = c.loop-row.rates in
    retold g.S.Store c.args.store.now c.loop-row.store tt rates
    (λ _. FirstRates c.args.customer rows rates.items i)
    (λ rates (t : Tables). map abstract_tax_rate rates.items ≡ tax_rates_of_customer t c.args.customer)
    (λ t p. one_by_one (rate_of t) (filter (λ (r : CustomerTax). r.customer == c.args.customer) t.customer_taxes) (map abstract_tax_rate rates.items)
    (map_map Some abstract_tax_rate rates.items ∙ p.1 ∙ ap (map (λ x. rate_of t (abstract_customer_tax x))) (take_all i rows c.loop-row-test.false)
    ∙ sym (map_map (rate_of t) abstract_customer_tax rows) ∙ ap (map (rate_of t)) p.0))
    c.loop-row.invariant

pub returns-in_err-rate : goal.returns-in_err-rate
returns-in_err-rate g c =
    let old = c.args.store.now in
    let mid = c.loop-row.store in
    let end = c.require_tax.new.store in
    let p = err_from_is_err_and c.from_residual-in_err-rate.result c.from_residual-in_err-rate.ensures.1 in
    rw p.1 (none_read g.S.Store old end p.0 _ (both_change_nothing g.S.Store old mid end _ _ _ _ c.loop-row.invariant c.in_err-rate.ensures.read))

pub returns-in_err-push : goal.returns-in_err-push
returns-in_err-push g c =
    let old = c.args.store.now in
    let mid = c.loop-row.store in
    let end = c.require_tax.new.store in
    let p = err_from_is_err_and c.from_residual-in_err-push.result c.from_residual-in_err-push.ensures.1 in
    rw p.1 (none_read g.S.Store old end p.0 _ (both_change_nothing g.S.Store old mid end _ _ _ _ c.loop-row.invariant c.in_ok-rate.ensures.read))
