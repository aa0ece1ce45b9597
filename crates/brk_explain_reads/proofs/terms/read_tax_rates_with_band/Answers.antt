use Rattle.std.proofs.Common.{◌≡◌, ◌==◌, ◌∙◌, Option, Some, ap, find, map, option_map, sym}
use Rattle.brk_money.specs.declared.fault.CallFault.{CallFault}
use Rattle.brk_ref.specs.Rows.{abstract_trade_row}
use Rattle.brk_model.specs.Records.{Customer}
use Rattle.brk_model.specs.Tables.{Tables}
use Rattle.brk_ref.specs.Records.{abstract_band, abstract_customer, abstract_security_row, abstract_tax_rate}
use Rattle.brk_model_explain.specs.Trades.{band_for_customer_and_security, band_for_tier_and_exchange, tax_rates_of_customer}
use Rattle.brk_explain_reads.specs.Found.{AreTaxRatesAndBand}
use Rattle.brk_explain_reads.specs.declared.terms.TaxRatesAndBand.{TaxRatesAndBand}
use Rattle.brk_store_reads.proofs.Sequences.{read_with, none_read}
use Rattle.brk_explain_reads.proofs.Reading.{both_change_nothing}
use Rattle.std.proofs.lemmas.Result.{err_from_is_err_and}
use Rattle.brk_store_reads.specs.ReadSequences.{joined_reads_change_nothing, single_read_changes_nothing}
use Rattle.brk_explain_reads.proofs.terms.read_tax_rates_with_band.Goals as goal

pub returns : goal.returns
returns g c =
    let old = c.args.store.now in
    let order = c.args.order.now in
    let id = order.account.account.customer in
    let u = abstract_trade_row order.trade in
    let customer = c.in_ok-customer.customer in
    let rates = c.in_ok-rates.rates in
    let band = c.in_ok-band.band in
    let terms : TaxRatesAndBand = record { rates = rates; band = band } in
    read_with g.S.Store old c.customer_rates.new.store c.band_for_tier.new.store {H = CallFault} rates band terms
    (λ rates (t : Tables). (find (λ (r : Customer). r.id == id) t.customers ≡ Some (abstract_customer customer)) × (map abstract_tax_rate rates.items ≡ tax_rates_of_customer t id))
    (λ band (t : Tables). option_map abstract_band band ≡ band_for_tier_and_exchange t u customer.tier order.security.exchange)
    (λ terms (t : Tables). AreTaxRatesAndBand t order terms)
    (λ t k e. (k.1, e ∙ ap (λ (o : Option Customer). band_for_customer_and_security t u o (Some (abstract_security_row order.security))) (sym k.0)))
    (read_with g.S.Store old c.require_customer.new.store c.customer_rates.new.store {H = CallFault} customer rates rates
    (λ customer (t : Tables). find (λ (r : Customer). r.id == id) t.customers ≡ Some (abstract_customer customer))
    (λ rates (t : Tables). map abstract_tax_rate rates.items ≡ tax_rates_of_customer t id)
    (λ rates (t : Tables). (find (λ (r : Customer). r.id == id) t.customers ≡ Some (abstract_customer customer)) × (map abstract_tax_rate rates.items ≡ tax_rates_of_customer t id))
    (λ t a b. (a, b)) c.in_ok-customer.ensures.read c.in_ok-rates.ensures)
    c.in_ok-band.ensures

pub returns-in_err-rates : goal.returns-in_err-rates
returns-in_err-rates g c =
    let old = c.args.store.now in
    let mid = c.require_customer.new.store in
    let end = c.customer_rates.new.store in
    let p = err_from_is_err_and c.from_residual-in_err-rates.result c.from_residual-in_err-rates.ensures.1 in
    rw p.1 (none_read g.S.Store old end p.0 _ (both_change_nothing g.S.Store old mid end _ _ _ _ c.in_ok-customer.ensures.read c.in_err-rates.ensures))

pub returns-in_err-band : goal.returns-in_err-band
returns-in_err-band g c =
    let old = c.args.store.now in
    let mid = c.require_customer.new.store in
    let late = c.customer_rates.new.store in
    let end = c.band_for_tier.new.store in
    let p = err_from_is_err_and c.from_residual-in_err-band.result c.from_residual-in_err-band.ensures.1 in
    rw p.1
    (none_read g.S.Store old end p.0 _
    (joined_reads_change_nothing old late end (both_change_nothing g.S.Store old mid late _ _ _ _ c.in_ok-customer.ensures.read c.in_ok-rates.ensures)
    (single_read_changes_nothing late end _ _ c.in_err-band.ensures)))
