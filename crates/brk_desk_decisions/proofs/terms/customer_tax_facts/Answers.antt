use Rattle.std.proofs.Common.{◌≡◌, ◌≤◌}
use Rattle.std.specs.Prelude.{SomeIff}
use Rattle.brk_money.specs.declared.fault.CallFault.{CallFault}
use Rattle.brk_model.specs.Form.{has_customer}
use Rattle.brk_model.specs.Limits.{greatest_tax_rate}
use Rattle.brk_model.specs.Tables.{Tables}
use Rattle.brk_trade_plans.specs.declared.reference.ReferenceFacts.{ReferenceFacts}
use Rattle.brk_trade_books.specs.Reads.{contains_customer_tax, customer_tax_rate_sum, rate_of_tax_rate_with_id}
use Rattle.brk_trade_theorems.specs.Found.{CustomerTaxFactsMatchTables}
use Rattle.brk_store_reads.proofs.Sequences.{failed_after, read_with, unchanged_after}
use Rattle.std.proofs.lemmas.Result.{err_from_is_err_and}
use Rattle.brk_store_reads.specs.ReadSequences.{single_read_changes_nothing}
use Rattle.brk_desk_decisions.proofs.terms.customer_tax_facts.Goals as goal

pub returns : goal.returns
returns g c =
    let old = c.args.store.now in
    let pays = c.args.pays.now in
    let customer = c.in_ok-customer.customer in
    let rate = c.in_ok-rate.rate in
    let same_id = c.in_ok-same_id.same_id in
    let rates = c.in_ok-rates.rates in
    let customer_read : Tables → Type 0 = λ t. customer ≡ has_customer t pays.customer in
    let rate_read : Tables → Type 0 = λ t. rate ≡ rate_of_tax_rate_with_id t pays.tax in
    let id_read : Tables → Type 0 = λ t. same_id ≡ contains_customer_tax t pays.customer pays.tax in
    let one =
    read_with g.S.Store old c.customer_exists.new.store c.stored_rate.new.store {X = Unit {0}} {H = CallFault} customer rate tt
    (λ there (t : Tables). there ≡ has_customer t pays.customer) (λ rate (t : Tables). rate ≡ rate_of_tax_rate_with_id t pays.tax) (λ _ t. customer_read t × rate_read t) (λ t a b. (a, b))
    c.in_ok-customer.ensures c.in_ok-rate.ensures in
    let two =
    read_with g.S.Store old c.stored_rate.new.store c.has_customer_tax.new.store {X = Unit {0}} {H = CallFault} tt same_id tt
    (λ _ t. customer_read t × rate_read t) (λ there (t : Tables). there ≡ contains_customer_tax t pays.customer pays.tax) (λ _ t. (customer_read t × rate_read t) × id_read t) (λ t a b. (a, b))
    one c.in_ok-same_id.ensures in
    read_with g.S.Store old c.has_customer_tax.new.store c.checked_tax_rate_sum.new.store {H = CallFault} tt rates _
    (λ _ t. (customer_read t × rate_read t) × id_read t) (λ rates (t : Tables). SomeIff rates (customer_tax_rate_sum t pays.customer ≤ greatest_tax_rate) (customer_tax_rate_sum t pays.customer))
    (λ (found : ReferenceFacts) (t : Tables). CustomerTaxFactsMatchTables t pays.customer pays.tax found)
    (λ t k s. record { customer_there = k.0.0; rate_there = k.0.1; same_id = k.1; sum = s })
    two c.in_ok-rates.ensures

pub returns-in_err-rate : goal.returns-in_err-rate
returns-in_err-rate g c =
    let old = c.args.store.now in
    let p = err_from_is_err_and c.from_residual-in_err-rate.result c.from_residual-in_err-rate.ensures.1 in
    rw p.1 (failed_after g.S.Store old c.customer_exists.new.store c.stored_rate.new.store _ p.0 _ _
    (single_read_changes_nothing old c.customer_exists.new.store _ _ c.in_ok-customer.ensures) c.in_err-rate.ensures)

pub returns-in_err-same_id : goal.returns-in_err-same_id
returns-in_err-same_id g c =
    let old = c.args.store.now in
    let p = err_from_is_err_and c.from_residual-in_err-same_id.result c.from_residual-in_err-same_id.ensures.1 in
    rw p.1 (failed_after g.S.Store old c.stored_rate.new.store c.has_customer_tax.new.store _ p.0 _ _
    (unchanged_after g.S.Store old c.customer_exists.new.store c.stored_rate.new.store _ _
    (single_read_changes_nothing old c.customer_exists.new.store _ _ c.in_ok-customer.ensures) c.in_ok-rate.ensures)
    c.in_err-same_id.ensures)

pub returns-in_err-rates : goal.returns-in_err-rates
returns-in_err-rates g c =
    let old = c.args.store.now in
    let p = err_from_is_err_and c.from_residual-in_err-rates.result c.from_residual-in_err-rates.ensures.1 in
    rw p.1 (failed_after g.S.Store old c.has_customer_tax.new.store c.checked_tax_rate_sum.new.store _ p.0 _ _
    (unchanged_after g.S.Store old c.stored_rate.new.store c.has_customer_tax.new.store _ _
    (unchanged_after g.S.Store old c.customer_exists.new.store c.stored_rate.new.store _ _
    (single_read_changes_nothing old c.customer_exists.new.store _ _ c.in_ok-customer.ensures) c.in_ok-rate.ensures) c.in_ok-same_id.ensures)
    c.in_err-rates.ensures)
