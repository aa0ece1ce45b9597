use Rattle.std.proofs.Common.{subst, sym}
use Rattle.brk_money.specs.declared.fault.CallFault.{CallFault}
use Rattle.brk_model.specs.Tables.{Tables}
use Rattle.brk_desk_decisions.specs.OrderFactReads.{EstimateAmountsMatchTables, CustomerOrderFactsMatchTables, EstimateFactsMatchIfAccountOfOrder}
use Rattle.brk_store_required.specs.Required.{IsCustomerWithId}
use Rattle.brk_store_reads.proofs.Sequences.{failed_after, read_with, unchanged_after}
use Rattle.brk_desk_decisions.proofs.OrderFinds.{all_found}
use Rattle.std.proofs.lemmas.Result.{err_from_is_err_and}
use Rattle.brk_store_reads.specs.ReadSequences.{single_read_changes_nothing}
use Rattle.brk_desk_decisions.proofs.order_finding.estimate_facts_of_account.Goals as goal

pub returns : goal.returns
returns g c =
    let old = c.args.store.now in
    let order = c.args.order.now in
    let account = c.args.account.now in
    let customer = c.in_ok-customer.customer in
    let tested = c.in_ok-tested.tested in
    let amounts = c.in_ok-amounts.amounts in
    read_with g.S.Store old c.order_check_facts.new.store c.read_order_amounts.new.store {H = CallFault} tested amounts c.facts_with_account.result
    (λ tested (t : Tables). IsCustomerWithId t account.account.customer customer × CustomerOrderFactsMatchTables t order customer tested)
    (λ amounts (t : Tables). EstimateAmountsMatchTables t account order amounts)
    (λ found (t : Tables). EstimateFactsMatchIfAccountOfOrder t order account found)
    (λ t k y. subst (λ found. EstimateFactsMatchIfAccountOfOrder t order account found) (sym c.facts_with_account.ensures) (all_found t order account customer tested amounts k.0 k.1 y))
    (read_with g.S.Store old c.require_customer.new.store c.order_check_facts.new.store {H = CallFault} customer tested tested
    (λ customer (t : Tables). IsCustomerWithId t account.account.customer customer) (λ tested (t : Tables). CustomerOrderFactsMatchTables t order customer tested)
    (λ tested (t : Tables). IsCustomerWithId t account.account.customer customer × CustomerOrderFactsMatchTables t order customer tested)
    (λ t k x. (k, x)) c.in_ok-customer.ensures.read c.in_ok-tested.ensures)
    c.in_ok-amounts.ensures

pub returns-in_err-tested : goal.returns-in_err-tested
returns-in_err-tested g c =
    let old = c.args.store.now in
    let p = err_from_is_err_and c.from_residual-in_err-tested.result c.from_residual-in_err-tested.ensures.1 in
    rw p.1 (failed_after g.S.Store old c.require_customer.new.store c.order_check_facts.new.store _ p.0 _ _
    (single_read_changes_nothing old c.require_customer.new.store _ _ c.in_ok-customer.ensures.read) c.in_err-tested.ensures)

pub returns-in_err-amounts : goal.returns-in_err-amounts
returns-in_err-amounts g c =
    let old = c.args.store.now in
    let p = err_from_is_err_and c.from_residual-in_err-amounts.result c.from_residual-in_err-amounts.ensures.1 in
    rw p.1 (failed_after g.S.Store old c.order_check_facts.new.store c.read_order_amounts.new.store _ p.0 _ _
    (unchanged_after g.S.Store old c.require_customer.new.store c.order_check_facts.new.store _ _
    (single_read_changes_nothing old c.require_customer.new.store _ _ c.in_ok-customer.ensures.read) c.in_ok-tested.ensures)
    c.in_err-amounts.ensures)
