use Rattle.std.proofs.Common.{◌≡◌}
use Rattle.brk_money.specs.declared.fault.CallFault.{CallFault}
use Rattle.brk_model.specs.Form.{has_account, has_broker, has_customer}
use Rattle.brk_model.specs.Tables.{Tables}
use Rattle.brk_trade_plans.specs.declared.reference.ReferenceFacts.{ReferenceFacts}
use Rattle.brk_trade_books.specs.Reads.{account_count_of_customer}
use Rattle.brk_trade_theorems.specs.Found.{AccountFactsMatchTables}
use Rattle.brk_store_reads.proofs.Sequences.{failed_after, read_with, unchanged_after}
use Rattle.std.proofs.lemmas.Result.{err_from_is_err_and}
use Rattle.brk_store_reads.specs.ReadSequences.{single_read_changes_nothing}
use Rattle.brk_desk_decisions.proofs.reference_finding.account_facts.Goals as goal

pub returns : goal.returns
returns g c =
    let old = c.args.store.now in
    let account = c.args.account.now in
    let same_id = c.in_ok-same_id.same_id in
    let customer = c.in_ok-customer.customer in
    let broker = c.in_ok-broker.broker in
    let accounts = c.in_ok-accounts.accounts in
    let id_read : Tables → Type 0 = λ t. same_id ≡ has_account t account.id in
    let customer_read : Tables → Type 0 = λ t. customer ≡ has_customer t account.customer in
    let broker_read : Tables → Type 0 = λ t. broker ≡ has_broker t account.broker in
    let one =
    read_with g.S.Store old c.account_exists.new.store c.customer_exists.new.store {X = Unit {0}} {H = CallFault} same_id customer tt
    (λ there (t : Tables). there ≡ has_account t account.id) (λ there (t : Tables). there ≡ has_customer t account.customer) (λ _ t. id_read t × customer_read t) (λ t a b. (a, b))
    c.in_ok-same_id.ensures c.in_ok-customer.ensures in
    let two =
    read_with g.S.Store old c.customer_exists.new.store c.broker_exists.new.store {X = Unit {0}} {H = CallFault} tt broker tt
    (λ _ t. id_read t × customer_read t) (λ there (t : Tables). there ≡ has_broker t account.broker) (λ _ t. (id_read t × customer_read t) × broker_read t) (λ t a b. (a, b))
    one c.in_ok-broker.ensures in
    read_with g.S.Store old c.broker_exists.new.store c.account_count.new.store {H = CallFault} tt accounts _
    (λ _ t. (id_read t × customer_read t) × broker_read t) (λ count (t : Tables). count ≡ account_count_of_customer t account.customer)
    (λ (found : ReferenceFacts) (t : Tables). AccountFactsMatchTables t account.id account.customer account.broker found)
    (λ t k n. record { same_id = k.0.0; customer_there = k.0.1; broker_there = k.1; count = n })
    two c.in_ok-accounts.ensures

pub returns-in_err-customer : goal.returns-in_err-customer
returns-in_err-customer g c =
    let old = c.args.store.now in
    let p = err_from_is_err_and c.from_residual-in_err-customer.result c.from_residual-in_err-customer.ensures.1 in
    rw p.1 (failed_after g.S.Store old c.account_exists.new.store c.customer_exists.new.store _ p.0 _ _
    (single_read_changes_nothing old c.account_exists.new.store _ _ c.in_ok-same_id.ensures) c.in_err-customer.ensures)

pub returns-in_err-broker : goal.returns-in_err-broker
returns-in_err-broker g c =
    let old = c.args.store.now in
    let p = err_from_is_err_and c.from_residual-in_err-broker.result c.from_residual-in_err-broker.ensures.1 in
    rw p.1 (failed_after g.S.Store old c.customer_exists.new.store c.broker_exists.new.store _ p.0 _ _
    (unchanged_after g.S.Store old c.account_exists.new.store c.customer_exists.new.store _ _
    (single_read_changes_nothing old c.account_exists.new.store _ _ c.in_ok-same_id.ensures) c.in_ok-customer.ensures)
    c.in_err-broker.ensures)

pub returns-in_err-accounts : goal.returns-in_err-accounts
returns-in_err-accounts g c =
    let old = c.args.store.now in
    let p = err_from_is_err_and c.from_residual-in_err-accounts.result c.from_residual-in_err-accounts.ensures.1 in
    rw p.1 (failed_after g.S.Store old c.broker_exists.new.store c.account_count.new.store _ p.0 _ _
    (unchanged_after g.S.Store old c.customer_exists.new.store c.broker_exists.new.store _ _
    (unchanged_after g.S.Store old c.account_exists.new.store c.customer_exists.new.store _ _
    (single_read_changes_nothing old c.account_exists.new.store _ _ c.in_ok-same_id.ensures) c.in_ok-customer.ensures)
    c.in_ok-broker.ensures) c.in_err-accounts.ensures)
