use Rattle.std.proofs.Common.{◌≡◌}
use Rattle.brk_money.specs.declared.fault.CallFault.{CallFault}
use Rattle.brk_model.specs.Tables.{Tables}
use Rattle.brk_ref.specs.Records.{abstract_account_row}
use Rattle.brk_trade_books.specs.Reads.{customer_tax_rate_sum}
use Rattle.brk_store_required.specs.Required.{IsBrokerWithId, IsCustomerWithId}
use Rattle.brk_desk_decisions.specs.ResultFactReads.{PartyFactsMatchTables}
use Rattle.brk_store_reads.proofs.Sequences.{failed_after, read_with, unchanged_after}
use Rattle.brk_desk_decisions.proofs.ResultReading.{parties_known, parties_of_rows}
use Rattle.std.proofs.lemmas.Result.{err_from_is_err_and}
use Rattle.brk_store_reads.specs.ReadSequences.{single_read_changes_nothing}
use Rattle.brk_desk_decisions.proofs.parties.parties_of_row.Goals as goal

pub returns : goal.returns
returns g c =
    let old = c.args.store.now in
    let row = c.args.row in
    let customer = c.in_ok-customer.customer in
    let rates = c.in_ok-rates.rates in
    let broker = c.in_ok-broker.broker in
    read_with g.S.Store old c.require_tax_rate_sum.new.store c.require_broker.new.store {H = CallFault} rates broker (parties_of_rows row customer rates broker)
    (λ rates (t : Tables). IsCustomerWithId t row.account.customer customer × (rates ≡ customer_tax_rate_sum t row.account.customer))
    (λ broker (t : Tables). IsBrokerWithId t row.account.broker broker)
    (λ parties (t : Tables). PartyFactsMatchTables t (abstract_account_row row) parties)
    (λ t k n. parties_known t row customer rates broker k.0 k.1 n)
    (read_with g.S.Store old c.require_customer.new.store c.require_tax_rate_sum.new.store {H = CallFault} customer rates rates
    (λ customer (t : Tables). IsCustomerWithId t row.account.customer customer) (λ rates (t : Tables). rates ≡ customer_tax_rate_sum t row.account.customer)
    (λ rates (t : Tables). IsCustomerWithId t row.account.customer customer × (rates ≡ customer_tax_rate_sum t row.account.customer))
    (λ t k e. (k, e)) c.in_ok-customer.ensures.read c.in_ok-rates.ensures)
    c.in_ok-broker.ensures.read

pub returns-in_err-rates : goal.returns-in_err-rates
returns-in_err-rates g c =
    let old = c.args.store.now in
    let p = err_from_is_err_and c.from_residual-in_err-rates.result c.from_residual-in_err-rates.ensures.1 in
    rw p.1 (failed_after g.S.Store old c.require_customer.new.store c.require_tax_rate_sum.new.store _ p.0 _ _
    (single_read_changes_nothing old c.require_customer.new.store _ _ c.in_ok-customer.ensures.read) c.in_err-rates.ensures)

pub returns-in_err-broker : goal.returns-in_err-broker
returns-in_err-broker g c =
    let old = c.args.store.now in
    let p = err_from_is_err_and c.from_residual-in_err-broker.result c.from_residual-in_err-broker.ensures.1 in
    rw p.1 (failed_after g.S.Store old c.require_tax_rate_sum.new.store c.require_broker.new.store _ p.0 _ _
    (unchanged_after g.S.Store old c.require_customer.new.store c.require_tax_rate_sum.new.store _ _
    (single_read_changes_nothing old c.require_customer.new.store _ _ c.in_ok-customer.ensures.read) c.in_ok-rates.ensures)
    c.in_err-broker.ensures.read)
