use Rattle.std.proofs.Common.{◌≡◌, refl, sym}
use Rattle.brk_money.specs.declared.fault.CallFault.{CallFault}
use Rattle.brk_model.specs.StatusView.{broker_name_with_id}
use Rattle.brk_model.specs.Tables.{Tables}
use Rattle.brk_ref.specs.Records.{abstract_account_row, abstract_customer}
use Rattle.brk_store_reads.proofs.Sequences.{failed_after, read_with}
use Rattle.brk_store_required.specs.Required.{IsCustomerWithId}
use Rattle.brk_view_rows.specs.declared.statuses.AccountStatus.{AccountStatus}
use Rattle.brk_desk_queries.specs.Parties.{IsAccountStatusWithTrades}
use Rattle.std.proofs.lemmas.Result.{err_from_is_err_and}
use Rattle.brk_store_reads.specs.ReadSequences.{single_read_changes_nothing}
use Rattle.brk_desk_queries.proofs.parties.status_with_parties.Goals as goal

pub returns : goal.returns
returns g c =
    let row = c.args.row.now in
    let customer = c.in_ok-customer.customer in
    let broker = c.in_ok-broker.broker in
    let found : AccountStatus = record { last_name = customer.last_name; first_name = customer.first_name; broker = broker; trades = c.args.trades } in
    read_with g.S.Store c.args.store.now c.require_customer.new.store c.require_broker_name.new.store {H = CallFault} customer broker found
    (λ customer (t : Tables). IsCustomerWithId t row.account.customer customer)
    (λ name (t : Tables). name ≡ broker_name_with_id t row.account.broker)
    (IsAccountStatusWithTrades (abstract_account_row row) c.args.trades)
    (λ t e f. (abstract_customer customer, sym e, refl, refl, f, refl))
    c.in_ok-customer.ensures.read c.in_ok-broker.ensures

pub returns-in_err-broker : goal.returns-in_err-broker
returns-in_err-broker g c =
    let old = c.args.store.now in
    let p = err_from_is_err_and c.from_residual-in_err-broker.result c.from_residual-in_err-broker.ensures.1 in
    rw p.1 (failed_after g.S.Store old c.require_customer.new.store c.require_broker_name.new.store _ p.0 _ _
    (single_read_changes_nothing old c.require_customer.new.store _ _ c.in_ok-customer.ensures.read) c.in_err-broker.ensures)
