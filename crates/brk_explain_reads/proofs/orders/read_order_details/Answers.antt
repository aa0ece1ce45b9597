use Rattle.std.proofs.Common.{◌≡◌, Some, map, refl}
use Rattle.brk_money.specs.declared.fault.CallFault.{CallFault}
use Rattle.brk_ref.specs.Rows.{abstract_history_row}
use Rattle.brk_model.specs.Joins.{account_row_with_id, security_row_with_symbol}
use Rattle.brk_model.specs.Tables.{Tables}
use Rattle.brk_ref.specs.Records.{abstract_account_row, abstract_security_row}
use Rattle.brk_model_explain.specs.Trades.{sorted_statuses_of_trade}
use Rattle.brk_explain_rows.specs.declared.details.OrderDetails.{OrderDetails}
use Rattle.brk_explain_reads.specs.Found.{IsOrderOfTrade}
use Rattle.brk_store_reads.proofs.Sequences.{read_with, none_read}
use Rattle.brk_explain_reads.proofs.Reading.{both_change_nothing}
use Rattle.std.proofs.lemmas.Result.{err_from_is_err_and}
use Rattle.brk_store_reads.specs.ReadSequences.{joined_reads_change_nothing, single_read_changes_nothing}
use Rattle.brk_explain_reads.proofs.orders.read_order_details.Goals as goal

pub returns : goal.returns
returns g c =
    let old = c.args.store.now in
    let trade = c.args.trade in
    let account = c.in_ok-account.account in
    let security = c.in_ok-security.security in
    let statuses = c.in_ok-statuses.statuses in
    let order : OrderDetails = record { trade = trade; account = account; security = security; statuses = statuses } in
    read_with g.S.Store old c.require_security.new.store c.read_statuses.new.store {H = CallFault} security statuses order
    (λ security (t : Tables). (account_row_with_id t trade.account ≡ Some (abstract_account_row account)) × (security_row_with_symbol t trade.symbol ≡ Some (abstract_security_row security)))
    (λ statuses (t : Tables). map abstract_history_row statuses.items ≡ sorted_statuses_of_trade t trade.id)
    (λ order (t : Tables). IsOrderOfTrade trade order t)
    (λ t k e. record { trade = refl; account = k.0; security = k.1; statuses = e })
    (read_with g.S.Store old c.require_account.new.store c.require_security.new.store {H = CallFault} account security security
    (λ account (t : Tables). account_row_with_id t trade.account ≡ Some (abstract_account_row account))
    (λ security (t : Tables). security_row_with_symbol t trade.symbol ≡ Some (abstract_security_row security))
    (λ security (t : Tables). (account_row_with_id t trade.account ≡ Some (abstract_account_row account)) × (security_row_with_symbol t trade.symbol ≡ Some (abstract_security_row security)))
    (λ t a s. (a, s)) c.in_ok-account.ensures.read c.in_ok-security.ensures.read)
    c.in_ok-statuses.ensures

pub returns-in_err-security : goal.returns-in_err-security
returns-in_err-security g c =
    let old = c.args.store.now in
    let mid = c.require_account.new.store in
    let end = c.require_security.new.store in
    let p = err_from_is_err_and c.from_residual-in_err-security.result c.from_residual-in_err-security.ensures.1 in
    rw p.1 (none_read g.S.Store old end p.0 _ (both_change_nothing g.S.Store old mid end _ _ _ _ c.in_ok-account.ensures.read c.in_err-security.ensures.read))

pub returns-in_err-statuses : goal.returns-in_err-statuses
returns-in_err-statuses g c =
    let old = c.args.store.now in
    let mid = c.require_account.new.store in
    let late = c.require_security.new.store in
    let end = c.read_statuses.new.store in
    let p = err_from_is_err_and c.from_residual-in_err-statuses.result c.from_residual-in_err-statuses.ensures.1 in
    rw p.1
    (none_read g.S.Store old end p.0 _
    (joined_reads_change_nothing old late end (both_change_nothing g.S.Store old mid late _ _ _ _ c.in_ok-account.ensures.read c.in_ok-security.ensures.read)
    (single_read_changes_nothing late end _ _ c.in_err-statuses.ensures)))
