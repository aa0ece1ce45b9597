use Rattle.std.proofs.Common.{◌≡◌}
use Rattle.brk_money.specs.declared.fault.CallFault.{CallFault}
use Rattle.brk_model.specs.Form.{has_account}
use Rattle.brk_model.specs.Tables.{Tables}
use Rattle.brk_trade_plans.specs.declared.reference.ReferenceFacts.{ReferenceFacts}
use Rattle.brk_trade_books.specs.Reads.{contains_permission}
use Rattle.brk_store_reads.proofs.Sequences.{failed_after, read_with}
use Rattle.std.proofs.lemmas.Result.{err_from_is_err_and}
use Rattle.brk_store_reads.specs.ReadSequences.{single_read_changes_nothing}
use Rattle.brk_desk_decisions.proofs.terms.permission_facts.Goals as goal

pub returns : goal.returns
returns g c =
    let permission = c.args.permission.now in
    read_with g.S.Store c.args.store.now c.account_exists.new.store c.has_permission.new.store {H = CallFault} c.in_ok-account.account c.in_ok-same_id.same_id _
    (λ there (t : Tables). there ≡ has_account t permission.account) (λ there (t : Tables). there ≡ contains_permission t permission.account permission.tax_id)
    (λ (found : ReferenceFacts) (t : Tables). (found.account ≡ has_account t permission.account) × (found.same_id ≡ contains_permission t permission.account permission.tax_id))
    (λ t a b. (a, b)) c.in_ok-account.ensures c.in_ok-same_id.ensures

pub returns-in_err-same_id : goal.returns-in_err-same_id
returns-in_err-same_id g c =
    let old = c.args.store.now in
    let p = err_from_is_err_and c.from_residual-in_err-same_id.result c.from_residual-in_err-same_id.ensures.1 in
    rw p.1 (failed_after g.S.Store old c.account_exists.new.store c.has_permission.new.store _ p.0 _ _
    (single_read_changes_nothing old c.account_exists.new.store _ _ c.in_ok-account.ensures) c.in_err-same_id.ensures)
