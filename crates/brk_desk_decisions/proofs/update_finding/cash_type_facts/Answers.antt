use Rattle.std.proofs.Common.{◌≡◌, Option, Some, None}
use Rattle.std.specs.Prelude.{is_some}
use Rattle.brk_money.specs.declared.fault.CallFault.{CallFault}
use Rattle.brk_model.specs.Joins.{account_row_with_id}
use Rattle.brk_model.specs.Tables.{Tables}
use Rattle.brk_trade_rows.specs.Chosen.{first_twenty_completed_trade_rows_of_account}
use Rattle.brk_ref_orders.specs.declared.update.Update.TheVariants as update
use Rattle.brk_trade_plans.specs.declared.corrected.TextUpdate.{TextUpdate}
use Rattle.brk_trade_plans.specs.declared.corrected.TextUpdate.TheVariants.{CashTypes}
use Rattle.brk_store_reads.proofs.Sequences.{failed_after, read_with}
use Rattle.brk_store_reads.proofs.Retelling.{retold}
use Rattle.brk_trade_theorems.specs.Corrections.{SettlementTextsMatchTables, UpdateFactsMatchTables}
use Rattle.brk_desk_decisions.proofs.UpdateFinds.{missing_if, present_if}
use Rattle.std.proofs.lemmas.Result.{err_from_is_err_and}
use Rattle.brk_store_reads.specs.ReadSequences.{single_read_changes_nothing}
use Rattle.brk_desk_decisions.proofs.update_finding.cash_type_facts.Goals as goal

pub returns-then-not-branch : goal.returns-then-not-branch
returns-then-not-branch g c =
    let there = c.in_ok-account_row_exists.field-0 in
    retold g.S.Store c.args.store.now c.account_row_exists.new.store {X = Option TextUpdate} there None
    (λ there (t : Tables). there ≡ is_some (account_row_with_id t c.args.account))
    (λ found (t : Tables). UpdateFactsMatchTables t (update.CashTypes c.args.account c.args.span) found)
    (λ t e. missing_if (account_row_with_id t c.args.account) there e c.if-not-branch.true)
    c.in_ok-account_row_exists.ensures

pub returns : goal.returns
returns g c =
    let span = c.args.span in
    let there = c.in_ok-account_row_exists.field-0 in
    let settled = c.in_ok-settled.settled in
    read_with g.S.Store c.args.store.now c.account_row_exists.new.store c.read_cash_types.new.store {X = Option TextUpdate} {H = CallFault} there settled (Some (CashTypes settled))
    (λ there (t : Tables). there ≡ is_some (account_row_with_id t c.args.account))
    (λ settled (t : Tables). SettlementTextsMatchTables t (first_twenty_completed_trade_rows_of_account c.args.account span.first span.last t) settled.items)
    (λ found (t : Tables). UpdateFactsMatchTables t (update.CashTypes c.args.account span) found)
    (λ t e k. (present_if (account_row_with_id t c.args.account) there e c.if-not-branch.false, k))
    c.in_ok-account_row_exists.ensures c.in_ok-settled.ensures

pub returns-in_err-settled : goal.returns-in_err-settled
returns-in_err-settled g c =
    let old = c.args.store.now in
    let p = err_from_is_err_and c.from_residual-in_err-settled.result c.from_residual-in_err-settled.ensures.1 in
    rw p.1 (failed_after g.S.Store old c.account_row_exists.new.store c.read_cash_types.new.store _ p.0 _ _
    (single_read_changes_nothing old c.account_row_exists.new.store _ _ c.in_ok-account_row_exists.ensures) c.in_err-settled.ensures)
