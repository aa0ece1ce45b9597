use Rattle.std.proofs.Common.{◌≡◌, ◌==◌, None, Option, Some, find, option_map, subst, sym}
use Rattle.brk_money.specs.declared.fault.CallFault.{CallFault}
use Rattle.brk_model.specs.Tables as tables
use Rattle.brk_model.specs.Tables.{Tables}
use Rattle.brk_ref.specs.declared.account.AccountRow.{AccountRow}
use Rattle.brk_ref.specs.Records.{abstract_account_row}
use Rattle.brk_trade_theorems.specs.OrderPlans.{EstimateFactsMatchTables}
use Rattle.brk_desk_decisions.specs.OrderFactReads.{EstimateFactsMatchIfAccountOfOrder}
use Rattle.brk_store_reads.proofs.Retelling.{retold}
use Rattle.brk_store_reads.proofs.Sequences.{failed_after, read_with}
use Rattle.brk_desk_decisions.proofs.OrderFinds.{no_account}
use Rattle.std.proofs.lemmas.Result.{err_from_is_err_and}
use Rattle.brk_store_reads.specs.ReadSequences.{single_read_changes_nothing}
use Rattle.brk_desk_decisions.proofs.order_finding.estimate_facts.Goals as goal

pub returns-in_ok-found-in-Some : goal.returns-in_ok-found-in-Some
returns-in_ok-found-in-Some g c =
    let order = c.args.order.now in
    let account : AccountRow = c.in-Some.account in
    let found = c.in_ok-found-in-Some.found in
    read_with g.S.Store c.args.store.now c.account.new.self c.estimate_facts_of_account.new.store {H = CallFault} (Some account) found found
    (λ o (t : Tables). option_map abstract_account_row o ≡ find (λ (r : tables.AccountRow). r.id == order.account) t.accounts)
    (λ found (t : Tables). EstimateFactsMatchIfAccountOfOrder t order account found)
    (λ found (t : Tables). EstimateFactsMatchTables t order found)
    (λ t e f. f e)
    (rw c.in-Some.is at c.in_ok-account.ensures.read) c.in_ok-found-in-Some.ensures

pub returns-in-None : goal.returns-in-None
returns-in-None g c =
    let order = c.args.order.now in
    retold g.S.Store c.args.store.now c.account.new.self {V = Option AccountRow} None c.facts_without_account.result
    (λ o (t : Tables). option_map abstract_account_row o ≡ find (λ (r : tables.AccountRow). r.id == order.account) t.accounts)
    (λ found (t : Tables). EstimateFactsMatchTables t order found)
    (λ t e. subst (λ found. EstimateFactsMatchTables t order found) (sym c.facts_without_account.ensures) (no_account t order e))
    (rw c.in-None.is at c.in_ok-account.ensures.read)

pub returns-in_err-found-in-Some : goal.returns-in_err-found-in-Some
returns-in_err-found-in-Some g c =
    let old = c.args.store.now in
    let p = err_from_is_err_and c.from_residual-in_err-found-in-Some.result c.from_residual-in_err-found-in-Some.ensures.1 in
    rw p.1 (failed_after g.S.Store old c.account.new.self c.estimate_facts_of_account.new.store _ p.0 _ _
    (single_read_changes_nothing old c.account.new.self _ _ c.in_ok-account.ensures.read) c.in_err-found-in-Some.ensures)
