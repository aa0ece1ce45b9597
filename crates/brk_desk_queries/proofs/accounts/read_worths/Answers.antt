use Rattle.std.proofs.Common.{◌≡◌, ◌==◌, ◌∙◌, ◌+◌, ◌++◌, ◌∷◌, [], ℕ, List, ap, filter, map, sym, take}
use Rattle.std.proofs.lemmas.List.{take_all}
use Rattle.brk_money.specs.declared.fault.CallFault.{CallFault}
use Rattle.brk_model.specs.Tables as tables
use Rattle.brk_model.specs.Tables.{Tables}
use Rattle.brk_ref.specs.Records.{abstract_account_row}
use Rattle.brk_ref.specs.declared.account.AccountRow.{AccountRow}
use Rattle.brk_store_reads.proofs.Retelling.{retold}
use Rattle.brk_view_rows.specs.Worths.{worth_of_account}
use Rattle.brk_view_rows.specs.declared.worths.AccountWorth.{AccountWorth}
use Rattle.brk_desk_queries.proofs.Each.{list_more, map_map}
use Rattle.std.proofs.lemmas.Result.{err_from_is_err_and}
use Rattle.brk_store_reads.specs.ReadSequences.{single_read_changes_nothing}
use Rattle.brk_store_reads.proofs.Sequences.{failed_after, none_read, read_with, unchanged_after}
use Rattle.brk_desk_queries.proofs.accounts.read_worths.Goals as goal

-- what the first accounts of a customer are worth
abbrev FirstWorths : ℕ → List AccountRow → List AccountWorth → ℕ → Tables → Type 0
FirstWorths customer rows worths i t =
    (map abstract_account_row rows ≡ filter (λ (a : tables.AccountRow). a.customer == customer) t.accounts)
    × (worths ≡ map (λ r. worth_of_account t (abstract_account_row r)) (take i rows))

pub loop-row-init : goal.loop-row-init
loop-row-init g c =
    retold g.S.Store c.args.store.now c.accounts_of_customer.new.self c.in_ok-rows.rows tt
    (λ all (t : Tables). map abstract_account_row all.items ≡ filter (λ (a : tables.AccountRow). a.customer == c.args.customer) t.accounts)
    (λ _. FirstWorths c.args.customer c.deref-row-items.result.now c.new-worths.result.items 0)
    (λ t e. (ap (map abstract_account_row) c.deref-row-items.ensures.value ∙ e, c.new-worths.ensures.items))
    c.in_ok-rows.ensures.read

pub loop-row-preserved : goal.loop-row-preserved
loop-row-preserved g c =
    let rows = c.deref-row-items.result.now in
    let i = c.loop-row.row-index in
    let row = c.row-item.result in
    let worth = c.in_ok-worth.worth in
    let before = c.loop-row.worths.items in
    rw c.in_ok-push.ensures.items
    (read_with g.S.Store c.args.store.now c.loop-row.store c.read_worth.new.store {H = CallFault} tt worth tt
    (λ _. FirstWorths c.args.customer rows before i)
    (λ worth (t : Tables). worth ≡ worth_of_account t (abstract_account_row row))
    (λ _. FirstWorths c.args.customer rows (before ++ worth ∷ []) (i + 1))
    (λ t p e. (p.0, list_more (λ r. worth_of_account t (abstract_account_row r)) rows i row before worth c.loop-row-test.true c.row-item.is p.1 e))
    c.loop-row.invariant c.in_ok-worth.ensures)

pub returns : goal.returns
returns g c =
    let rows = c.deref-row-items.result.now in
    let i = c.loop-row.row-index in
    retold g.S.Store c.args.store.now c.loop-row.store tt c.loop-row.worths
    (λ _. FirstWorths c.args.customer rows c.loop-row.worths.items i)
    (λ worths (t : Tables). worths.items ≡ map (worth_of_account t) (filter (λ (a : tables.AccountRow). a.customer == c.args.customer) t.accounts))
    (λ t p. p.1 ∙ ap (map (λ r. worth_of_account t (abstract_account_row r))) (take_all i rows c.loop-row-test.false)
    ∙ sym (map_map (worth_of_account t) abstract_account_row rows) ∙ ap (map (worth_of_account t)) p.0)
    c.loop-row.invariant

pub returns-in_err-worth : goal.returns-in_err-worth
returns-in_err-worth g c =
    let old = c.args.store.now in
    let p = err_from_is_err_and c.from_residual-in_err-worth.result c.from_residual-in_err-worth.ensures.1 in
    rw p.1 (failed_after g.S.Store old c.loop-row.store c.read_worth.new.store _ p.0 _ _
    (single_read_changes_nothing old c.loop-row.store _ _ c.loop-row.invariant) c.in_err-worth.ensures)

pub returns-in_err-push : goal.returns-in_err-push
returns-in_err-push g c =
    let old = c.args.store.now in
    let p = err_from_is_err_and c.from_residual-in_err-push.result c.from_residual-in_err-push.ensures.1 in
    rw p.1 (none_read g.S.Store old c.read_worth.new.store p.0 _
    (unchanged_after g.S.Store old c.loop-row.store c.read_worth.new.store _ _
    (single_read_changes_nothing old c.loop-row.store _ _ c.loop-row.invariant) c.in_ok-worth.ensures))
