use Rattle.std.proofs.Common.{subst, sym}
use Rattle.std.specs.Prelude.{IfSome}
use Rattle.brk_money.specs.declared.fault.CallFault.{CallFault}
use Rattle.brk_model.specs.Joins.{account_row_with_id}
use Rattle.brk_model.specs.Tables.{AccountRow, Tables}
use Rattle.brk_ref.specs.Records.{abstract_account_row}
use Rattle.brk_desk_decisions.specs.ResultFactReads.{PartyFactsMatchTables}
use Rattle.brk_store_required.specs.Required.{IsAccountWithId}
use Rattle.brk_store_reads.proofs.Sequences.{failed_after, read_with}
use Rattle.std.proofs.lemmas.Result.{err_from_is_err_and}
use Rattle.brk_store_reads.specs.ReadSequences.{single_read_changes_nothing}
use Rattle.brk_desk_decisions.proofs.parties.party_facts.Goals as goal

pub returns : goal.returns
returns g c =
    let row = c.in_ok-row.row in
    let parties = c.in_ok-parties.parties in
    read_with g.S.Store c.args.store.now c.require_account.new.store c.parties_of_row.new.store {H = CallFault} row parties parties
    (λ row (t : Tables). IsAccountWithId t c.args.account row) (λ parties (t : Tables). PartyFactsMatchTables t (abstract_account_row row) parties)
    (λ parties (t : Tables). IfSome (account_row_with_id t c.args.account) (λ a. PartyFactsMatchTables t a parties))
    (λ t e k. subst (λ x. IfSome x (λ (a : AccountRow). PartyFactsMatchTables t a parties)) (sym e) k)
    c.in_ok-row.ensures.read c.in_ok-parties.ensures

pub returns-in_err-parties : goal.returns-in_err-parties
returns-in_err-parties g c =
    let old = c.args.store.now in
    let p = err_from_is_err_and c.from_residual-in_err-parties.result c.from_residual-in_err-parties.ensures.1 in
    rw p.1 (failed_after g.S.Store old c.require_account.new.store c.parties_of_row.new.store _ p.0 _ _
    (single_read_changes_nothing old c.require_account.new.store _ _ c.in_ok-row.ensures.read) c.in_err-parties.ensures)
