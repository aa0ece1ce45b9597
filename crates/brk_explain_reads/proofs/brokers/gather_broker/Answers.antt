use Rattle.std.proofs.Common.{◌≡◌, ◌==◌, ◌∙◌, ℕ, None, Option, Some, ap, filter, find, length, map, option_map, sym}
use Rattle.brk_money.specs.declared.fault.CallFault.{CallFault}
use Rattle.brk_model.specs.Tables.{AccountRow, BrokerRow, Tables}
use Rattle.brk_ref.specs.Records.{abstract_broker_row}
use Rattle.brk_ref.specs.declared.broker.BrokerRow as row
use Rattle.brk_store_reads.proofs.Retelling.{retold}
use Rattle.brk_explain_rows.specs.Details.{AreDetailsOfBroker}
use Rattle.brk_explain_rows.specs.declared.broker_details.BrokerDetails.{BrokerDetails}
use Rattle.brk_store_reads.proofs.Sequences.{read_with, none_read}
use Rattle.brk_explain_reads.proofs.Reading.{both_change_nothing}
use Rattle.brk_explain_reads.proofs.Skipped.{length_map}
use Rattle.std.proofs.lemmas.Result.{err_from_is_err_and}
use Rattle.brk_explain_reads.proofs.brokers.gather_broker.Goals as goal

-- the broker with an id
abbrev IsRowOf : ℕ → Option row.BrokerRow → Tables → Type 0
IsRowOf id o t = option_map abstract_broker_row o ≡ find (λ (r : BrokerRow). r.id == id) t.brokers

pub returns-in_default : goal.returns-in_default
returns-in_default g c =
    retold g.S.Store c.args.store.now c.broker.new.self {V = Option row.BrokerRow} {X = Option BrokerDetails} None None
    (IsRowOf c.args.broker) (AreDetailsOfBroker c.args.broker) (λ t e. sym e)
    (rw c.in_default.is at c.in_ok-row.ensures.read)

pub returns : goal.returns
returns g c =
    let broker = c.args.broker in
    let row = c.in-Some.row in
    let accounts = c.in_ok-accounts.accounts in
    let details : BrokerDetails = record { broker = row; accounts = c.len.result } in
    read_with g.S.Store c.args.store.now c.broker.new.self c.broker_account_ids.new.self {H = CallFault} (Some row) accounts (Some details)
    (IsRowOf broker) (λ all (t : Tables). all.items ≡ map (λ (r : AccountRow). r.id) (filter (λ (r : AccountRow). r.broker == broker) t.accounts)) (AreDetailsOfBroker broker)
    (λ t e k. (sym e, c.len.ensures ∙ accounts.ok.0 ∙ ap length k ∙ length_map (λ (r : AccountRow). r.id) (filter (λ (r : AccountRow). r.broker == broker) t.accounts)))
    (rw c.in-Some.is at c.in_ok-row.ensures.read) c.in_ok-accounts.ensures.read

pub returns-in_err-accounts : goal.returns-in_err-accounts
returns-in_err-accounts g c =
    let old = c.args.store.now in
    let mid = c.broker.new.self in
    let end = c.broker_account_ids.new.self in
    let p = err_from_is_err_and c.from_residual-in_err-accounts.result c.from_residual-in_err-accounts.ensures.1 in
    rw p.1 (none_read g.S.Store old end p.0 _ (both_change_nothing g.S.Store old mid end _ _ _ _ c.in_ok-row.ensures.read c.in_err-accounts.ensures.read))
