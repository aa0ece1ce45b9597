use Rattle.std.proofs.Common.{◌≡◌, ◌∙◌, ◌+◌, ◌++◌, ℕ, List, ap, filter, map, take}
use Rattle.std.proofs.lemmas.List.{take_all}
use Rattle.std.specs.Prelude.{bytes_eq, flat_map}
use Rattle.brk_money.specs.Spelling.{Text}
use Rattle.brk_money.specs.declared.fault.CallFault.{CallFault}
use Rattle.brk_ref.specs.Rows.{abstract_request_row}
use Rattle.brk_ref.specs.declared.request_row.RequestRow.{RequestRow}
use Rattle.brk_model.specs.Tables.{BrokerRow, Tables}
use Rattle.brk_store_reads.proofs.Retelling.{retold}
use Rattle.brk_store_reads.proofs.Sequences.{failed_after, read_with}
use Rattle.brk_view_rows.specs.Volume as volume
use Rattle.brk_view_rows.specs.declared.volumes.BrokerVolume.{BrokerVolume}
use Rattle.brk_desk_queries.specs.Volumes.{brokers_of_name_in_sector, volumes_of_brokers_in_sector}
use Rattle.brk_desk_queries.proofs.VolumeViews.{name_more}
use Rattle.std.proofs.lemmas.Result.{err_from_is_err_and}
use Rattle.brk_store_reads.specs.ReadSequences.{single_read_changes_nothing}
use Rattle.brk_desk_queries.proofs.volumes.named_volumes.Goals as goal

-- what the brokers with the first names have to trade
abbrev FirstNamed : Text → List Text → List RequestRow → List BrokerVolume → ℕ → Tables → Type 0
FirstNamed sector names requests found i t =
    (map abstract_request_row requests ≡ t.requests) × (found ≡ map (volume.volume_of_broker_in_sector t sector) (flat_map (brokers_of_name_in_sector t sector) (take i names)))

pub loop-name-init : goal.loop-name-init
loop-name-init g c =
    let requests = c.in_ok-requests.requests in
    retold g.S.Store c.args.store.now c.all_trade_requests.new.self requests tt (λ all (t : Tables). map abstract_request_row all.items ≡ t.requests)
    (λ _. FirstNamed c.args.sector.now c.args.names.now requests.items c.new-found.result.items 0)
    (λ t e. (e, c.new-found.ensures.items))
    c.in_ok-requests.ensures.read

pub loop-name-preserved : goal.loop-name-preserved
loop-name-preserved g c =
    let sector = c.args.sector.now in
    let names = c.args.names.now in
    let requests = c.in_ok-requests.requests.items in
    let i = c.loop-name.name-index in
    let name = c.name-item.result in
    let old = c.loop-name.found.items in
    let new = c.append_volumes_of_name.new.found.items in
    read_with g.S.Store c.args.store.now c.loop-name.store c.append_volumes_of_name.new.store {H = CallFault} tt tt tt
    (λ _. FirstNamed sector names requests old i)
    (λ _ (t : Tables). map abstract_request_row requests ≡ t.requests → new ≡ old ++ volumes_of_brokers_in_sector t sector (filter (λ (b : BrokerRow). bytes_eq b.name name) t.brokers))
    (λ _. FirstNamed sector names requests new (i + 1))
    (λ t p e. (p.0, name_more t sector names i name old new c.loop-name-test.true c.name-item.is p.1 (e p.0)))
    c.loop-name.invariant (rw c.deref.ensures.value at c.in_ok-append_volumes_of_name.ensures)

pub returns : goal.returns
returns g c =
    let sector = c.args.sector.now in
    let names = c.args.names.now in
    retold g.S.Store c.args.store.now c.loop-name.store tt c.loop-name.found
    (λ _. FirstNamed sector names c.in_ok-requests.requests.items c.loop-name.found.items c.loop-name.name-index)
    (λ found (t : Tables). found.items ≡ map (volume.volume_of_broker_in_sector t sector) (flat_map (brokers_of_name_in_sector t sector) names))
    (λ t p. p.1 ∙ ap (λ ns. map (volume.volume_of_broker_in_sector t sector) (flat_map (brokers_of_name_in_sector t sector) ns)) (take_all c.loop-name.name-index names c.loop-name-test.false))
    c.loop-name.invariant

pub returns-in_err-append_volumes_of_name : goal.returns-in_err-append_volumes_of_name
returns-in_err-append_volumes_of_name g c =
    let old = c.args.store.now in
    let p = err_from_is_err_and c.from_residual-in_err-append_volumes_of_name.result c.from_residual-in_err-append_volumes_of_name.ensures.1 in
    rw p.1 (failed_after g.S.Store old c.loop-name.store c.append_volumes_of_name.new.store _ p.0 _ _
    (single_read_changes_nothing old c.loop-name.store _ _ c.loop-name.invariant) c.in_err-append_volumes_of_name.ensures)
