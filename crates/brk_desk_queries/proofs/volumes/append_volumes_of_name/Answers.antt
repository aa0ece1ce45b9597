use Rattle.std.proofs.Common.{◌≡◌, ◌∙◌, ◌+◌, ◌++◌, ◌∷◌, [], ℕ, List, ap, filter, map, sym, take}
use Rattle.std.proofs.lemmas.List.{append-nil, take_all}
use Rattle.std.specs.Prelude.{bytes_eq}
use Rattle.brk_money.specs.Spelling.{Text}
use Rattle.brk_money.specs.declared.fault.CallFault.{CallFault}
use Rattle.brk_ref.specs.Rows.{abstract_request_row}
use Rattle.brk_ref.specs.declared.request_row.RequestRow.{RequestRow}
use Rattle.brk_model.specs.Tables as tables
use Rattle.brk_model.specs.Tables.{Tables}
use Rattle.brk_ref.specs.Records.{abstract_broker_row}
use Rattle.brk_ref.specs.declared.broker.BrokerRow.{BrokerRow}
use Rattle.brk_store_reads.proofs.Retelling.{retold}
use Rattle.brk_store_reads.proofs.Sequences.{read_with_reads}
use Rattle.brk_view_rows.specs.declared.volumes.BrokerVolume.{BrokerVolume}
use Rattle.brk_desk_queries.specs.Volumes.{volumes_of_brokers_in_sector}
use Rattle.brk_desk_queries.proofs.VolumeViews.{volume_more}
use Rattle.brk_desk_queries.proofs.volumes.append_volumes_of_name.Goals as goal

-- what the first brokers with a name have to trade
abbrev FirstVolumes : Text → Text → List RequestRow → List BrokerRow → List BrokerVolume → List BrokerVolume → ℕ → Tables → Type 0
FirstVolumes sector name requests rows before found i t =
    (map abstract_broker_row rows ≡ filter (λ (b : tables.BrokerRow). bytes_eq b.name name) t.brokers)
    × (map abstract_request_row requests ≡ t.requests → found ≡ before ++ volumes_of_brokers_in_sector t sector (map abstract_broker_row (take i rows)))

pub loop-row-init : goal.loop-row-init
loop-row-init g c =
    let found = c.args.found.now.items in
    retold g.S.Store c.args.store.now c.brokers_named.new.self c.in_ok-rows.rows tt
    (λ all (t : Tables). map abstract_broker_row all.items ≡ filter (λ (b : tables.BrokerRow). bytes_eq b.name c.args.name.now) t.brokers)
    (λ _. FirstVolumes c.args.sector.now c.args.name.now c.args.requests.now c.deref-row-items.result.now found found 0)
    (λ t e. (ap (map abstract_broker_row) c.deref-row-items.ensures.value ∙ e, λ whole. sym (append-nil found)))
    c.in_ok-rows.ensures.read

pub loop-row-preserved : goal.loop-row-preserved
loop-row-preserved g c =
    let sector = c.args.sector.now in
    let rows = c.deref-row-items.result.now in
    let i = c.loop-row.row-index in
    let row = c.row-item.result in
    let before = c.args.found.now.items in
    let old = c.loop-row.found.items in
    let new = c.append_volume.new.found.items in
    read_with_reads g.S.Store c.args.store.now c.loop-row.store c.append_volume.new.store {H = CallFault} tt tt tt
    (λ _. FirstVolumes sector c.args.name.now c.args.requests.now rows before old i)
    (λ _ (t : Tables). map abstract_request_row c.args.requests.now ≡ t.requests → new ≡ old ++ volumes_of_brokers_in_sector t sector (abstract_broker_row row ∷ []))
    (λ _. FirstVolumes sector c.args.name.now c.args.requests.now rows before new (i + 1))
    (λ t p e. (p.0, λ whole. volume_more t sector abstract_broker_row rows i row before old new c.loop-row-test.true c.row-item.is (p.1 whole) (e whole)))
    c.loop-row.invariant c.in_ok-append_volume.ensures

pub returns : goal.returns
returns g c =
    let sector = c.args.sector.now in
    let rows = c.deref-row-items.result.now in
    let before = c.args.found.now.items in
    retold g.S.Store c.args.store.now c.loop-row.store tt tt
    (λ _. FirstVolumes sector c.args.name.now c.args.requests.now rows before c.loop-row.found.items c.loop-row.row-index)
    (λ _ (t : Tables). map abstract_request_row c.args.requests.now ≡ t.requests
    → c.loop-row.found.items ≡ before
    ++ volumes_of_brokers_in_sector t sector (filter (λ (b : tables.BrokerRow). bytes_eq b.name c.args.name.now) t.brokers))
    (λ t p whole. p.1 whole
    ∙ ap (λ rs. before ++ volumes_of_brokers_in_sector t sector (map abstract_broker_row rs)) (take_all c.loop-row.row-index rows c.loop-row-test.false)
    ∙ ap (λ bs. before ++ volumes_of_brokers_in_sector t sector bs) p.0)
    c.loop-row.invariant
