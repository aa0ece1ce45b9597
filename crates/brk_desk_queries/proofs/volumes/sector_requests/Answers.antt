use Rattle.std.proofs.Common.{◌≡◌, ◌∙◌, ◌+◌, ℕ, List, ap, filter, map, take}
use Rattle.std.proofs.lemmas.List.{take_all}
use Rattle.brk_money.specs.Spelling.{Text}
use Rattle.brk_money.specs.declared.fault.CallFault.{CallFault}
use Rattle.brk_ref.specs.Rows.{abstract_request_row}
use Rattle.brk_ref.specs.declared.request_row.RequestRow.{RequestRow}
use Rattle.brk_model.specs.Tables.{Tables}
use Rattle.brk_store_reads.proofs.Sequences.{no_reads, reads_both, reads_retold}
use Rattle.brk_desk_queries.specs.Volumes.{is_sector_request_of_broker, requests_with_row_if_of_broker_in_sector}
use Rattle.brk_desk_queries.proofs.VolumeViews.{request_more}
use Rattle.brk_desk_queries.proofs.volumes.sector_requests.Goals as goal

-- those of the broker in the sector among the first requests
abbrev FirstRequests : Text → ℕ → List RequestRow → List RequestRow → ℕ → Tables → Type 0
FirstRequests sector broker rows found i t = map abstract_request_row found ≡ filter (is_sector_request_of_broker t sector broker) (map abstract_request_row (take i rows))

pub loop-row-init : goal.loop-row-init
loop-row-init g c =
    no_reads g.S.Store c.args.store.now tt (λ _. FirstRequests c.args.sector.now c.args.broker c.args.requests.now c.new-found.result.items 0)
    (λ t. ap (map abstract_request_row) c.new-found.ensures.items)

pub loop-row-preserved : goal.loop-row-preserved
loop-row-preserved g c =
    let sector = c.args.sector.now in
    let broker = c.args.broker in
    let rows = c.args.requests.now in
    let i = c.loop-row.row-index in
    let row = c.row-item.result in
    let old = c.loop-row.found.items in
    let new = c.append_sector_request.new.found.items in
    reads_both g.S.Store c.args.store.now c.loop-row.store c.append_sector_request.new.store {H = CallFault} tt tt tt
    (λ _. FirstRequests sector broker rows old i)
    (λ _ (t : Tables). new ≡ requests_with_row_if_of_broker_in_sector t sector broker row old)
    (λ _. FirstRequests sector broker rows new (i + 1))
    (λ t p e. request_more t sector broker rows i row old new c.loop-row-test.true c.row-item.is p e)
    c.loop-row.invariant c.in_ok-append_sector_request.ensures

pub returns : goal.returns
returns g c =
    let sector = c.args.sector.now in
    let broker = c.args.broker in
    let rows = c.args.requests.now in
    reads_retold g.S.Store c.args.store.now c.loop-row.store tt c.loop-row.found
    (λ _. FirstRequests sector broker rows c.loop-row.found.items c.loop-row.row-index)
    (λ found (t : Tables). map abstract_request_row found.items ≡ filter (is_sector_request_of_broker t sector broker) (map abstract_request_row rows))
    (λ t p. p ∙ ap (λ rs. filter (is_sector_request_of_broker t sector broker) (map abstract_request_row rs)) (take_all c.loop-row.row-index rows c.loop-row-test.false))
    c.loop-row.invariant
