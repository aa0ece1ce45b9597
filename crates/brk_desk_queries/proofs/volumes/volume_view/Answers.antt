use Rattle.std.proofs.Common.{◌≡◌, Ok, map}
use Rattle.std.specs.Prelude.{flat_map}
use Rattle.brk_model.specs.Queries.{VolumeOf}
use Rattle.brk_model.specs.Tables.{Tables}
use Rattle.brk_store_reads.proofs.Retelling.{retold}
use Rattle.brk_view_rows.specs.Volume as volume
use Rattle.brk_desk_queries.specs.QueryResults.{AnswersQueryAsModel}
use Rattle.brk_desk_queries.specs.Volumes.{brokers_of_name_in_sector}
use Rattle.brk_desk_queries.proofs.VolumeViews.{volume_seen}
use Rattle.brk_desk_queries.proofs.volumes.volume_view.Goals as goal

pub returns-in-Ok : goal.returns-in-Ok
returns-in-Ok g c =
    let sector = c.args.sector.now in
    let names = c.args.names.now in
    let found = c.in_ok-found.found in
    let view = c.in-Ok.view in
    retold g.S.Store c.args.store.now c.named_volumes.new.store found (Ok view)
    (λ found (t : Tables). found.items ≡ map (volume.volume_of_broker_in_sector t sector) (flat_map (brokers_of_name_in_sector t sector) names))
    (AnswersQueryAsModel (VolumeOf sector names))
    (λ t e. volume_seen sector names found.items c.in-Ok.ensures.value.0 view (rw c.names-names.ensures.names at c.names-names.ensures.distinct)
    c.in-Ok.ensures.value.1 c.in-Ok.ensures.view t e)
    (rw c.names-names.ensures.names at c.in_ok-found.ensures)
