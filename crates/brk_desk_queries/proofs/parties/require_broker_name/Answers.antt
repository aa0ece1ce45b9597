use Rattle.std.proofs.Common.{◌≡◌, ◌==◌, [], Some, ap, find, option_map}
use Rattle.std.specs.Option.{option_map_or}
use Rattle.brk_model.specs.StatusView.{broker_name_with_id}
use Rattle.brk_model.specs.Tables.{BrokerRow, Tables}
use Rattle.brk_ref.specs.Records.{abstract_broker_row}
use Rattle.brk_store_reads.proofs.Retelling.{retold}
use Rattle.brk_desk_queries.proofs.parties.require_broker_name.Goals as goal

pub returns-in-Some : goal.returns-in-Some
returns-in-Some g c =
    let row = c.in-Some.row in
    retold g.S.Store c.args.store.now c.broker.new.self (Some row) row.broker.name
    (λ o (t : Tables). option_map abstract_broker_row o ≡ find (λ (r : BrokerRow). r.id == c.args.id) t.brokers)
    (λ name (t : Tables). name ≡ broker_name_with_id t c.args.id)
    (λ t e. ap (λ o. option_map_or (λ (r : BrokerRow). r.name) o []) e)
    (rw c.in-Some.is at c.in_ok-row.ensures.read)
