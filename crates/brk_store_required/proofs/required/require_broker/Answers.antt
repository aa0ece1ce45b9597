use Rattle.std.proofs.Common.{◌≡◌, ◌==◌, Some, find, option_map, sym}
use Rattle.brk_model.specs.Tables.{BrokerRow, Tables}
use Rattle.brk_ref.specs.Records.{abstract_broker_row}
use Rattle.brk_store_required.specs.Required.{IsBrokerWithId}
use Rattle.brk_store_reads.proofs.Retelling.{retold}
use Rattle.brk_store_required.proofs.required.require_broker.Goals as goal

pub returns-in-Some : goal.returns-in-Some
returns-in-Some g c =
    record {
      read = retold g.S.Store c.args.store.now c.broker.new.self (Some c.in-Some.broker) c.in-Some.broker
          (λ o (t : Tables). option_map abstract_broker_row o ≡ find (λ (r : BrokerRow). r.id == c.args.id) t.brokers) (λ broker (t : Tables). IsBrokerWithId t c.args.id broker)
          (λ t e. sym e)
          (rw c.in-Some.is at c.in_ok-broker.ensures.read);
    }
