use Rattle.std.proofs.Common.{◌≡◌, ◌==◌, Some, None, Option, find, option_map, sym}
use Rattle.brk_model.specs.Tables.{BrokerRow, Tables}
use Rattle.brk_ref.specs.declared.broker.BrokerRow as broker
use Rattle.brk_ref.specs.Records.{abstract_broker_row}
use Rattle.brk_trade_rows.specs.declared.broker_totals.BrokerTotals.{BrokerTotals}
use Rattle.brk_store.specs.Numbers.{AreBrokerTotals}
use Rattle.brk_store_reads.proofs.Retelling.{retold}
use Rattle.brk_store.proofs.store.Store.read_broker_totals.Goals as goal

pub returns-in_default : goal.returns-in_default
returns-in_default g c =
    record {
      read = retold g.S.Store c.args.self.now c.broker.new.self {V = Option broker.BrokerRow} {X = Option BrokerTotals} None None
          (λ o (t : Tables). option_map abstract_broker_row o ≡ find (λ (r : BrokerRow). r.id == c.args.broker) t.brokers)
          (λ numbers (t : Tables). AreBrokerTotals numbers (find (λ (r : BrokerRow). r.id == c.args.broker) t.brokers))
          (λ t e. sym e)
          (rw c.in_default.is at c.in_ok-row.ensures.read);
    }

pub returns-in-Some-totals_in_broker_row : goal.returns-in-Some-totals_in_broker_row
returns-in-Some-totals_in_broker_row g c =
    record {
      read = retold g.S.Store c.args.self.now c.broker.new.self (Some c.in-Some.row) (Some c.in-Some-totals_in_broker_row.numbers)
          (λ o (t : Tables). option_map abstract_broker_row o ≡ find (λ (r : BrokerRow). r.id == c.args.broker) t.brokers)
          (λ numbers (t : Tables). AreBrokerTotals numbers (find (λ (r : BrokerRow). r.id == c.args.broker) t.brokers))
          (λ t e. (abstract_broker_row c.in-Some.row, sym e, c.in-Some-totals_in_broker_row.ensures.some.0, c.in-Some-totals_in_broker_row.ensures.some.1))
          (rw c.in-Some.is at c.in_ok-row.ensures.read);
    }
