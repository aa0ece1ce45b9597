use Rattle.std.proofs.Common.{◌≡◌, ◌==◌, Some, find, option_map, sym}
use Rattle.brk_model.specs.Tables.{SettlementRow, Tables}
use Rattle.brk_ref.specs.Rows.{abstract_settlement_row}
use Rattle.brk_store_reads.proofs.Retelling.{retold}
use Rattle.brk_store_required.proofs.required.require_settlement.Goals as goal

pub returns-in-Some : goal.returns-in-Some
returns-in-Some g c =
    record {
      read = retold g.S.Store c.args.store.now c.settlement.new.self (Some c.in-Some.settlement) c.in-Some.settlement
          (λ o (t : Tables). option_map abstract_settlement_row o ≡ find (λ (r : SettlementRow). r.trade == c.args.trade) t.settlements)
          (λ settlement (t : Tables). find (λ (r : SettlementRow). r.trade == c.args.trade) t.settlements ≡ Some (abstract_settlement_row settlement))
          (λ t e. sym e)
          (rw c.in-Some.is at c.in_ok-settlement.ensures.read);
    }
