use Rattle.std.proofs.Common.{◌≡◌, ◌==◌, Some, ap, find, option_map}
use Rattle.brk_model.specs.Tables.{SettlementRow, Tables}
use Rattle.brk_ref.specs.Rows.{cash_type_text, abstract_settlement_row}
use Rattle.brk_store_reads.proofs.Retelling.{retold}
use Rattle.brk_trade_theorems.specs.Corrections.{settlement_row_of_trade}
use Rattle.brk_desk_decisions.proofs.update_texts.cash_type_of.Goals as goal

pub returns-in-Some : goal.returns-in-Some
returns-in-Some g c =
    retold g.S.Store c.args.store.now c.settlement.new.self (Some c.in-Some.settlement) c.in-Some.settlement.cash_type
    (λ o (t : Tables). option_map abstract_settlement_row o ≡ find (λ (r : SettlementRow). r.trade == c.args.trade) t.settlements)
    (λ word (t : Tables). Some (cash_type_text word) ≡ option_map (λ s. s.cash_type) (settlement_row_of_trade t c.args.trade))
    (λ t e. ap (option_map (λ (s : SettlementRow). s.cash_type)) e)
    (rw c.in-Some.is at c.in_ok-settlement.ensures.read)
