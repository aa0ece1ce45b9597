use Rattle.std.proofs.Common.{◌≡◌, Some, ap, find, option_map}
use Rattle.std.specs.Prelude.{string_bytes}
use Rattle.brk_model.specs.LookupView.{is_cash_row_of_trade}
use Rattle.brk_model.specs.Tables.{CashRow, Tables}
use Rattle.brk_ref.specs.Rows.{abstract_cash_row}
use Rattle.brk_store_reads.proofs.Retelling.{retold}
use Rattle.brk_trade_theorems.specs.Corrections.{cash_row_of_trade}
use Rattle.brk_desk_decisions.proofs.update_texts.cash_name_of.Goals as goal

pub returns-in-Some : goal.returns-in-Some
returns-in-Some g c =
    retold g.S.Store c.args.store.now c.cash_row.new.self (Some c.in-Some.cash) c.in-Some.cash.name
    (λ o (t : Tables). option_map abstract_cash_row o ≡ find (is_cash_row_of_trade c.args.trade) t.moves)
    (λ name (t : Tables). Some (string_bytes name) ≡ option_map (λ c. c.name) (cash_row_of_trade t c.args.trade))
    (λ t e. ap (option_map (λ (r : CashRow). r.name)) e)
    (rw c.in-Some.is at c.in_ok-cash.ensures.read)
