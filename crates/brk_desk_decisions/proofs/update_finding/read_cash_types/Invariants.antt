use Rattle.std.proofs.Common.{◌≡◌, Ok, map, take}
use Rattle.brk_money.specs.declared.fault.CallFault.{CallFault}
use Rattle.brk_trade_rows.specs.Chosen.{first_twenty_completed_trade_rows_of_account}
use Rattle.brk_ref.specs.Rows.{abstract_trade_row}
use Rattle.brk_store_transactions.specs.Holds.{ReadPost}
use Rattle.brk_trade_theorems.specs.Corrections.{settlement_text_row_in_tables, settlement_text_row_of_typed_row}
use Rattle.brk_desk_decisions.proofs.update_finding.read_cash_types.Given as goal

abbrev pub invariant-loop-trade : goal.invariant-loop-trade
invariant-loop-trade g l = ReadPost {V = Unit {0}} {E = CallFault} g.S.Store l.fn.store l.store (Ok tt)
    (λ _ t. (map abstract_trade_row l.trade-items ≡ first_twenty_completed_trade_rows_of_account l.fn.account l.fn.span.first l.fn.span.last t)
    × (map settlement_text_row_of_typed_row l.settled.items ≡ map (λ r. settlement_text_row_in_tables t (abstract_trade_row r)) (take l.trade-index l.trade-items)))
