use Rattle.std.proofs.Common.{◌≡◌, Ok, map, take}
use Rattle.brk_money.specs.declared.fault.CallFault.{CallFault}
use Rattle.brk_trade_rows.specs.Chosen.{first_twenty_completed_cash_trade_rows_of_symbol}
use Rattle.brk_ref.specs.Rows.{abstract_trade_row}
use Rattle.brk_store_transactions.specs.Holds.{ReadPost}
use Rattle.brk_trade_theorems.specs.Corrections.{cash_text_row_in_tables, cash_text_row_of_typed_row}
use Rattle.brk_desk_decisions.proofs.update_finding.read_cash_names.Given as goal

abbrev pub invariant-loop-trade : goal.invariant-loop-trade
invariant-loop-trade g l = ReadPost {V = Unit {0}} {E = CallFault} g.S.Store l.fn.store l.store (Ok tt)
    (λ _ t. (map abstract_trade_row l.trade-items ≡ first_twenty_completed_cash_trade_rows_of_symbol l.fn.symbol l.fn.span.first l.fn.span.last t)
    × (map cash_text_row_of_typed_row l.paid.items ≡ map (λ r. cash_text_row_in_tables t (abstract_trade_row r)) (take l.trade-index l.trade-items)))
