use Rattle.std.proofs.Common.{◌≡◌, ◌++◌, Ok, length, map, reverse}
use Rattle.brk_money.specs.declared.fault.CallFault.{CallFault}
use Rattle.brk_ref.specs.Rows.{abstract_trade_row}
use Rattle.brk_model.specs.Base.{Base}
use Rattle.brk_model.specs.Sheets.{sheets}
use Rattle.brk_store_reads.specs.ReadSequences.{ReadSequencePost}
use Rattle.brk_audit_theorems.specs.Sound.{AuditInvariant}
use Rattle.brk_trade_books.specs.Books.{BooksInvariant}
use Rattle.brk_view_rows.specs.Lookup.{rows_of_looked_up_trade, table_rows_of_trade}
use Rattle.brk_desk_queries.proofs.lookups.look_up_trades.Given as goal

abbrev pub invariant-loop-trade : goal.invariant-loop-trade
invariant-loop-trade g l = ReadSequencePost {V = Unit {0}} {E = CallFault} g.S.Store l.fn.store l.store (Ok tt)
    (λ _ t. (base : Base) → BooksInvariant base → AuditInvariant base → t ≡ sheets base
    → map (λ r. table_rows_of_trade t (abstract_trade_row r)) l.rest.items ++ map rows_of_looked_up_trade (reverse l.found.items)
    ≡ map (λ r. table_rows_of_trade t (abstract_trade_row r)) l.fn.trades.items)

abbrev pub decreases-loop-trade : goal.decreases-loop-trade
decreases-loop-trade g l = length l.rest.items
