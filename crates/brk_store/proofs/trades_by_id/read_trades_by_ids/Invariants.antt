use Rattle.std.proofs.Common.{◌≡◌, Ok, Some, map, take}
use Rattle.brk_money.specs.declared.fault.CallFault.{CallFault}
use Rattle.brk_model.specs.Joins.{trade_row_with_id}
use Rattle.brk_ref.specs.Rows.{abstract_trade_row}
use Rattle.brk_store_reads.specs.ReadSequences.{ReadSequencePost}
use Rattle.brk_store.proofs.trades_by_id.read_trades_by_ids.Given as goal

abbrev pub invariant-loop-id : goal.invariant-loop-id
invariant-loop-id g l = ReadSequencePost {V = Unit {0}} {E = CallFault} g.S.Store l.fn.store l.store (Ok tt)
    (λ _ t. map (λ r. Some (abstract_trade_row r)) l.trades.items ≡ map (trade_row_with_id t) (take l.id-index l.ids))
