use Rattle.std.proofs.Common.{◌≡◌, Ok, Some, map, take}
use Rattle.std.specs.Prelude.{flat_map, option_to_list}
use Rattle.brk_money.specs.declared.fault.CallFault.{CallFault}
use Rattle.brk_ref.specs.Rows.{abstract_trade_row}
use Rattle.brk_model.specs.Joins.{trade_row_with_id}
use Rattle.brk_store_transactions.specs.Holds.{ReadPost}
use Rattle.brk_explain_rows.specs.Details.{abstract_lot_details}
use Rattle.brk_explain_reads.specs.HoldingParts.{lot_opened_by_trade}
use Rattle.brk_explain_reads.proofs.ById.{held_ids}
use Rattle.brk_explain_reads.proofs.holding_trades.read_holding_trades.Given as goal

abbrev pub invariant-loop-id : goal.invariant-loop-id
invariant-loop-id g l = ReadPost {V = Unit {0}} {E = CallFault} g.S.Store l.fn.store l.store (Ok tt)
    (λ _ t. (l.id-items ≡ held_ids t l.fn.account l.fn.symbol)
    × (map (λ r. Some (abstract_trade_row r)) l.held.done.items ≡ map (trade_row_with_id t) (take l.id-index l.id-items))
    × (map abstract_lot_details l.held.lots.items ≡ flat_map (λ id. option_to_list (lot_opened_by_trade t id)) (take l.id-index l.id-items)))
