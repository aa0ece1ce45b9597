use Rattle.std.proofs.Common.{◌≡◌, Ok, map, take}
use Rattle.std.specs.Prelude.{flat_map}
use Rattle.brk_money.specs.declared.fault.CallFault.{CallFault}
use Rattle.brk_ref.specs.Rows.{abstract_history_row, abstract_trade_row}
use Rattle.brk_model.specs.Joins.{history_rows_with_trade_id}
use Rattle.brk_model.specs.PositionView.{last_ten_trade_rows}
use Rattle.brk_store_transactions.specs.Holds.{ReadPost}
use Rattle.brk_desk_queries.proofs.recents.recent_trades_with_history.Given as goal

abbrev pub invariant-loop-trade : goal.invariant-loop-trade
invariant-loop-trade g l = ReadPost {V = Unit {0}} {E = CallFault} g.S.Store l.fn.store l.store (Ok tt)
    (λ _ t. (map abstract_trade_row l.trade-items ≡ last_ten_trade_rows t l.fn.account)
    × (map abstract_history_row l.history.items ≡ flat_map (λ r. history_rows_with_trade_id t (abstract_trade_row r).id) (take l.trade-index l.trade-items)))
