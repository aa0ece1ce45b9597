use Rattle.std.proofs.Common.{◌≡◌, map, take}
use Rattle.brk_audit.specs.Positions.{deal_of_completed_row}
use Rattle.brk_ref.specs.Rows.{abstract_trade_row}
use Rattle.brk_lots.specs.Lots.{abstract_deal}
use Rattle.brk_audit.proofs.positions.deals_of_trades.Given as goal

abbrev pub invariant-loop-row : goal.invariant-loop-row
invariant-loop-row l = map abstract_deal l.deals.items ≡ map (λ row. deal_of_completed_row (abstract_trade_row row.now)) (take l.row-index l.run)
