use Rattle.std.proofs.Common.{◌≡◌, map, take}
use Rattle.brk_ref.specs.Rows.{abstract_trade_row}
use Rattle.brk_model_explain.specs.Holdings as holdings
use Rattle.brk_explain_sums.proofs.trades.total_purchase_value.Given as goal

abbrev pub invariant-loop-row : goal.invariant-loop-row
invariant-loop-row l = l.total ≡ holdings.total_purchase_value (map abstract_trade_row (take l.row-index l.done))
