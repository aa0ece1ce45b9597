use Rattle.std.proofs.Common.{◌≡◌, map, take}
use Rattle.brk_model_explain.specs.Trades as trades
use Rattle.brk_explain_rows.specs.Details.{abstract_closing}
use Rattle.brk_explain_lines.proofs.amounts.sell_value_of_closings.Given as goal

abbrev pub invariant-loop-closing : goal.invariant-loop-closing
invariant-loop-closing l = l.total ≡ trades.sell_value_of_closings l.side l.price (map abstract_closing (take l.closing-index l.closings))
