use Rattle.std.proofs.Common.{◌≡◌, map, take}
use Rattle.brk_model_explain.specs.Trades as trades
use Rattle.brk_explain_rows.specs.Details.{abstract_closing}
use Rattle.brk_explain_lines.proofs.amounts.total_closed_shares.Given as goal

abbrev pub invariant-loop-closing : goal.invariant-loop-closing
invariant-loop-closing l = l.total ≡ trades.total_closed_shares (map abstract_closing (take l.closing-index l.closings))
