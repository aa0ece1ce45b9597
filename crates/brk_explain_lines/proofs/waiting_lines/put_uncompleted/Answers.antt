use Rattle.std.proofs.Common.{rules}
use Rattle.std.proofs.lemmas.List.{append_assoc, length-map}
use Rattle.brk_model_explain.specs.TradeLines.{uncompleted_trade_lines}
use Rattle.brk_explain_lines.proofs.waiting_lines.put_uncompleted.Goals as goal

pub returns : goal.returns
unfolding uncompleted_trade_lines
returns c = search (rules, append_assoc, length-map)
