use Rattle.std.proofs.Common.{rules}
use Rattle.std.proofs.lemmas.Grind.{flat_map-append}
use Rattle.std.proofs.lemmas.List.{append_assoc}
use Rattle.brk_model_explain.specs.TradeLines.{trade_explanation_lines}
use Rattle.brk_explain_lines.proofs.trade.trade_explanation_text.Goals as goal

pub returns : goal.returns
unfolding trade_explanation_lines
returns c = search (rules, append_assoc, flat_map-append)
