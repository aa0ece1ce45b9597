use Rattle.std.proofs.Common.{rules}
use Rattle.std.proofs.lemmas.Grind.{flat_map-append}
use Rattle.std.proofs.lemmas.List.{append_assoc}
use Rattle.brk_model_explain.specs.TradeLines.{order_and_status_lines}
use Rattle.brk_explain_lines.proofs.order_lines.put_order_lines.Goals as goal

pub returns : goal.returns
unfolding order_and_status_lines
returns c = search (rules, append_assoc, flat_map-append)
