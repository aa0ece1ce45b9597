use Rattle.std.proofs.Common.{rules}
use Rattle.std.proofs.lemmas.Grind.{flat_map-append}
use Rattle.std.proofs.lemmas.List.{append_assoc}
use Rattle.brk_model_explain.specs.TradeLines.{lot_and_gain_lines, lot_closing_lines}
use Rattle.brk_explain_lines.proofs.lots_lines.put_lots_with_gain.Goals as goal

pub returns : goal.returns
unfolding lot_and_gain_lines lot_closing_lines
returns c = search (rules, append_assoc, flat_map-append)
