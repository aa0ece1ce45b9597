use Rattle.std.proofs.Common.{◌≡◌, ◌++◌, map, take}
use Rattle.brk_model_explain.specs.TradeLines.{tax_rate_line}
use Rattle.brk_model.specs.Statement.{text_of_lines}
use Rattle.brk_ref.specs.Records.{abstract_tax_rate}
use Rattle.brk_explain_lines.proofs.tax_lines.put_tax_rates.Given as goal

abbrev pub invariant-loop-rate : goal.invariant-loop-rate
invariant-loop-rate l = l.out.items ≡ l.fn.out.items ++ text_of_lines (map tax_rate_line (map abstract_tax_rate (take l.rate-index l.rates)))
