use Rattle.std.proofs.Common.{rules, sym, ◌∙◌}
use Rattle.brk_lots.proofs.Unmet.{no_values_are}
use Rattle.brk_lots.proofs.against.zero_values.Goals as goal

pub returns-clause-values : goal.returns-clause-values
returns-clause-values c d ls w e = search rules ∙ sym (no_values_are d ls w e)
