use Rattle.std.proofs.Common.{◌≡◌, ◌++◌, map, take}
use Rattle.brk_model_explain.specs.AccountLines.{holding_line}
use Rattle.brk_explain_rows.specs.Details.{abstract_priced_holding}
use Rattle.brk_model.specs.Statement.{text_of_lines}
use Rattle.brk_explain_lines.proofs.account.put_held_lines.Given as goal

abbrev pub invariant-loop-held : goal.invariant-loop-held
invariant-loop-held l = l.out.items ≡ l.fn.out.items ++ text_of_lines (map holding_line (map abstract_priced_holding (take l.held-index l.all)))
