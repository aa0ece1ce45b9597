use Rattle.std.proofs.Common.{◌≡◌, map, take}
use Rattle.brk_model_explain.specs.AccountLines as lines
use Rattle.brk_explain_rows.specs.Details.{abstract_priced_holding}
use Rattle.brk_explain_lines.proofs.account.market_value_of_holdings.Given as goal

abbrev pub invariant-loop-held : goal.invariant-loop-held
invariant-loop-held l = l.total ≡ lines.market_value_of_holdings (map abstract_priced_holding (take l.held-index l.all))
