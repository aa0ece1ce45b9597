use Rattle.std.proofs.Common.{◌≡◌, map, take}
use Rattle.brk_trade_rows.specs.Changes.{tables_after_change}
use Rattle.brk_trade_plans.specs.Update.{tables_with_toggled_cash_text}
use Rattle.brk_trade_plans.proofs.update.cash_name_changes.Given as goal

abbrev pub invariant-loop-one : goal.invariant-loop-one
invariant-loop-one l = map tables_after_change l.changes.items ≡ map (tables_with_toggled_cash_text l.security) (take l.one-index l.paid)
