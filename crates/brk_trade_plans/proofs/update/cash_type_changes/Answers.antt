use Rattle.std.proofs.Common.{◌∙◌, ap}
use Rattle.brk_trade_rows.specs.Changes.{tables_after_change}
use Rattle.brk_trade_plans.specs.Update.{tables_with_toggled_cash_type}
use Rattle.brk_trade_plans.proofs.Mapped.{one_more}
use Rattle.brk_trade_plans.proofs.update.cash_type_changes.Goals as goal

pub loop-one-preserved : goal.loop-one-preserved
loop-one-preserved c =
    one_more tables_after_change tables_with_toggled_cash_type c.args.settled.now c.loop-one.one-index c.one-item.result c.loop-one.changes.items c.push.new.self.items
    c.cash_type_change.result c.loop-one-test.true c.in_ok-push.ensures.items c.loop-one.invariant (c.cash_type_change.ensures ∙ ap tables_with_toggled_cash_type c.one-item.is)
