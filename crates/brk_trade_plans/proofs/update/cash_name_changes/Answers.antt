use Rattle.std.proofs.Common.{◌∙◌, ap}
use Rattle.brk_trade_rows.specs.Changes.{tables_after_change}
use Rattle.brk_trade_plans.specs.Update.{tables_with_toggled_cash_text}
use Rattle.brk_trade_plans.proofs.Mapped.{one_more}
use Rattle.brk_trade_plans.proofs.update.cash_name_changes.Goals as goal

pub loop-one-preserved : goal.loop-one-preserved
loop-one-preserved c =
    one_more tables_after_change (tables_with_toggled_cash_text c.args.security.now) c.args.paid.now c.loop-one.one-index c.one-item.result c.loop-one.changes.items c.push.new.self.items
    c.in_ok-change.change c.loop-one-test.true c.in_ok-push.ensures.items c.loop-one.invariant (c.in_ok-change.ensures.change ∙ ap (tables_with_toggled_cash_text c.args.security.now) c.one-item.is)
