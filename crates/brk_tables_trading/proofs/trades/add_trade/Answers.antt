use Rattle.std.proofs.Common.{◌∙◌, ap, subst}
use Rattle.sqlite_value.specs.declared.value.Value.TheVariants.{Text as Words}
use Rattle.sqlite.specs.Held.{state}
use Rattle.brk_tables_sql.specs.Model.{ExecutesStatement}
use Rattle.brk_tables_sql.proofs.Inside.{step_weaker}
use Rattle.brk_ref.specs.Rows.{abstract_trade_row}
use Rattle.brk_tables_trading.proofs.AddTrade
use Rattle.brk_tables_schema.proofs.TradeCells.{params_are}
use Rattle.brk_tables_trading.proofs.Writes.{adds_trade}
use Rattle.brk_tables_trading.proofs.trades.add_trade.Goals as goal

pub returns-clause-step : goal.returns-clause-step
returns-clause-step g c =
    let old = state g.S.Store c.args.tx.now.conn.now in
    let new = state g.S.Store c.execute_statement.new.tx.conn.now in
    let same = params_are (abstract_trade_row c.args.trade.now) _ _ _ _ _ _ _ _ _ _ _ _ _ _ _ c.id_param.ensures c.stamp_param.ensures
    c.status_param.ensures c.trade_type_param.ensures c.flag_param.ensures (c.text_param.ensures ∙ ap Words c.as_str.ensures)
    c.qty_param.ensures c.price_param.ensures c.id_param-2.ensures
    (c.text_param-2.ensures ∙ ap Words c.as_str-2.ensures.value) c.optional_price_param.ensures c.charge_param.ensures
    c.amount_param.ensures c.amount_param-2.ensures c.flag_param-2.ensures in
    step_weaker old new c.execute_statement.result _ _
    (λ _ ran. adds_trade old new (abstract_trade_row c.args.trade.now) (subst (λ params. ExecutesStatement AddTrade.statement params old new) same ran))
    c.execute_statement.ensures.step
