use Rattle.std.proofs.Common.{◌∙◌, ap, subst}
use Rattle.sqlite_value.specs.declared.value.Value.TheVariants.{Text as Words}
use Rattle.sqlite.specs.Held.{state}
use Rattle.brk_tables_sql.specs.Model.{ExecutesStatement}
use Rattle.brk_tables_sql.proofs.Inside.{step_weaker}
use Rattle.brk_ref.specs.Rows.{abstract_cash_row}
use Rattle.brk_tables_cash.proofs.AddMove
use Rattle.brk_tables_cash.proofs.CashWrites.{adds_move, params_are}
use Rattle.brk_tables_cash.proofs.moves.add_cash_row.Goals as goal

pub returns-clause-step : goal.returns-clause-step
returns-clause-step g c =
    let old = state g.S.Store c.args.tx.now.conn.now in
    let new = state g.S.Store c.execute_statement.new.tx.conn.now in
    let same = params_are (abstract_cash_row c.args.row.now) _ _ _ _ _ _ c.cash_row_id_param.ensures c.id_param.ensures
    c.optional_id_param.ensures c.stamp_param.ensures c.cents_param.ensures
    (c.text_param.ensures ∙ ap Words c.as_str.ensures.value) in
    step_weaker old new c.execute_statement.result _ _
    (λ _ ran. adds_move old new (abstract_cash_row c.args.row.now) (subst (λ params. ExecutesStatement AddMove.statement params old new) same ran))
    c.execute_statement.ensures.step
