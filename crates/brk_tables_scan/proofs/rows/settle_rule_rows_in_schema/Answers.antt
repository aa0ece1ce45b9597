use Rattle.std.proofs.Common.{◌∙◌, sym}
use Rattle.sqlite.specs.Held.{state}
use Rattle.brk_tables_sql.proofs.Inside.{step_weaker}
use Rattle.brk_tables_scan.proofs.rows.settle_rule_rows_in_schema.Goals as goal

pub returns-clause-step : goal.returns-clause-step
returns-clause-step g c =
    let old = state g.S.Store c.args.tx.now.conn.now in
    let new = state g.S.Store c.settle_rule_rows.new.tx.conn.now in
    step_weaker old new c.settle_rule_rows.result _ _
    (λ rows s. (s.1, ((λ _. s.2), λ off. absurd (let e = sym off ∙ sym c.has_settle_rule_table.ensures ∙ c.if-not-has_settle_rule_table.false in cc))))
    c.settle_rule_rows.ensures.step
