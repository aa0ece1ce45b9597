use Rattle.sqlite.specs.Held.{state}
use Rattle.brk_trade_rows.specs.Schemas.{abstract_schema}
use Rattle.brk_tables_scan.proofs.Failing.{both, fails}
use Rattle.brk_tables_scan.proofs.Four.{shows_later}
use Rattle.brk_tables_scan.proofs.all_tables.read_later_group.Goals as goal

pub returns-in_err-moves-clause-step : goal.returns-in_err-moves-clause-step
returns-in_err-moves-clause-step g c = fails c.from_residual.result _ c.from_residual.ensures.0 c.cash_move_rows_in_schema.ensures.step

pub returns-in_err-rule-clause-step : goal.returns-in_err-rule-clause-step
returns-in_err-rule-clause-step g c = fails c.from_residual-in_err-rule.result _ c.from_residual-in_err-rule.ensures.0 (both c.cash_move_rows_in_schema.ensures.step c.settle_rule_rows_in_schema.ensures.step)

pub returns-clause-step : goal.returns-clause-step
returns-clause-step g c =
    shows_later (abstract_schema c.args.schema) (state g.S.Store c.args.tx.now.conn.now)
    (state g.S.Store c.cash_move_rows_in_schema.new.tx.conn.now)
    (state g.S.Store c.settle_rule_rows_in_schema.new.tx.conn.now)
    c.in_ok-moves.moves c.in_ok-rule.rule
    c.in_ok-moves.ensures.step c.in_ok-rule.ensures.step _ _
    (λ s. s)
