use Rattle.std.proofs.Common.{rules, w64}
use Rattle.std.proofs.lemmas.Int.{to_z-of_z}
use Rattle.sqlite.specs.Held.{state}
use Rattle.brk_tables_sql.proofs.Inside.{step_weaker}
use Rattle.brk_ref.specs.Rows.{abstract_summary_row}
use Rattle.brk_tables_trading.proofs.HoldingWrites.{adds_summary}
use Rattle.brk_tables_trading.proofs.summaries.add_holding_summary.Goals as goal

pub returns-clause-step : goal.returns-clause-step
returns-clause-step g c =
    let old = state g.S.Store c.args.tx.now.conn.now in
    let new = state g.S.Store c.execute_statement.new.tx.conn.now in
    step_weaker old new c.execute_statement.result _ _
    (λ _ ran. adds_summary old new (abstract_summary_row c.args.summary.now)
    (rw (
      c.id_param.ensures,
      c.text_param.ensures,
      c.as_str.ensures,
      c.integer_param.ensures,
      to_z-of_z w64 c.args.summary.now.qty
          (search rules),
    ) at ran)) c.execute_statement.ensures.step
