use Rattle.std.proofs.Common.{rules, w64}
use Rattle.std.proofs.lemmas.Int.{to_z-of_z}
use Rattle.sqlite.specs.Held.{state}
use Rattle.brk_tables_sql.proofs.Inside.{step_weaker}
use Rattle.brk_ref.specs.Rows.{abstract_lot_change_row}
use Rattle.brk_tables_trading.proofs.HoldingWrites.{adds_lot_change}
use Rattle.brk_tables_trading.proofs.lots.add_lot_change.Goals as goal

pub returns-clause-step : goal.returns-clause-step
returns-clause-step g c =
    let old = state g.S.Store c.args.tx.now.conn.now in
    let new = state g.S.Store c.execute_statement.new.tx.conn.now in
    step_weaker old new c.execute_statement.result _ _
    (λ _ ran. adds_lot_change old new (abstract_lot_change_row c.args.change.now)
    (rw (
      c.id_param.ensures,
      c.id_param-2.ensures,
      c.integer_param.ensures,
      c.integer_param-2.ensures,
      to_z-of_z w64
          c.args.change.now.before (search rules),
      to_z-of_z w64 c.args.change.now.after (search rules),
    ) at ran)) c.execute_statement.ensures.step
