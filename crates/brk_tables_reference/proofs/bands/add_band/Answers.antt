use Rattle.sqlite.specs.Held.{state}
use Rattle.brk_ref.specs.Records.{abstract_band}
use Rattle.brk_tables_sql.proofs.Inside.{step_weaker}
use Rattle.brk_tables_reference.proofs.ReferenceAdds.{adds_band}
use Rattle.brk_tables_reference.proofs.bands.add_band.Goals as goal

pub returns-clause-step : goal.returns-clause-step
returns-clause-step g c =
    let old = state g.S.Store c.args.tx.now.conn.now in
    let new = state g.S.Store c.execute_statement.new.tx.conn.now in
    step_weaker old new c.execute_statement.result _ _
    (λ _ ran. adds_band old new (abstract_band c.args.band.now)
    (rw (
      c.tier_param.ensures,
      c.trade_type_param.ensures,
      c.text_param.ensures,
      c.as_str.ensures,
      c.qty_param.ensures,
      c.qty_param-2.ensures,
      c.rate_param.ensures,
    ) at ran)) c.execute_statement.ensures.step
