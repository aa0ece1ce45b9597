use Rattle.std.proofs.Common.{subst}
use Rattle.sqlite.specs.Held.{state}
use Rattle.brk_tables_sql.specs.Desk.{IsCompilationOutcome}
use Rattle.brk_tables_sql.proofs.Inside.{step_weaker}
use Rattle.brk_tables_schema.specs.Texts.{abstract_table}
use Rattle.brk_tables_scan.proofs.Probing.{probed_of}
use Rattle.brk_tables_scan.proofs.presence.table_exists.Goals as goal

pub returns-clause-step : goal.returns-clause-step
returns-clause-step g c =
    let old = state g.S.Store c.args.tx.now.conn.now in
    let new = state g.S.Store c.statement_compiles.new.tx.conn.now in
    step_weaker old new c.statement_compiles.result _ _
    (λ has p. (
      p.0,
      p.1,
      probed_of (abstract_table c.args.table) old.now.schema has
          (subst (λ text. IsCompilationOutcome text has old.now.schema) c.existence_probe_text.ensures p.2),
    )) c.statement_compiles.ensures.step
