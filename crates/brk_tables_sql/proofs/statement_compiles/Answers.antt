use Rattle.std.proofs.Common.{[], refl, ap, ◌∙◌}
use Rattle.sqlite.specs.Held.{state}
use Rattle.sqlite.specs.declared.error.Error.TheVariants.{SqlInputError}
use Rattle.brk_tables_sql.proofs.Probe.{Says, says_there, says_absent, says_nothing}
use Rattle.brk_tables_sql.proofs.statement_compiles.Goals.{in-Ok, in-Err-SqlInputError-NoSuchTable, in-Err+in-Err}
use Rattle.brk_tables_sql.proofs.statement_compiles.Goals as goal

pub returns-clause-step : goal.returns-clause-step
returns-clause-step g c =
    let old = state g.S.Store c.args.tx.now.conn.now in
    let new = state g.S.Store c.prepare.new.self.conn.now in
    elim c.match-prepare.branch [
      | in-Ok w ↦ rw w.result-is (says_there c.args.text.now old new c.prepare.ensures.survives w.in-Ok.field-0 (λ clean. (w.in-Ok.ensures.ok clean).1) w.in-Ok.ensures.shape)
      | in-Err-SqlInputError-NoSuchTable w ↦
          let it = w.in-Err-SqlInputError-NoSuchTable in
          rw w.result-is (says_absent c.args.text.now old new c.prepare.ensures.survives it.field-0 (it.field-0-is ∙ ap SqlInputError it.field-0-0-is) (λ clean. it.ensures.err clean []))
      | in-Err+in-Err w ↦ rw w.result-is
          (says_nothing c.args.text.now old new (Says c.args.text.now old new c.prepare.ensures.survives) _ _ refl c.prepare.ensures.survives
          (λ clean. w.in-Err.ensures.err clean []))
    ]
