use Rattle.std.proofs.Common.{map}
use Rattle.sqlite.specs.Held.{state}
use Rattle.brk_trade_rows.specs.Schemas.{abstract_schema}
use Rattle.brk_tables_sql.specs.Desk.{CreatesEachTable}
use Rattle.brk_tables_sql.proofs.Inside.{step_then}
use Rattle.brk_tables_schema.specs.Desk.{table_definition_at_tree}
use Rattle.brk_tables_schema.specs.Desk.{tables_of_later_schemas}
use Rattle.brk_tables_cash.specs.UpgradeStatements.{SetsSchemaNumberToThree}
use Rattle.brk_tables_cash.specs.Upgrade.{AddsTablesOfLaterSchemas}
use Rattle.brk_tables.proofs.LaterTables.{raised}
use Rattle.brk_tables.proofs.upgrade.raise_schema.Goals as goal

pub returns-clause-step : goal.returns-clause-step
returns-clause-step g c =
    let desk = abstract_schema c.args.schema in
    let a = state g.S.Store c.args.tx.now.conn.now in
    let b = state g.S.Store c.create_later_tables.new.tx.conn.now in
    let d = state g.S.Store c.set_third_schema.new.tx.conn.now in
    step_then a b d tt c.set_third_schema.result (λ _ x y. CreatesEachTable (map table_definition_at_tree (tables_of_later_schemas desk)) x.now y.now)
    (λ _ x y. SetsSchemaNumberToThree x.now y.now) (λ _ x y. AddsTablesOfLaterSchemas desk x.now y.now)
    (λ _ made raises. raised desk a.now b.now d.now made raises) c.in_ok-create_later_tables.ensures.step c.set_third_schema.ensures.step
