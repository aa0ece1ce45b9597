use Rattle.std.proofs.Common.{[], map}
use Rattle.sqlite.specs.Held.{state}
use Rattle.brk_tables_sql.specs.Desk.{CreatesEachTable}
use Rattle.brk_tables_sql.specs.Model.{ExecutesStatement}
use Rattle.brk_tables_sql.proofs.Inside.{step_then}
use Rattle.brk_tables_schema.specs.Desk.{all_tables, table_definition_at_tree}
use Rattle.brk_tables.specs.Made.{CreatesDeskTables, insert_desk_row_text}
use Rattle.brk_tables.proofs.Founding.{founds_bare, founds_desk}
use Rattle.brk_tables.proofs.making.create_desk_tables.Goals as goal

pub returns-clause-step : goal.returns-clause-step
returns-clause-step g c =
    let a = state g.S.Store c.args.tx.now.conn.now in
    let b = state g.S.Store c.create_each_table.new.tx.conn.now in
    let d = state g.S.Store c.add_desk_row.new.tx.conn.now in
    step_then a b d tt c.add_desk_row.result (λ _ x y. CreatesEachTable (map table_definition_at_tree all_tables) x.now y.now)
    (λ _. ExecutesStatement insert_desk_row_text []) (λ _ x y. CreatesDeskTables x.now y.now)
    (λ _ made row. founds_desk a.now b d (founds_bare a.now b.now made) row) c.in_ok-create_each_table.ensures.step c.add_desk_row.ensures.step
