use Rattle.std.proofs.Common.{ℕ, List, [], ◌∷◌, Option, None, ap}
use Rattle.sqlite.specs.Held.{state}
use Rattle.brk_model.specs.Schemas.{third_schema}
use Rattle.brk_model.specs.Tables.{Tables}
use Rattle.brk_tables_sql.proofs.Answer.{look_all}
use Rattle.brk_tables_sql.proofs.Inside.{step_weaker}
use Rattle.brk_tables_schema.specs.Cells.{DeskRow, desk_row_cells}
use Rattle.brk_tables_schema.specs.Desk.{desk_tables, desk_rows}
use Rattle.brk_tables_schema.proofs.Back.{desk_back, desk_is_back}
use Rattle.brk_tables_schema.proofs.DeskRows
use Rattle.brk_tables_schema.proofs.DeskRows.{plain}
use Rattle.brk_tables_schema.proofs.Steps.{tells_last}
use Rattle.brk_tables_schema.proofs.desk_row.last_stamp.Goals as goal

pub select_rows-requires : goal.select_rows-requires
select_rows-requires g c = record { no_returning_clause = plain }

abbrev first_last : List DeskRow → Option ℕ
first_last [] = None
first_last (r ∷ rows) = r.last

pub returns-clause-step : goal.returns-clause-step
returns-clause-step g c =
    let old = state g.S.Store c.args.tx.now.conn.now in
    let new = state g.S.Store c.select_rows.new.tx.conn.now in
    step_weaker old new c.last_stamp_in_third_schema.result _ _ (λ v looks. (looks.0, looks.1, λ t tree h. ap first_last (looks.2 t tree h)))
    (look_all desk_tables desk_row_cells desk_back desk_is_back (λ (r : DeskRow). r) DeskRows.statement [] old new c.in_ok-rows.rows (λ rows. rows.items) _
    c.deref.ensures.value c.in_ok-rows.ensures.step
    (desk_rows third_schema) c.last_stamp_in_third_schema.result c.last_stamp_in_third_schema.ensures.value (λ (t : Tables). desk_rows third_schema t.last) (tells_last old new _))
