use Rattle.std.proofs.Common.{◌==◌, pos, [], ◌∷◌, find, filter}
use Rattle.sqlite_value.specs.declared.value.Value.TheVariants.{Int}
use Rattle.sqlite_keyed.proofs.ListLemmas.{slice_get-filter}
use Rattle.sqlite.specs.Held.{state}
use Rattle.brk_ref.specs.Rows.{abstract_cash_row}
use Rattle.brk_model.specs.Tables.{CashRow, Tables}
use Rattle.brk_tables_sql.proofs.Answer.{look_first}
use Rattle.brk_tables_schema.specs.Cells.{move_cells}
use Rattle.brk_tables_schema.specs.Desk.{desk_tables}
use Rattle.brk_tables_schema.proofs.Back.{move_back, move_is_back}
use Rattle.brk_tables_cash.proofs.MoveById
use Rattle.brk_tables_cash.proofs.MoveById.{plain}
use Rattle.brk_tables_cash.proofs.CashReads.{tells_move_by_id}
use Rattle.brk_tables_cash.proofs.moves.cash_row_by_id.Goals as goal

pub select_rows-requires : goal.select_rows-requires
select_rows-requires g c = record { no_returning_clause = plain }

pub returns-clause-step : goal.returns-clause-step
returns-clause-step g c =
    let old = state g.S.Store c.args.tx.now.conn.now in
    let new = state g.S.Store c.select_rows.new.tx.conn.now in
    look_first desk_tables move_cells move_back move_is_back abstract_cash_row MoveById.statement (Int (pos c.args.id) ∷ []) old new
    c.in_ok-rows.rows (λ rows. rows.items) _ c.deref.ensures.value (rw (c.cash_row_id_param.ensures) at c.in_ok-rows.ensures.step)
    c.decode_first_row.result c.decode_first_row.ensures.value (λ (t : Tables). filter (λ (r : CashRow). r.id == c.args.id) t.moves)
    (λ (t : Tables). find (λ (r : CashRow). r.id == c.args.id) t.moves) (λ t. slice_get-filter (λ (r : CashRow). r.id == c.args.id) t.moves)
    (tells_move_by_id old new c.args.id _)
