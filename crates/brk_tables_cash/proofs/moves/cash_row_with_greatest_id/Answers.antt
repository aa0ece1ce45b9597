use Rattle.std.proofs.Common.{◌≡◌, List, [], ◌∷◌, take, reverse, slice_get, refl}
use Rattle.sqlite.specs.Held.{state}
use Rattle.brk_ref.specs.Rows.{abstract_cash_row}
use Rattle.brk_model.specs.Tables.{Tables, CashRow}
use Rattle.brk_tables_sql.proofs.Answer.{look_first}
use Rattle.brk_tables_schema.specs.Cells.{move_cells}
use Rattle.brk_tables_schema.specs.Desk.{desk_tables}
use Rattle.brk_tables_schema.proofs.Back.{move_back, move_is_back}
use Rattle.brk_tables_cash.proofs.LastMove
use Rattle.brk_tables_cash.proofs.LastMove.{plain}
use Rattle.brk_tables_cash.proofs.CashReads.{tells_last_move}
use Rattle.brk_tables_cash.proofs.moves.cash_row_with_greatest_id.Goals as goal

pub select_rows-requires : goal.select_rows-requires
select_rows-requires g c = record { no_returning_clause = plain }

first_of : (rows : List CashRow) → slice_get (take 1 rows) 0 ≡ slice_get rows 0
first_of [] = refl
first_of (r ∷ rows) = refl

pub returns-clause-step : goal.returns-clause-step
returns-clause-step g c =
    let old = state g.S.Store c.args.tx.now.conn.now in
    let new = state g.S.Store c.select_rows.new.tx.conn.now in
    look_first desk_tables move_cells move_back move_is_back abstract_cash_row LastMove.statement [] old new c.in_ok-rows.rows (λ rows. rows.items) _ c.deref.ensures.value c.in_ok-rows.ensures.step
    c.decode_first_row.result c.decode_first_row.ensures.value (λ (t : Tables). take 1 (reverse t.moves)) (λ (t : Tables). slice_get (reverse t.moves) 0)
    (λ t. first_of (reverse t.moves)) (tells_last_move old new _)
