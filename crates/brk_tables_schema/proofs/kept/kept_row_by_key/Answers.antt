use Rattle.std.proofs.Common.{pos, [], ◌∷◌, ◌==◌, ◌&&◌, find, filter}
use Rattle.std.specs.Prelude.{bytes_eq}
use Rattle.sqlite_value.specs.declared.value.Value.TheVariants.{Int, Text}
use Rattle.sqlite_keyed.proofs.ListLemmas.{slice_get-filter}
use Rattle.sqlite.specs.Held.{state}
use Rattle.brk_ref.specs.Records.{abstract_kept_row}
use Rattle.brk_model.specs.Records.{Kept}
use Rattle.brk_tables_sql.proofs.Answer.{look_first}
use Rattle.brk_tables_schema.specs.Cells.{kept_cells}
use Rattle.brk_tables_schema.specs.Desk.{desk_tables}
use Rattle.brk_tables_schema.proofs.Back.{kept_back, kept_is_back}
use Rattle.brk_tables_schema.proofs.KeptByKey
use Rattle.brk_tables_schema.proofs.KeptByKey.{plain}
use Rattle.brk_tables_schema.proofs.Keeping.{tells_kept}
use Rattle.brk_tables_schema.proofs.kept.kept_row_by_key.Goals as goal

pub select_rows-requires : goal.select_rows-requires
select_rows-requires g c = record { no_returning_clause = plain }

pub returns-clause-step : goal.returns-clause-step
returns-clause-step g c =
    let old = state g.S.Store c.args.tx.now.conn.now in
    let new = state g.S.Store c.select_rows.new.tx.conn.now in
    look_first desk_tables kept_cells kept_back kept_is_back abstract_kept_row KeptByKey.statement
    (Text c.args.key.now.batch ∷ Int (pos c.args.key.now.n) ∷ []) old new c.in_ok-rows.rows (λ rows. rows.items) _ c.deref.ensures.value
    (rw (c.text_param.ensures, c.as_str.ensures, c.row_number_param.ensures) at c.in_ok-rows.ensures.step)
    c.decode_first_row.result c.decode_first_row.ensures.value
    (λ t. filter (λ (k : Kept). bytes_eq k.key.batch c.args.key.now.batch && (k.key.n == c.args.key.now.n)) t.kept)
    (λ t. find (λ (k : Kept). bytes_eq k.key.batch c.args.key.now.batch && (k.key.n == c.args.key.now.n)) t.kept)
    (λ t. slice_get-filter (λ (k : Kept). bytes_eq k.key.batch c.args.key.now.batch && (k.key.n == c.args.key.now.n)) t.kept)
    (tells_kept old new c.args.key.now.batch c.args.key.now.n _)
