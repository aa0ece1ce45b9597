use Rattle.std.proofs.Common.{[], ◌∷◌, find, filter}
use Rattle.std.specs.Prelude.{bytes_eq}
use Rattle.sqlite_value.specs.declared.value.Value.TheVariants.{Text}
use Rattle.sqlite_keyed.proofs.ListLemmas.{slice_get-filter}
use Rattle.sqlite.specs.Held.{state}
use Rattle.brk_ref.specs.Records.{abstract_security_row}
use Rattle.brk_model.specs.Tables.{SecurityRow}
use Rattle.brk_tables_sql.proofs.Answer.{look_first}
use Rattle.brk_tables_schema.specs.Cells.{security_cells}
use Rattle.brk_tables_schema.specs.Desk.{desk_tables}
use Rattle.brk_tables_schema.proofs.Back.{security_back, security_is_back}
use Rattle.brk_tables_reference.proofs.SecurityBySymbol
use Rattle.brk_tables_reference.proofs.SecurityBySymbol.{plain}
use Rattle.brk_tables_reference.proofs.ReferenceReads.{tells_security}
use Rattle.brk_tables_reference.proofs.securities.security_by_symbol.Goals as goal

pub select_rows-requires : goal.select_rows-requires
select_rows-requires g c = record { no_returning_clause = plain }

pub returns-clause-step : goal.returns-clause-step
returns-clause-step g c =
    let old = state g.S.Store c.args.tx.now.conn.now in
    let new = state g.S.Store c.select_rows.new.tx.conn.now in
    look_first desk_tables security_cells security_back security_is_back abstract_security_row SecurityBySymbol.statement (Text c.args.symbol.now ∷ []) old new
    c.in_ok-rows.rows (λ rows. rows.items) _ c.deref.ensures.value (rw (c.text_param.ensures, c.as_str.ensures) at c.in_ok-rows.ensures.step)
    c.decode_first_row.result c.decode_first_row.ensures.value (λ t. filter (λ (r : SecurityRow). bytes_eq r.symbol c.args.symbol.now) t.securities)
    (λ t. find (λ (r : SecurityRow). bytes_eq r.symbol c.args.symbol.now) t.securities)
    (λ t. slice_get-filter (λ (r : SecurityRow). bytes_eq r.symbol c.args.symbol.now) t.securities) (tells_security old new c.args.symbol.now _)
