use Rattle.std.proofs.Common.{◌==◌, pos, [], ◌∷◌, find, filter}
use Rattle.sqlite_value.specs.declared.value.Value.TheVariants.{Int}
use Rattle.sqlite_keyed.proofs.ListLemmas.{slice_get-filter}
use Rattle.sqlite.specs.Held.{state}
use Rattle.brk_ref.specs.Records.{abstract_customer}
use Rattle.brk_model.specs.Records.{Customer}
use Rattle.brk_tables_sql.proofs.Answer.{look_first}
use Rattle.brk_tables_schema.specs.Cells.{customer_cells}
use Rattle.brk_tables_schema.specs.Desk.{desk_tables}
use Rattle.brk_tables_schema.proofs.Back.{customer_back, customer_is_back}
use Rattle.brk_tables_reference.proofs.CustomerById
use Rattle.brk_tables_reference.proofs.CustomerById.{plain}
use Rattle.brk_tables_reference.proofs.Steps.{tells_customer}
use Rattle.brk_tables_reference.proofs.customers.customer_by_id.Goals as goal

pub select_rows-requires : goal.select_rows-requires
select_rows-requires g c = record { no_returning_clause = plain }

pub returns-clause-step : goal.returns-clause-step
returns-clause-step g c =
    let old = state g.S.Store c.args.tx.now.conn.now in
    let new = state g.S.Store c.select_rows.new.tx.conn.now in
    look_first desk_tables customer_cells customer_back customer_is_back abstract_customer CustomerById.statement (Int (pos c.args.id) ∷ []) old new
    c.in_ok-rows.rows (λ rows. rows.items) _ c.deref.ensures.value (rw (c.id_param.ensures) at c.in_ok-rows.ensures.step)
    c.decode_first_row.result c.decode_first_row.ensures.value (λ t. filter (λ (r : Customer). r.id == c.args.id) t.customers)
    (λ t. find (λ (r : Customer). r.id == c.args.id) t.customers) (λ t. slice_get-filter (λ (r : Customer). r.id == c.args.id) t.customers)
    (tells_customer old new c.args.id _)
