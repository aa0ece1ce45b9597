use Rattle.std.proofs.Common.{◌==◌, pos, [], ◌∷◌, find, filter}
use Rattle.sqlite_value.specs.declared.value.Value.TheVariants.{Int}
use Rattle.sqlite_keyed.proofs.ListLemmas.{slice_get-filter}
use Rattle.sqlite.specs.Held.{state}
use Rattle.brk_model.specs.Tables.{AccountRow}
use Rattle.brk_tables_sql.proofs.Answer.{look_first}
use Rattle.brk_tables_schema.specs.Cells.{account_cells}
use Rattle.brk_tables_schema.specs.Desk.{desk_tables}
use Rattle.brk_ref.specs.Records.{abstract_account_row}
use Rattle.brk_tables_schema.proofs.Back.{account_back, account_is_back}
use Rattle.brk_tables_reference.proofs.AccountById
use Rattle.brk_tables_reference.proofs.AccountById.{plain}
use Rattle.brk_tables_reference.proofs.Steps.{tells_account}
use Rattle.brk_tables_reference.proofs.accounts.account_by_id.Goals as goal

pub select_rows-requires : goal.select_rows-requires
select_rows-requires g c = record { no_returning_clause = plain }

pub returns-clause-step : goal.returns-clause-step
returns-clause-step g c =
    let old = state g.S.Store c.args.tx.now.conn.now in
    let new = state g.S.Store c.select_rows.new.tx.conn.now in
    look_first desk_tables account_cells account_back account_is_back abstract_account_row AccountById.statement (Int (pos c.args.id) ∷ []) old new
    c.in_ok-rows.rows (λ rows. rows.items) _ c.deref.ensures.value (rw (c.id_param.ensures) at c.in_ok-rows.ensures.step)
    c.decode_first_row.result c.decode_first_row.ensures.value (λ t. filter (λ (r : AccountRow). r.id == c.args.id) t.accounts)
    (λ t. find (λ (r : AccountRow). r.id == c.args.id) t.accounts) (λ t. slice_get-filter (λ (r : AccountRow). r.id == c.args.id) t.accounts)
    (tells_account old new c.args.id _)
