use Rattle.std.proofs.Common.{◌==◌, pos, [], ◌∷◌, filter}
use Rattle.sqlite_value.specs.declared.value.Value.TheVariants.{Int}
use Rattle.sqlite.specs.Held.{state}
use Rattle.brk_model.specs.Tables.{AccountRow}
use Rattle.brk_tables_sql.proofs.Answer.{look_all}
use Rattle.brk_tables_schema.specs.Cells.{account_cells}
use Rattle.brk_tables_schema.specs.Desk.{desk_tables}
use Rattle.brk_ref.specs.Records.{abstract_account_row}
use Rattle.brk_tables_schema.proofs.Back.{account_back, account_is_back}
use Rattle.brk_tables_reference.proofs.AccountsOfCustomer
use Rattle.brk_tables_reference.proofs.AccountsOfCustomer.{plain}
use Rattle.brk_tables_reference.proofs.Steps.{tells_accounts}
use Rattle.brk_tables_reference.proofs.accounts.accounts_of_customer.Goals as goal

pub select_rows-requires : goal.select_rows-requires
select_rows-requires g c = record { no_returning_clause = plain }

pub returns-clause-step : goal.returns-clause-step
returns-clause-step g c =
    let old = state g.S.Store c.args.tx.now.conn.now in
    let new = state g.S.Store c.select_rows.new.tx.conn.now in
    look_all desk_tables account_cells account_back account_is_back abstract_account_row AccountsOfCustomer.statement (Int (pos c.args.customer) ∷ []) old new
    c.in_ok-rows.rows (λ rows. rows.items) _ c.deref.ensures.value (rw (c.id_param.ensures) at c.in_ok-rows.ensures.step)
    (λ all. all.items) c.decode_rows.result c.decode_rows.ensures.value (λ t. filter (λ (r : AccountRow). r.customer == c.args.customer) t.accounts) (tells_accounts old new c.args.customer _)
