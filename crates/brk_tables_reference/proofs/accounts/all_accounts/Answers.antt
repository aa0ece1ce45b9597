use Rattle.std.proofs.Common.{[]}
use Rattle.sqlite.specs.Held.{state}
use Rattle.brk_model.specs.Tables.{Tables}
use Rattle.brk_tables_sql.proofs.Answer.{look_all}
use Rattle.brk_tables_schema.specs.Cells.{account_cells}
use Rattle.brk_tables_schema.specs.Desk.{desk_tables}
use Rattle.brk_ref.specs.Records.{abstract_account_row}
use Rattle.brk_tables_schema.proofs.Back.{account_back, account_is_back}
use Rattle.brk_tables_reference.proofs.AccountsById
use Rattle.brk_tables_reference.proofs.AccountsById.{plain}
use Rattle.brk_tables_reference.proofs.Steps.{tells_all_accounts}
use Rattle.brk_tables_reference.proofs.accounts.all_accounts.Goals as goal

pub select_rows-requires : goal.select_rows-requires
select_rows-requires g c = record { no_returning_clause = plain }

pub returns-clause-step : goal.returns-clause-step
returns-clause-step g c =
    let old = state g.S.Store c.args.tx.now.conn.now in
    let new = state g.S.Store c.select_rows.new.tx.conn.now in
    look_all desk_tables account_cells account_back account_is_back abstract_account_row AccountsById.statement [] old new c.in_ok-accounts.accounts
    (λ rows. rows.items) _ c.deref.ensures.value c.in_ok-accounts.ensures.step
    (λ all. all.items) c.decode_rows.result c.decode_rows.ensures.value (λ (t : Tables). t.accounts) (tells_all_accounts old new _)
