use Rattle.std.proofs.Common.{◌≡◌, ◌∙◌, List, Ok, ap, map, subst}
use Rattle.std.specs.Global.{Vec}
use Rattle.sqlite.specs.Held.{state}
use Rattle.sqlite.specs.State.{State}
use Rattle.brk_model.specs.Lists.{sort_by_key}
use Rattle.brk_model.specs.Tables.{OldCashRow as Cash}
use Rattle.brk_ref.specs.Rows.{abstract_old_cash_row}
use Rattle.brk_ref.specs.declared.old_cash_row.OldCashRow.{OldCashRow}
use Rattle.brk_tables_sql.specs.Desk.{ChangesTablesBy}
use Rattle.brk_tables_sql.specs.Model.{IsUnchangedAndSatisfies}
use Rattle.brk_tables_sql.proofs.Inside.{step_read, step_then}
use Rattle.brk_tables_schema.specs.Desk.{desk_tables}
use Rattle.brk_tables_cash.specs.UpgradeStatements.{tables_without_cash_transactions}
use Rattle.brk_tables_cash.specs.Upgrade.{cash_transactions_by_stamp, tables_with_cash_rows_numbered_from, tables_with_cash_transactions_moved}
use Rattle.brk_tables_cash.proofs.Sorting.{rows_in_order}
use Rattle.brk_tables_cash.proofs.Turning.{all_added, all_moved}
use Rattle.brk_tables_scan.proofs.Failing.{both, fails}
use Rattle.brk_tables.proofs.upgrade.move_cash_transactions.Goals as goal

pub returns-clause-step : goal.returns-clause-step
returns-clause-step g c =
    let a = state g.S.Store c.args.tx.now.conn.now in
    let b = state g.S.Store c.all_cash_transactions.new.tx.conn.now in
    let d = state g.S.Store c.add_numbered_cash_rows.new.tx.conn.now in
    let e = state g.S.Store c.remove_cash_transactions.new.tx.conn.now in
    let found = c.in_ok-found.found in
    let rows = c.in_ok-rows.rows in
    let ordered : map abstract_old_cash_row rows.items ≡ sort_by_key (λ (r : Cash). r.stamp) (map abstract_old_cash_row found.items) =
    ap (map abstract_old_cash_row) c.in_ok-rows.ensures.order ∙ rows_in_order found.items in
    let step = step_then a b d found (Ok tt) (λ (all : Vec OldCashRow). IsUnchangedAndSatisfies desk_tables (λ t. map abstract_old_cash_row all.items ≡ t.cash))
    (λ _ x y. ChangesTablesBy desk_tables (tables_with_cash_rows_numbered_from 1 (map abstract_old_cash_row rows.items)) x.now y.now)
    (λ _ x y. ChangesTablesBy desk_tables (λ t. tables_with_cash_rows_numbered_from 1 (cash_transactions_by_stamp t) t) x.now y.now)
    (λ _ p q. all_added (map abstract_old_cash_row rows.items) a.now b.now d.now p.1 (λ t tree h. ordered ∙ ap (sort_by_key (λ (r : Cash). r.stamp)) (p.2 t tree h)) q) c.in_ok-found.ensures.step
    (subst (λ (l : List OldCashRow). Rattle.brk_tables_sql.specs.Model.IsTransactionStep b d (Ok tt)
    (λ _ x y. ChangesTablesBy desk_tables (tables_with_cash_rows_numbered_from 1 (map abstract_old_cash_row l)) x.now y.now)) c.deref.ensures.value
    c.in_ok-add_numbered_cash_rows.ensures.step) in
    let moved : Unit {0} → State → State → Type 0 = λ _ x y. ChangesTablesBy desk_tables tables_with_cash_transactions_moved x.now y.now in
    step_read a e tt (Ok tt) moved _ (λ _ _ made. made) (step_then a d e tt (Ok tt)
    (λ _ x y. ChangesTablesBy desk_tables (λ t. tables_with_cash_rows_numbered_from 1 (cash_transactions_by_stamp t) t) x.now y.now)
    (λ _ x y. ChangesTablesBy desk_tables tables_without_cash_transactions x.now y.now) moved
    (λ _ p q. all_moved a.now d.now e.now p q) step c.in_ok-remove_cash_transactions.ensures.step)

pub returns-in_err-remove_cash_transactions-clause-step : goal.returns-in_err-remove_cash_transactions-clause-step
returns-in_err-remove_cash_transactions-clause-step g c =
    fails c.from_residual-in_err-remove_cash_transactions.result _ c.from_residual-in_err-remove_cash_transactions.ensures.0
    (both (both c.all_cash_transactions.ensures.step c.add_numbered_cash_rows.ensures.step) c.remove_cash_transactions.ensures.step)
