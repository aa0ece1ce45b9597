use Rattle.std.proofs.Common.{◌≡◌, Option, Some, Ok, option_map, subst, rules}
use Rattle.std.specs.Prelude.{string_bytes}
use Rattle.sqlite.specs.Held.{state}
use Rattle.sqlite.specs.State.{State}
use Rattle.brk_money.specs.declared.fault.StoreFailed.{StoreFailed}
use Rattle.brk_model.specs.Joins.{trade_row_with_id}
use Rattle.brk_trade_rows.specs.Changes.{tables_with_cash_row}
use Rattle.brk_ref.specs.Rows.{abstract_old_cash_row}
use Rattle.brk_tables_sql.specs.Desk.{ChangesTablesBy}
use Rattle.brk_tables_sql.specs.Model.{IsTransactionStep, IsUnchangedAndSatisfies}
use Rattle.brk_tables_sql.proofs.Inside.{step_read, step_then}
use Rattle.brk_tables_schema.specs.Desk.{desk_tables}
use Rattle.brk_tables_cash.specs.Upgrade.{tables_with_numbered_cash_row}
use Rattle.brk_tables_cash.proofs.Turning.{adds_numbered, numbered_row}
use Rattle.brk_tables_cash.proofs.numbering.add_numbered_cash_row.Goals as goal

pub returns-clause-step : goal.returns-clause-step
returns-clause-step g c =
    let row = abstract_old_cash_row c.args.row.now in
    let id = c.args.id in
    let account = c.in-Some.account in
    let a = state g.S.Store c.args.tx.now.conn.now in
    let b = state g.S.Store c.account_id_of_trade.new.tx.conn.now in
    let d = state g.S.Store c.add_cash_row.new.tx.conn.now in
    let named : string_bytes c.in_ok-clone.field-0 ≡ string_bytes c.args.row.now.name = search rules in
    let made : Unit {0} → State → State → Type 0 = λ _ x y. ChangesTablesBy desk_tables (tables_with_numbered_cash_row id row) x.now y.now in
    step_read a d tt (Ok tt) made _ (λ _ _ made. made) (step_then a b d (Some account) (Ok tt)
    (λ o. IsUnchangedAndSatisfies desk_tables (λ t. o ≡ option_map (λ r. r.account) (trade_row_with_id t row.trade)))
    (λ _ x y. ChangesTablesBy desk_tables (tables_with_cash_row (numbered_row id account row)) x.now y.now)
    made
    (λ _ p q. adds_numbered id account row a.now b.now d.now p.1 p.2 q)
    (subst (λ o. IsTransactionStep {V = Option _} {E = StoreFailed} a b (Ok o)
    (λ o. IsUnchangedAndSatisfies desk_tables (λ t. o ≡ option_map (λ r. r.account) (trade_row_with_id t row.trade)))) c.in-Some.is
    c.in_ok-account.ensures.step)
    (rw named at c.in_ok-add_cash_row.ensures.step))
