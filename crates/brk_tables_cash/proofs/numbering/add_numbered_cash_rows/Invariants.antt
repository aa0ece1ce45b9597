use Rattle.std.proofs.Common.{◌≡◌, ◌+◌, Ok, map, take}
use Rattle.sqlite.specs.Held.{state}
use Rattle.brk_money.specs.declared.fault.CallFault.{CallFault}
use Rattle.brk_ref.specs.Rows.{abstract_old_cash_row}
use Rattle.brk_tables_sql.specs.Desk.{ChangesTablesBy}
use Rattle.brk_tables_sql.specs.Model.{IsTransactionStep}
use Rattle.brk_tables_schema.specs.Desk.{desk_tables}
use Rattle.brk_tables_cash.specs.Upgrade.{tables_with_cash_rows_numbered_from}
use Rattle.brk_tables_cash.proofs.numbering.add_numbered_cash_rows.Given as goal

abbrev pub invariant-loop-row : goal.invariant-loop-row
invariant-loop-row g l = record {
  same : l.tx.conn.ghost_name ≡ l.fn.tx.conn.ghost_name;
  next : l.number ≡ 1 + l.row-index;
  step : IsTransactionStep {V = Unit {0}} {E = CallFault} (state g.S.Store l.fn.tx.conn.now) (state g.S.Store l.tx.conn.now) (Ok tt)
      (λ _ a b. ChangesTablesBy desk_tables (tables_with_cash_rows_numbered_from 1 (take l.row-index (map abstract_old_cash_row l.rows))) a.now b.now);
}
