use Rattle.std.proofs.Common.{◌≡◌, Ok, take}
use Rattle.sqlite.specs.Held.{state}
use Rattle.brk_money.specs.declared.fault.StoreFailed.{StoreFailed}
use Rattle.brk_tables_sql.specs.Model.{IsTransactionStep}
use Rattle.brk_tables_sql.specs.Desk.{ChangesTablesBy}
use Rattle.brk_tables_schema.specs.Desk.{desk_tables}
use Rattle.brk_trade_rows.specs.Changes.{tables_after_changes}
use Rattle.brk_store_transactions.proofs.changing.apply_each_change.Given as goal

abbrev pub invariant-loop-change : goal.invariant-loop-change
invariant-loop-change g l = record {
  same : l.tx.conn.ghost_name ≡ l.fn.tx.conn.ghost_name;
  step : IsTransactionStep {V = Unit {0}} {E = StoreFailed} (state g.S.Store l.fn.tx.conn.now) (state g.S.Store l.tx.conn.now) (Ok tt)
      (λ _ a b. ChangesTablesBy desk_tables (tables_after_changes (take l.change-index l.changes)) a.now b.now);
}
