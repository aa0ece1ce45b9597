use Rattle.std.proofs.Common.{◌≡◌, take, Ok}
use Rattle.sqlite.specs.Held.{state}
use Rattle.brk_money.specs.declared.fault.StoreFailed.{StoreFailed}
use Rattle.brk_tables_sql.specs.Model.{IsTransactionStep}
use Rattle.brk_tables.proofs.Running.{each}
use Rattle.brk_tables.proofs.making.create_each_table.Given as goal

abbrev pub invariant-loop-table : goal.invariant-loop-table
invariant-loop-table g l = record {
  same : l.tx.conn.ghost_name ≡ l.fn.tx.conn.ghost_name;
  step : IsTransactionStep {V = Unit {0}} {E = StoreFailed} (state g.S.Store l.fn.tx.conn.now) (state g.S.Store l.tx.conn.now) (Ok tt) (λ _ a b. each (take l.table-index l.tables) a.now b.now);
}
