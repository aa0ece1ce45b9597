use Rattle.std.proofs.Common.{◌≡◌, true, take, Ok}
use Rattle.std.specs.List.{list_all}
use Rattle.sqlite.specs.Held.{state}
use Rattle.brk_money.specs.declared.fault.StoreFailed.{StoreFailed}
use Rattle.brk_tables_sql.specs.Model.{IsTransactionStep}
use Rattle.brk_tables_scan.specs.Present.{has_table_named}
use Rattle.brk_tables_schema.specs.Texts.{abstract_table}
use Rattle.brk_tables_scan.proofs.presence.has_each_of_tables.Given as goal

abbrev pub invariant-loop-table : goal.invariant-loop-table
invariant-loop-table g l = record {
  same : l.tx.conn.ghost_name ≡ l.fn.tx.conn.ghost_name;
  step : IsTransactionStep {V = Unit {0}} {E = StoreFailed} (state g.S.Store l.fn.tx.conn.now) (state g.S.Store l.tx.conn.now) (Ok tt)
      (λ _ a b. (b.now ≡ a.now) × (list_all (λ table. has_table_named a.now.schema (abstract_table table)) (take l.table-index l.tables) ≡ true));
}
