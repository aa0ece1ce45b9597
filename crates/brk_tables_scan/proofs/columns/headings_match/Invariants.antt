use Rattle.std.proofs.Common.{◌≡◌, true, map, take, Ok}
use Rattle.sqlite.specs.Held.{state}
use Rattle.brk_money.specs.declared.fault.StoreFailed.{StoreFailed}
use Rattle.brk_tables_sql.specs.Model.{IsTransactionStep}
use Rattle.brk_tables_scan.specs.Headings.{IsHeadingCheckOutcome, heading_of_borrowed_texts}
use Rattle.brk_tables_scan.proofs.columns.headings_match.Given as goal

abbrev pub invariant-loop-text : goal.invariant-loop-text
invariant-loop-text g l = record {
  same : l.tx.conn.ghost_name ≡ l.fn.tx.conn.ghost_name;
  step : IsTransactionStep {V = Unit {0}} {E = StoreFailed} (state g.S.Store l.fn.tx.conn.now) (state g.S.Store l.tx.conn.now) (Ok tt)
      (λ _ a b. (b.now ≡ a.now) × IsHeadingCheckOutcome (map heading_of_borrowed_texts (take l.text-index l.headings)) true a.now.schema);
}
