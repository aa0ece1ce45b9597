use Rattle.std.proofs.Common.{◌≡◌, ◌<◌, IsTrue, Ok, false, take}
use Rattle.sqlite.specs.Held.{state}
use Rattle.sqlite.specs.State.{HasCleanDisk}
use Rattle.brk_money.specs.declared.fault.CallFault.{CallFault}
use Rattle.brk_store_reads.specs.RowsByAge.{AreRowsOfAges}
use Rattle.brk_store_reads.specs.ReadSequences.{ReadSequencePost}
use Rattle.brk_store_reads.proofs.by_age.read_row_of_each_age.Given as goal

abbrev pub invariant-loop-age : goal.invariant-loop-age
invariant-loop-age g l = record {
  reads : ReadSequencePost {V = Unit {0}} {E = CallFault} g.S.Store l.fn.conn l.conn (Ok tt)
      (λ _ t. AreRowsOfAges (λ age row. g.K.RowsByAge.found l.kind age row t) (take l.age-index l.ages) l.found.items);
  opened : 0 < l.age-index → HasCleanDisk (state g.S.Store l.conn) → IsTrue (state g.S.Store l.fn.conn).is_open;
  mode : l.conn.in_transaction ≡ false;
}
