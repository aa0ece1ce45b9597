use Rattle.std.proofs.Common.{take}
use Rattle.std.specs.List.{AllByRecursion}
use Rattle.brk_ref_orders.specs.Records.{abstract_ticks}
use Rattle.brk_audit_theorems.specs.InForm.{TickMeetsAuditFormats}
use Rattle.brk_desk.proofs.formats.prove_ticks.Given as goal

abbrev pub invariant-loop-tick : goal.invariant-loop-tick
invariant-loop-tick l = AllByRecursion TickMeetsAuditFormats (abstract_ticks (take l.tick-index l.ticks))
