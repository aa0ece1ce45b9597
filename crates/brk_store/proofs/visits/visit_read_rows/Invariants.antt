use Rattle.std.proofs.Common.{take}
use Rattle.std.specs.List.{FoldsTo}
use Rattle.brk_store.proofs.visits.visit_read_rows.Given as goal

abbrev pub invariant-loop-row : goal.invariant-loop-row
invariant-loop-row g l =
    g.V.Visitor.ready l.visitor × g.V.Visitor.leads l.fn.visitor l.visitor × FoldsTo g.V.Visitor.takes l.fn.visitor (take l.row-index l.row-items) l.visitor
