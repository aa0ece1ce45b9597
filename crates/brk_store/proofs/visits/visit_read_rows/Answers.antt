use Rattle.std.proofs.Common.{◌∙◌, refl, subst}
use Rattle.std.specs.List.{FoldsTo}
use Rattle.std.proofs.lemmas.List.{take_all}
use Rattle.brk_store.specs.Visits.{StopsWithinRows}
use Rattle.brk_store.proofs.Visiting.{stopped_within, took_one}
use Rattle.brk_store.proofs.visits.visit_read_rows.Goals as goal

pub loop-row-init : goal.loop-row-init
loop-row-init g c = (c.requires.ready, g.met.V.Visitor.reflexive c.args.visitor.now, refl)

pub loop-row-preserved : goal.loop-row-preserved
loop-row-preserved g c = (
  c.in-Ok-visit.ensures.ready,
  g.met.V.Visitor.transitive _ _ _ c.loop-row.invariant.1 c.in-Ok-visit.ensures.leads,
  took_one g.V.Visitor.takes c.args.visitor.now c.loop-row.visitor c.visit.new.self c.deref-row-items.result.now c.loop-row.row-index c.row-item.result c.loop-row-test.true c.row-item.is
      c.loop-row.invariant.2 c.in-Ok-visit.ensures.takes,
)

pub returns-in-Err-clause-leads : goal.returns-in-Err-clause-leads
returns-in-Err-clause-leads g c = g.met.V.Visitor.reflexive _

pub returns-in-Err-visit-clause-leads : goal.returns-in-Err-visit-clause-leads
returns-in-Err-visit-clause-leads g c = g.met.V.Visitor.transitive _ _ _ c.loop-row.invariant.1 c.in-Err-visit.ensures.leads

pub returns-clause-visited : goal.returns-clause-visited
returns-clause-visited g c =
    rw c.in-Ok.is
    (subst (λ l. FoldsTo g.V.Visitor.takes c.args.visitor.now l c.loop-row.visitor)
    (take_all c.loop-row.row-index c.deref-row-items.result.now c.loop-row-test.false ∙ c.deref-row-items.ensures.value) c.loop-row.invariant.2)

pub returns-in-Err-clause-visited : goal.returns-in-Err-clause-visited
returns-in-Err-clause-visited g c = rw c.in-Err.is (refl, refl)

pub returns-in-Err-visit-clause-visited : goal.returns-in-Err-visit-clause-visited
returns-in-Err-visit-clause-visited g c =
    rw c.in-Ok.is
    (subst (λ l. StopsWithinRows g.V.Visitor.takes g.V.Visitor.stops l c.args.visitor.now c.in-Err-visit.cause c.visit.new.self) c.deref-row-items.ensures.value
    (stopped_within g.V.Visitor.takes g.V.Visitor.stops c.args.visitor.now c.loop-row.visitor c.visit.new.self c.deref-row-items.result.now c.loop-row.row-index c.row-item.result c.in-Err-visit.cause
    c.loop-row-test.true c.row-item.is c.loop-row.invariant.2 c.in-Err-visit.ensures.stops))
