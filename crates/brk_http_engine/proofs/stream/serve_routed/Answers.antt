use Rattle.std.proofs.Common.{ap, arith, Ok, None, refl}
use Rattle.brk_http_engine.specs.Promises.{CallWithClock}
use Rattle.brk_http_engine.proofs.Called.{at_most, called_then, not_called}
use Rattle.brk_http_engine.proofs.StreamLemmas.{at_first, closed_here, ended_here, failed_here, open_here}
use Rattle.brk_http_engine.proofs.stream.serve_routed.Goals as goal

pub serving-init : goal.serving-init
serving-init g c = record {
  few = omega arith;
  called = not_called (CallWithClock g.D.Service.acts g.C.Clock.gives) _ _ _ refl;
  so_far = at_first g.D.Service.forms g.D.Service.acts g.C.Clock.gives _ _ _ _ _ c.new-buffer.ensures.items;
}

pub returns-in-Ok-Ended-clause-called : goal.returns-in-Ok-Ended-clause-called
returns-in-Ok-Ended-clause-called g c =
    let t = rw c.in-Ok-Ended.field-0-is at c.in-Ok-Ended.ensures.called in
    at_most (CallWithClock g.D.Service.acts g.C.Clock.gives) _ _ _ _ (omega arith) (called_then (CallWithClock g.D.Service.acts g.C.Clock.gives) _ _ _ _ _ c.serving.invariant.called t)

pub returns-in-Ok-Ended-clause-gives : goal.returns-in-Ok-Ended-clause-gives
returns-in-Ok-Ended-clause-gives g c =
    let t = rw c.in-Ok-Ended.field-0-is at c.in-Ok-Ended.ensures.ok in
    ended_here g.D.Service.forms g.D.Service.acts g.C.Clock.gives _ _ _ _ _ _ _ _ None c.serving.invariant.so_far t

pub returns-in-Ok-Closed-clause-called : goal.returns-in-Ok-Closed-clause-called
returns-in-Ok-Closed-clause-called g c = let t = rw c.in-Ok-Closed.field-0-is at c.in-Ok-Closed.ensures.called in called_then (CallWithClock g.D.Service.acts g.C.Clock.gives) _ _ _ _ _ c.serving.invariant.called t

pub returns-in-Ok-Closed-clause-gives : goal.returns-in-Ok-Closed-clause-gives
returns-in-Ok-Closed-clause-gives g c =
    let t = rw c.in-Ok-Closed.field-0-is at c.in-Ok-Closed.ensures.ok in
    closed_here g.D.Service.forms g.D.Service.acts g.C.Clock.gives _ _ _ _ _ _ _ _ None c.serving.invariant.so_far t

pub serving-preserved : goal.serving-preserved
serving-preserved g c =
    let t = rw c.in-Ok-Open.field-0-is at c.in-Ok-Open.ensures.ok in
    let made = rw c.in-Ok-Open.field-0-is at c.in-Ok-Open.ensures.called in
    record {
      few = c.in-Ok-Open.ensures.open (ap (λ x. Ok x) c.in-Ok-Open.field-0-is);
      called = called_then (CallWithClock g.D.Service.acts g.C.Clock.gives) _ _ _ _ _ c.serving.invariant.called made;
      so_far = open_here g.D.Service.forms g.D.Service.acts g.C.Clock.gives _ _ _ _ _ _ _ _ _ _ c.serving.invariant.so_far t;
    }

pub returns-in-Err-clause-called : goal.returns-in-Err-clause-called
returns-in-Err-clause-called g c = called_then (CallWithClock g.D.Service.acts g.C.Clock.gives) _ _ _ _ _ c.serving.invariant.called c.in-Err.ensures.called

pub returns-in-Err-clause-gives : goal.returns-in-Err-clause-gives
returns-in-Err-clause-gives g c = failed_here g.D.Service.forms g.D.Service.acts g.C.Clock.gives _ _ _ _ _ _ _ _ _ c.serving.invariant.so_far c.in-Err.ensures.err
