use Rattle.std.proofs.Common.{ap, Err, None, refl}
use Rattle.std.proofs.KnownBytes.{Appends-nil}
use Rattle.brk_http_engine.specs.Promises.{CallWithClock}
use Rattle.brk_http_engine.proofs.Called.{not_called}
use Rattle.brk_http_engine.proofs.TurnLemmas.{request_closed, request_failed, request_open, request_unwritten}
use Rattle.brk_http_engine.proofs.exchanges.serve_request.Goals as goal

pub returns-in-Err-After-clause-err : goal.returns-in-Err-After-clause-err
returns-in-Err-After-clause-err g c =
    let found = rw c.in-Whole.is at c.in-Ok.ensures.found in
    let acted = rw c.deref.ensures.value at (c.in-Err-After.ensures.after (g.W.Write.contents c.args.writer.now) (g.W.Write.contents c.args.writer.now) (ap (λ x. Err x) c.in-Err-After.field-0-is)) in
    request_unwritten g.D.Service.forms g.D.Service.acts g.C.Clock.gives c.args.done _ _ _ c.in-Whole.places _ _ acted.0 acted.1 found acted.2 (Appends-nil _)

pub returns-in-Err-write_all_bytes-clause-err : goal.returns-in-Err-write_all_bytes-clause-err
returns-in-Err-write_all_bytes-clause-err g c =
    let found = rw c.in-Whole.is at c.in-Ok.ensures.found in
    let acted = rw c.deref.ensures.value at (c.in-Ok-execute_request.ensures.ok (g.W.Write.contents c.args.writer.now) (g.W.Write.contents c.write_all_bytes-in-Whole.new.writer)) in
    let wrote = rw c.as_bytes-in-Whole.ensures.value at c.in-Err-write_all_bytes.ensures.err in
    request_failed g.D.Service.forms g.D.Service.acts g.C.Clock.gives c.args.done _ _ _ c.in-Whole.places _ _ _ _ found acted wrote

pub returns-then-draft-clause-ok : goal.returns-then-draft-clause-ok
returns-then-draft-clause-ok g c =
    let found = rw c.in-Whole.is at c.in-Ok.ensures.found in
    let acted = rw c.deref.ensures.value at (c.in-Ok-execute_request.ensures.ok (g.W.Write.contents c.args.writer.now) (g.W.Write.contents c.write_all_bytes-in-Whole.new.writer)) in
    let wrote = rw c.as_bytes-in-Whole.ensures.value at c.in-Ok-write_all_bytes-2.ensures.ok in
    request_closed g.D.Service.forms g.D.Service.acts g.C.Clock.gives c.args.done _ _ _ c.in-Whole.places _ _ _ _ found acted c.if-draft.true wrote None

pub returns-clause-ok : goal.returns-clause-ok
returns-clause-ok g c =
    let found = rw c.in-Whole.is at c.in-Ok.ensures.found in
    let acted = rw c.deref.ensures.value at (c.in-Ok-execute_request.ensures.ok (g.W.Write.contents c.args.writer.now) (g.W.Write.contents c.write_all_bytes-in-Whole.new.writer)) in
    let wrote = rw c.as_bytes-in-Whole.ensures.value at c.in-Ok-write_all_bytes-2.ensures.ok in
    request_open g.D.Service.forms g.D.Service.acts g.C.Clock.gives c.args.done _ _ _ c.in-Whole.places _ _ _ _ found acted c.if-draft.false wrote _ c.remove_front.ensures

pub returns-in-Err-Read-clause-called : goal.returns-in-Err-Read-clause-called
returns-in-Err-Read-clause-called g c = not_called (CallWithClock g.D.Service.acts g.C.Clock.gives) _ _ _ refl

pub returns-in-Err-Memory-clause-called : goal.returns-in-Err-Memory-clause-called
returns-in-Err-Memory-clause-called g c = not_called (CallWithClock g.D.Service.acts g.C.Clock.gives) _ _ _ refl

pub returns-in-Ended-clause-called : goal.returns-in-Ended-clause-called
returns-in-Ended-clause-called g c = not_called (CallWithClock g.D.Service.acts g.C.Clock.gives) _ _ _ refl

pub returns-in_default-clause-called : goal.returns-in_default-clause-called
returns-in_default-clause-called g c = not_called (CallWithClock g.D.Service.acts g.C.Clock.gives) _ _ _ refl

pub returns-in-Ok-write_all_bytes-clause-called : goal.returns-in-Ok-write_all_bytes-clause-called
returns-in-Ok-write_all_bytes-clause-called g c = not_called (CallWithClock g.D.Service.acts g.C.Clock.gives) _ _ _ refl

pub returns-in-Broken-clause-called : goal.returns-in-Broken-clause-called
returns-in-Broken-clause-called g c = not_called (CallWithClock g.D.Service.acts g.C.Clock.gives) _ _ _ refl
