use Rattle.std.proofs.Common.{refl}
use Rattle.brk_http_engine.specs.Promises.{CallWithClock}
use Rattle.brk_http_engine.proofs.Called.{not_called}
use Rattle.brk_http_engine.proofs.StreamLemmas.{unstarted}
use Rattle.brk_http_engine.proofs.stream.serve_requests.Goals as goal

pub returns-in-Err-clause-called : goal.returns-in-Err-clause-called
returns-in-Err-clause-called g c = not_called (CallWithClock g.D.Service.acts g.C.Clock.gives) _ _ _ refl

pub returns-in-Err-clause-gives : goal.returns-in-Err-clause-gives
returns-in-Err-clause-gives g c =
    unstarted g.D.Service.forms g.D.Service.acts g.C.Clock.gives (g.R.Read.remaining c.args.reader) c.args.desk.now c.args.clock.now (g.W.Write.contents c.args.writer.now)
