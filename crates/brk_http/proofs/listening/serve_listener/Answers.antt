use Rattle.brk_desk.proofs.Made.{not_run, run_then}
use Rattle.brk_desk.specs.Runs.{IsSomeDeskRun}
use Rattle.brk_http.proofs.Serving.{runs_for_peer}
use Rattle.brk_http.specs.Served.{DeskServesPeer}
use Rattle.brk_http_engine.proofs.Taking.{listens_by}
use Rattle.brk_http.proofs.listening.serve_listener.Goals as goal

pub returns-clause-served : goal.returns-clause-served
returns-clause-served g c =
    listens_by g.L.Listener.accepts (DeskServesPeer g.S.Store g.C.Clock.gives g.P.Peer.sends g.P.Peer.received) (λ old new. IsSomeDeskRun g.S.Store old new)
    (not_run g.S.Store) (run_then g.S.Store) (runs_for_peer g.S.Store g.C.Clock.gives g.P.Peer.sends g.P.Peer.received) _ _ _ _ c.serve_each_stream.ensures
