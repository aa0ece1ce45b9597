use Rattle.std.proofs.Common.{arith}
use Rattle.std.proofs.lemmas.Result.{err_from_is_err_and}
use Rattle.brk_http_engine.specs.Peers.{ServesPeer}
use Rattle.brk_http_engine.proofs.Taking.{ended_early, none_yet, one_more}
use Rattle.brk_http_engine.proofs.accept_loop.serve_each_stream.Goals as goal

pub streams-init : goal.streams-init
streams-init g c = record { within = omega arith; so_far = none_yet g.L.Listener.accepts (ServesPeer g.H.StreamServer.serves g.P.Peer.sends g.P.Peer.received) _ }

pub streams-preserved : goal.streams-preserved
streams-preserved g c = record {
  within = omega arith;
  so_far = one_more g.L.Listener.accepts (ServesPeer g.H.StreamServer.serves g.P.Peer.sends g.P.Peer.received) _ _ _ _ c.streams.invariant.so_far c.in_ok-serve_next_stream.ensures;
}

pub returns-in_err-serve_next_stream : goal.returns-in_err-serve_next_stream
returns-in_err-serve_next_stream g c =
    let fault = err_from_is_err_and c.from_residual.result c.from_residual.ensures.1 in
    rw (fault.1, fault.2)
    (ended_early g.L.Listener.accepts (ServesPeer g.H.StreamServer.serves g.P.Peer.sends g.P.Peer.received) _ _ _ _ _ c.in_err-serve_next_stream.field-0.0 c.streams-test.true
    c.streams.invariant.so_far c.in_err-serve_next_stream.ensures)
