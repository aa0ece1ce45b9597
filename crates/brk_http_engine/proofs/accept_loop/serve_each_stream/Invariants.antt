use Rattle.std.proofs.Common.{◌≤◌, ◌-◌}
use Rattle.std.specs.Prelude.{Ok}
use Rattle.brk_http_engine.specs.Peers.{ServesPeer}
use Rattle.brk_http_engine.specs.Listening.{ServeEachStreamPost}
use Rattle.brk_http_engine.proofs.accept_loop.serve_each_stream.Given as goal

abbrev pub invariant-streams : goal.invariant-streams
invariant-streams g l = record {
  within : l.taken ≤ l.streams;
  so_far : ServeEachStreamPost g.L.Listener.accepts (ServesPeer g.H.StreamServer.serves g.P.Peer.sends g.P.Peer.received) l.taken (record { listener = l.fn.listener; clock = l.fn.clock; desk = l.fn.desk }) (Ok tt)
      (record { listener = l.listener; clock = l.clock; desk = l.desk });
}

abbrev pub decreases-streams : goal.decreases-streams
decreases-streams g l = l.streams - l.taken
