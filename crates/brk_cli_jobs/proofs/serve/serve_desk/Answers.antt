use Rattle.brk_cli_jobs.proofs.Peers.{without_peers}
use Rattle.brk_cli_jobs.proofs.serve.serve_desk.Goals as goal

pub returns : goal.returns
returns g c = record {
  listened = c.serve_listener.result;
  ended = c.result_of_serving.ensures;
  served = c.serve_listener.ensures.served;
  taken = without_peers g.L.Listener.accepts g.S.Store g.C.Clock.gives g.P.Peer.sends g.P.Peer.received _
      (record { listener = c.args.listener.now; clock = c.args.clock.now; desk = c.args.desk.now })
      (record { listener = c.serve_listener.new.listener; clock = c.serve_listener.new.clock; desk = c.serve_listener.new.desk })
      c.serve_listener.result c.serve_listener.ensures.taken;
}
