use Rattle.brk_http_stamps.proofs.Runs.{desk_run}
use Rattle.brk_cli_jobs.proofs.Peers.{without_peers}
use Rattle.brk_cli_jobs.proofs.serve.serve_stamped.Goals as goal

pub returns : goal.returns
returns g c = record {
  served = record {
    listened = c.serve_stamped_listener.result;
    ended = c.result_of_serving.ensures;
    served = desk_run g.S.Store c.args.desk.now c.serve_stamped_listener.new.desk c.serve_stamped_listener.ensures.served;
    taken = without_peers g.L.Listener.accepts g.S.Store g.C.Clock.gives g.P.Peer.sends g.P.Peer.received _
        (record { listener = c.args.listener.now; clock = c.args.clock.now; desk = c.args.desk.now.desk })
        (record { listener = c.serve_stamped_listener.new.listener; clock = c.serve_stamped_listener.new.clock; desk = c.serve_stamped_listener.new.desk.desk })
        c.serve_stamped_listener.result c.serve_stamped_listener.ensures.taken;
  };
  stamped = c.serve_stamped_listener.ensures.served;
}
