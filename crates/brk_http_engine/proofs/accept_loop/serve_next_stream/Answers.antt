use Rattle.std.proofs.Common.{refl}
use Rattle.brk_http_engine.specs.Peers.{ServesPeer}
use Rattle.brk_http_engine.proofs.Taking.{one_broken, one_failed, one_refused, one_served, read_goes_on, write_goes_on}
use Rattle.brk_http_engine.proofs.accept_loop.serve_next_stream.Goals as goal

pub returns-in-Err-Aborted : goal.returns-in-Err-Aborted
returns-in-Err-Aborted g c =
    let broken = rw c.in-Err-Aborted.field-0-is at c.in-Err-Aborted.ensures in
    one_broken g.L.Listener.accepts (ServesPeer g.H.StreamServer.serves g.P.Peer.sends g.P.Peer.received) _ _ (record { accepted = broken; clock = refl; desk = refl })

pub returns-in-Err-Failed : goal.returns-in-Err-Failed
returns-in-Err-Failed g c =
    let refused = rw c.in-Err-Failed.field-0-is at c.in-Err-Failed.ensures in
    one_refused g.L.Listener.accepts (ServesPeer g.H.StreamServer.serves g.P.Peer.sends g.P.Peer.received) _ _ (record { accepted = refused; clock = refl; desk = refl })

pub returns-in_default : goal.returns-in_default
returns-in_default g c = one_served g.L.Listener.accepts (ServesPeer g.H.StreamServer.serves g.P.Peer.sends g.P.Peer.received) _ _ c.in-Ok.peer _ _ c.in-Ok.ensures c.in_default.ensures tt

pub returns-in-Memory : goal.returns-in-Memory
returns-in-Memory g c =
    one_failed g.L.Listener.accepts (ServesPeer g.H.StreamServer.serves g.P.Peer.sends g.P.Peer.received) _ _ c.in-Ok.peer _ c.in-Err.fault c.in-Ok.ensures c.in-Err.ensures c.in-Memory.is

pub returns-in-Read : goal.returns-in-Read
returns-in-Read g c =
    one_served g.L.Listener.accepts (ServesPeer g.H.StreamServer.serves g.P.Peer.sends g.P.Peer.received) _ _ c.in-Ok.peer _ _ c.in-Ok.ensures c.in-Err.ensures (read_goes_on _ c.in-Read.is)

pub returns : goal.returns
returns g c =
    one_served g.L.Listener.accepts (ServesPeer g.H.StreamServer.serves g.P.Peer.sends g.P.Peer.received) _ _ c.in-Ok.peer _ _ c.in-Ok.ensures c.in-Err.ensures (write_goes_on _ c.in-Write.is)
