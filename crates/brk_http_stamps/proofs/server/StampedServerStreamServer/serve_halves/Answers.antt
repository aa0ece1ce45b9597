use Rattle.brk_http_stamps.proofs.Serving.{serves_stream}
use Rattle.brk_http_stamps.proofs.server.StampedServerStreamServer.serve_halves.Goals as goal

pub returns : goal.returns
returns g c =
    serves_stream g.S.Store g.C.Clock.gives _ c.args.clock.now c.args.desk.now c.serve_requests.result c.serve_requests.new.clock c.serve_requests.new.desk
    c.serve_requests.ensures.few c.serve_requests.ensures.early c.serve_requests.ensures.called c.serve_requests.ensures.gives
