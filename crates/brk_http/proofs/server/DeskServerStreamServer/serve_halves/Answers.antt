use Rattle.brk_http.proofs.Serving.{matches_if_known}
use Rattle.brk_http.proofs.server.DeskServerStreamServer.serve_halves.Goals as goal

pub returns : goal.returns
returns g c =
    let t = c.serve_stream.ensures.reads_clock in
    record {
      by_calls = record {
        calls = t.0;
        outcomes = t.1;
        run = t.2;
        few = t.3;
        reads_clock = t.4;
        within = c.serve_stream.ensures.few;
        early = c.serve_stream.ensures.early;
      };
      matched = matches_if_known g.S.Store g.C.Clock.gives _ _ _ _ _ _ c.serve_stream.ensures.changed_only_by_calls;
      refines_model = c.serve_stream.ensures.refines_model;
    }
