use Rattle.std.proofs.Common.{◌<◌, ◌-◌}
use Rattle.brk_model_http.specs.Stream.{most_requests_per_stream}
use Rattle.brk_http_engine.proofs.StreamLemmas.{HasFirstRepliesIfKnown}
use Rattle.brk_http_engine.specs.Promises.{CallWithClock, ChangesOnlyByCalls}
use Rattle.brk_http_engine.proofs.stream.serve_routed.Given as goal

abbrev pub invariant-serving : goal.invariant-serving
invariant-serving g l = record {
  few : l.done < most_requests_per_stream;
  called : ChangesOnlyByCalls (CallWithClock g.D.Service.acts g.C.Clock.gives) l.done (l.fn.desk, l.fn.clock) (l.desk, l.clock);
  so_far : HasFirstRepliesIfKnown g.D.Service.forms g.D.Service.acts g.C.Clock.gives (g.R.Read.remaining l.fn.reader)
      (record { base = l.fn.desk; after = l.desk; clock = l.fn.clock; later = l.clock; old = g.W.Write.contents l.fn.writer; new = g.W.Write.contents l.writer })
      l.done l.buffer.items (g.R.Read.remaining l.reader);
}

abbrev pub decreases-serving : goal.decreases-serving
decreases-serving g l = most_requests_per_stream - l.done
