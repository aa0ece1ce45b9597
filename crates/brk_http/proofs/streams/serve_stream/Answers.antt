use Rattle.std.proofs.Common.{None, Option, List, ℕ, Some, IfSome}
use Rattle.sqlite.specs.Held.{state}
use Rattle.sqlite.specs.State.{HasCleanDisk}
use Rattle.brk_store_transactions.specs.Audited.{Represents}
use Rattle.brk_model.specs.Run.{IsOutcomeOfCall}
use Rattle.brk_http_engine.proofs.Promised.{keeps}
use Rattle.brk_http.specs.CallOutcomes.{DeskCallHasOutcome}
use Rattle.brk_model_http.specs.Asked.{model_parsers}
use Rattle.brk_http.proofs.Acted.{earlier, steps}
use Rattle.brk_http.proofs.Serving.{reads_clock, tells_run}
use Rattle.brk_http.proofs.streams.serve_stream.Goals as goal

if_known : (input : Option (List ℕ)) {P Q : List ℕ → Type 0} → ((text : List ℕ) → P text → Q text) → IfSome input P → IfSome input Q
if_known None turn h = tt
if_known (Some text) turn h = turn text h

pub returns-clause-changed_only_by_calls : goal.returns-clause-changed_only_by_calls
returns-clause-changed_only_by_calls g c =
    tells_run g.S.Store g.C.Clock.gives (g.R.Read.remaining c.args.reader) c.args.desk.now c.serve_requests.new.desk
    (record { clock = c.args.clock.now; later = c.serve_requests.new.clock; old = g.W.Write.contents c.args.writer.now; new = g.W.Write.contents c.serve_requests.new.writer }) c.serve_requests.result
    c.serve_requests.ensures.called c.serve_requests.ensures.gives

pub returns-clause-refines_model : goal.returns-clause-refines_model
returns-clause-refines_model g c =
    if_known (g.R.Read.remaining c.args.reader) (λ input h.
    keeps model_parsers (λ old now call outcome new. DeskCallHasOutcome g.S.Store old now call outcome new) IsOutcomeOfCall
    (λ desk. HasCleanDisk (state g.S.Store desk)) (λ desk. Represents g.S.Store desk)
    (λ old now call outcome new acts. earlier g.S.Store old new now call outcome acts) (λ old now call outcome new acts. steps g.S.Store old new now call outcome acts)
    g.C.Clock.gives input c.args.desk.now c.serve_requests.new.desk
    (record {
      clock = c.args.clock.now;
      later = c.serve_requests.new.clock;
      old = g.W.Write.contents c.args.writer.now;
      new =
          g.W.Write.contents c.serve_requests.new.writer;
    }) c.serve_requests.result h) c.serve_requests.ensures.gives

pub returns-clause-reads_clock : goal.returns-clause-reads_clock
returns-clause-reads_clock g c =
    reads_clock g.S.Store g.C.Clock.gives _ c.args.desk.now c.serve_requests.new.desk c.args.clock.now c.serve_requests.new.clock c.serve_requests.ensures.called
