-- Streams of a listener, accepted and served in sequence, for any listener, peers and server.
use Rattle.std.specs.Prelude.{◌≡◌, ◌≢◌, ◌<◌, ℕ, List, [], ◌∷◌, Option, None, Some, Result, Ok, Err, length}
use Rattle.brk_io.specs.declared.stream_fault.ServeFault.{ServeFault}
use Rattle.brk_io.specs.declared.stream_fault.FaultKind.TheVariants.{Memory}
use Rattle.brk_http_engine.specs.Peers.{PeerRelation}
use Rattle.brk_http_engine.specs.declared.listen_faults.AcceptFault.{AcceptFault}
use Rattle.brk_http_engine.specs.declared.listen_faults.AcceptFault.TheVariants.{Aborted, Failed}
use Rattle.brk_http_engine.specs.declared.listen_faults.ListenFault.{ListenFault}
use Rattle.brk_http_engine.specs.declared.listen_faults.ListenFault.TheVariants.{Stream, Net}

-- The states of a listener, of a clock and of a desk at one time.
pub record ListenerClockAndDesk (L C D : Type 0) : Type 0 where
  pub listener : L
  pub clock : C
  pub desk : D

-- The type of an accept's relation: listener before, stream of type `X` or fault, listener after.
abbrev pub AcceptRelation : Type 0 → Type 0 → Type 1
AcceptRelation L X = L → Result X AcceptFault → L → Type 0

-- The end of a stream: its result, or `None` if its peer broke it off before it was accepted.
abbrev pub StreamEnd : Type 0
StreamEnd = Option (Result ℕ ServeFault)

-- The accept had the result `result`, and changed neither the clock nor the desk.
pub record AcceptHasResult {L C D X : Type 0} (accepts : AcceptRelation L X) (old : ListenerClockAndDesk L C D) (result : Result X AcceptFault)
    (new : ListenerClockAndDesk L C D) : Type 0 where
  pub accepted : accepts old.listener result new.listener
  pub clock : new.clock ≡ old.clock
  pub desk : new.desk ≡ old.desk

-- The next stream has this end. `None`: the accept failed because the peer broke the stream off
-- (`Aborted`); clock and desk are unchanged. Otherwise its peer was accepted and served with this
-- result, and may have received bytes (`left`).
abbrev pub HandlesStream : {L C D P : Type 0} → AcceptRelation L P → PeerRelation C D P → ListenerClockAndDesk L C D → StreamEnd → ListenerClockAndDesk L C D
    → Type 0
HandlesStream accepts serves old None new = AcceptHasResult accepts old (Err Aborted) new
HandlesStream {P = P} accepts serves old (Some ended) new =
    (peer : P) × (left : P) × accepts old.listener (Ok peer) new.listener × serves old.clock old.desk peer ended left new.clock new.desk

-- The next stream may be accepted after one with this end: memory did not run out.
abbrev pub MayAcceptNextStream : StreamEnd → Type 0
MayAcceptNextStream None = Unit {0}
MayAcceptNextStream (Some (Ok count)) = Unit {0}
MayAcceptNextStream (Some (Err fault)) = fault.kind ≢ Memory

-- Exactly the next streams of the listener were handled from `old` to `new`, one for each of these
-- ends, in order, and none ended because memory ran out. Without ends `new` equals `old`.
abbrev pub HandlesStreamsInOrder : {L C D P : Type 0} → AcceptRelation L P → PeerRelation C D P → ListenerClockAndDesk L C D → List StreamEnd
    → ListenerClockAndDesk L C D → Type 0
HandlesStreamsInOrder accepts serves old [] new = new ≡ old
HandlesStreamsInOrder {L} {C} {D} accepts serves old (end ∷ ends) new =
    (mid : ListenerClockAndDesk L C D) × HandlesStream accepts serves old end mid × MayAcceptNextStream end × HandlesStreamsInOrder accepts serves mid ends new

-- The postcondition of accepting and serving `streams` streams in sequence. `Ok`: exactly `streams`
-- were handled. `Stream`: fewer were handled, and one more ended with this fault, because memory
-- ran out. `Net`: fewer were handled, and the next accept failed; clock and desk are unchanged.
abbrev pub ServeEachStreamPost : {L C D P : Type 0} → AcceptRelation L P → PeerRelation C D P → ℕ → ListenerClockAndDesk L C D → Result (Unit {0}) ListenFault
    → ListenerClockAndDesk L C D → Type 0
ServeEachStreamPost accepts serves streams old (Ok done) new =
    (ends : List StreamEnd) × HandlesStreamsInOrder accepts serves old ends new × (length ends ≡ streams)
ServeEachStreamPost {L} {C} {D} accepts serves streams old (Err (Stream fault)) new =
    (ends : List StreamEnd) × (mid : ListenerClockAndDesk L C D) × HandlesStreamsInOrder accepts serves old ends mid × (length ends < streams)
    × HandlesStream accepts serves mid (Some (Err fault)) new × (fault.kind ≡ Memory)
ServeEachStreamPost {L} {C} {D} accepts serves streams old (Err Net) new =
    (ends : List StreamEnd) × (mid : ListenerClockAndDesk L C D) × HandlesStreamsInOrder accepts serves old ends mid × (length ends < streams)
    × AcceptHasResult accepts mid (Err Failed) new
