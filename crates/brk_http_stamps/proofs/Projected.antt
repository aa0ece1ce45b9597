-- What is done by a desk that keeps the stamp of its replies, without the stamp.
use Rattle.std.proofs.Common.{◌≡◌, ℕ, List, [], ◌∷◌, Some, None, refl, ap, subst, sym}
use Rattle.std.specs.Prelude.{Result, Ok, Err}
use Rattle.sqlite_trees.specs.declared.store.Store.{Ghosts}
use Rattle.sqlite.specs.Held.{Held}
use Rattle.brk_model.specs.Run.{Call, Outcome}
use Rattle.brk_model_http.specs.Asked.{model_parsers}
use Rattle.brk_money.specs.Spelling.{Text}
use Rattle.brk_io.specs.Calls.{IsCallSequence}
use Rattle.brk_io.specs.Span.{ClockAndWriterChange, environment_change_with_bases}
use Rattle.brk_io.specs.declared.stream_fault.ServeFault.{ServeFault}
use Rattle.brk_http_engine.proofs.Promised.{keeps}
use Rattle.brk_http_engine.specs.Listening.{AcceptRelation, HandlesStream, HandlesStreamsInOrder, ListenerClockAndDesk, ServeEachStreamPost, StreamEnd}
use Rattle.brk_http_engine.specs.Peers.{PeerRelation}
use Rattle.brk_http_engine.specs.Promises.{CallWithClock, ChangesOnlyByCalls}
use Rattle.brk_http_engine.specs.Turns.{IsStreamResult}
use Rattle.brk_http_engine.specs.declared.listen_faults.ListenFault.{ListenFault}
use Rattle.brk_http_engine.specs.declared.listen_faults.ListenFault.TheVariants.{Stream, Net}
use Rattle.brk_http.specs.CallOutcomes.{DeskCallHasOutcome}
use Rattle.brk_http_stamps.specs.Stamped.{StampedCallHasOutcome}
use Rattle.brk_http_stamps.specs.declared.stamped_desk.StampedDesk.{StampedDesk}

-- ---- calls

module _ {S : Type 0} (g : Ghosts S) where
  abbrev StampedOutcome : StampedDesk S → ℕ → Call → Outcome → StampedDesk S → Type 0
  StampedOutcome old now call outcome new = StampedCallHasOutcome g old now call outcome new

  abbrev DeskOutcome : Held S → ℕ → Call → Outcome → Held S → Type 0
  DeskOutcome old now call outcome new = DeskCallHasOutcome g old now call outcome new

  module _ {C : Type 0} (gives : C → ℕ → C → Type 0) where
    desk_calls : (old new : StampedDesk S × C) (calls : List (ℕ × Call)) (outcomes : List Outcome)
        → IsCallSequence (CallWithClock StampedOutcome gives) old calls outcomes new
        → IsCallSequence (CallWithClock DeskOutcome gives) (old.0.desk, old.1) calls outcomes (new.0.desk, new.1)
    desk_calls old new [] [] same = ap (λ (s : StampedDesk S × C). (s.0.desk, s.1)) same
    desk_calls old new (c ∷ cs) (o ∷ os) (mid, acted, more) = ((mid.0.desk, mid.1), (acted.0.called, acted.1), desk_calls mid new cs os more)
    desk_calls old new [] (o ∷ os) made = absurd made
    desk_calls old new (c ∷ cs) [] made = absurd made

    pub changes_desk : (most : ℕ) (old new : StampedDesk S) (clock later : C)
        → ChangesOnlyByCalls (CallWithClock StampedOutcome gives) most (old, clock) (new, later)
        → ChangesOnlyByCalls (CallWithClock DeskOutcome gives) most (old.desk, clock) (new.desk, later)
    changes_desk most old new clock later (calls, outcomes, made, few) = (calls, outcomes, desk_calls (old, clock) (new, later) calls outcomes made, few)

    -- the result of a stream
    pub results_at_desk : (input : Text) (old new : StampedDesk S) (outside : ClockAndWriterChange C) (result : Result ℕ ServeFault)
        → IsStreamResult model_parsers StampedOutcome gives input (environment_change_with_bases old new outside) result
        → IsStreamResult model_parsers DeskOutcome gives input (environment_change_with_bases old.desk new.desk outside) result
    results_at_desk input old new outside result h =
        let r =
        keeps model_parsers StampedOutcome DeskOutcome (λ _. Unit {0}) (λ stamped desk. desk ≡ stamped.desk) (λ _ _ _ _ _ _ _. tt)
        (λ from now call outcome to acted _ desk is.
        (to.desk, refl, subst (λ (d : Held S). DeskOutcome d now call outcome to.desk) (sym is) acted.called))
        gives input old new outside result h tt old.desk refl in
        subst (λ (d : Held S). IsStreamResult model_parsers DeskOutcome gives input (environment_change_with_bases old.desk d outside) result) r.1 r.2

-- ---- streams of a listener

-- What a relation of serving a peer says, another says of what `f` makes of the desks.
module _ {L C D E P : Type 0} (f : D → E) (accepts : AcceptRelation L P) (serves : PeerRelation C D P) (does : PeerRelation C E P)
    (each : (clock : C) (old : D) (peer : P) (ended : Result ℕ ServeFault) (left : P) (later : C) (new : D)
    → serves clock old peer ended left later new → does clock (f old) peer ended left later (f new)) where
  abbrev at : ListenerClockAndDesk L C D → ListenerClockAndDesk L C E
  at s = record { listener = s.listener; clock = s.clock; desk = f s.desk }

  handled : (s : ListenerClockAndDesk L C D) (end : StreamEnd) (t : ListenerClockAndDesk L C D) → HandlesStream accepts serves s end t
      → HandlesStream accepts does (at s) end (at t)
  handled s None t h = record { accepted = h.accepted; clock = h.clock; desk = ap f h.desk }
  handled s (Some ended) t (peer, left, accepted, served) = (peer, left, accepted, each s.clock s.desk peer ended left t.clock t.desk served)

  in_order : (ends : List StreamEnd) (s t : ListenerClockAndDesk L C D) → HandlesStreamsInOrder accepts serves s ends t
      → HandlesStreamsInOrder accepts does (at s) ends (at t)
  in_order [] s t h = ap at h
  in_order (end ∷ ends) s t (mid, took, on, others) = (at mid, handled s end mid took, on, in_order ends mid t others)

  pub listens_at : (streams : ℕ) (s : ListenerClockAndDesk L C D) (result : Result (Unit {0}) ListenFault) (t : ListenerClockAndDesk L C D)
      → ServeEachStreamPost accepts serves streams s result t → ServeEachStreamPost accepts does streams (at s) result (at t)
  listens_at streams s (Ok done) t (ends, all, count) = (ends, in_order ends s t all, count)
  listens_at streams s (Err (Stream fault)) t (ends, mid, all, few, took, memory) =
      (ends, at mid, in_order ends s mid all, few, handled mid (Some (Err fault)) t took, memory)
  listens_at streams s (Err Net) t (ends, mid, all, few, failed) =
      (ends, at mid, in_order ends s mid all, few, record { accepted = failed.accepted; clock = failed.clock; desk = ap f failed.desk })
