-- Streams of any listener and any peers, without what is said of their bytes.
use Rattle.std.specs.Prelude.{ℕ, List, [], ◌∷◌, Option, None, Some, Result, Ok, Err}
use Rattle.std.proofs.Common.{ap, inl, inr, refl}
use Rattle.sqlite_trees.specs.declared.store.Store.{Ghosts}
use Rattle.sqlite.specs.Held.{Held}
use Rattle.brk_http.specs.Served.{DeskServesPeer}
use Rattle.brk_http_engine.specs.Listening.{AcceptRelation, HandlesStream, HandlesStreamsInOrder, ListenerClockAndDesk, ServeEachStreamPost, StreamEnd}
use Rattle.brk_http_engine.specs.declared.listen_faults.ListenFault.{ListenFault}
use Rattle.brk_http_engine.specs.declared.listen_faults.ListenFault.TheVariants.{Stream, Net}
use Rattle.brk_io.specs.declared.stream_fault.ServeFault.{ServeFault}
use Rattle.brk_money.specs.Spelling.{Text}

-- the clock and the desk alone
abbrev pub forget : {L C D : Type 0} → ListenerClockAndDesk L C D → ListenerClockAndDesk (Unit {0}) C D
forget s = record { listener = tt; clock = s.clock; desk = s.desk }

module _ {L P : Type 0} (accepts : AcceptRelation L P) {S C : Type 0} (g : Ghosts S) (gives : C → ℕ → C → Type 0) (sends received : P → Option Text) where
  served : (clock : C) (old : Held S) (peer : P) (ended : Result ℕ ServeFault) (left : P) (later : C) (new : Held S)
      → DeskServesPeer g gives sends received clock old peer ended left later new
      → DeskServesPeer {P = Unit {0}} g gives (λ _. None) (λ _. None) clock old tt ended tt later new
  served clock old peer ended left later new (inl h) = inl (record { by_calls = h.by_calls; matched = tt; refines_model = tt })
  served clock old peer ended left later new (inr h) =
      inr (record { fault = h.fault; unwritten = refl; same_clock = h.same_clock; same_desk = h.same_desk })

  handled : (s : ListenerClockAndDesk L C (Held S)) (end : StreamEnd) (t : ListenerClockAndDesk L C (Held S))
      → HandlesStream accepts (DeskServesPeer g gives sends received) s end t
      → HandlesStream {L = Unit {0}} {P = Unit {0}} (λ _ _ _. Unit {0}) (DeskServesPeer g gives (λ _. None) (λ _. None)) (forget s) end (forget t)
  handled s None t h = record { accepted = tt; clock = h.clock; desk = h.desk }
  handled s (Some ended) t h = (tt, tt, tt, served s.clock s.desk h.0 ended h.1 t.clock t.desk h.3)

  in_order : (ends : List StreamEnd) (s t : ListenerClockAndDesk L C (Held S))
      → HandlesStreamsInOrder accepts (DeskServesPeer g gives sends received) s ends t
      → HandlesStreamsInOrder {L = Unit {0}} {P = Unit {0}} (λ _ _ _. Unit {0}) (DeskServesPeer g gives (λ _. None) (λ _. None)) (forget s) ends (forget t)
  in_order [] s t h = ap forget h
  in_order (end ∷ ends) s t h = (forget h.0, handled s end h.0 h.1, h.2, in_order ends h.0 t h.3)

  pub without_peers : (streams : ℕ) (s t : ListenerClockAndDesk L C (Held S)) (listened : Result (Unit {0}) ListenFault)
      → ServeEachStreamPost accepts (DeskServesPeer g gives sends received) streams s listened t
      → ServeEachStreamPost {L = Unit {0}} {P = Unit {0}} (λ _ _ _. Unit {0}) (DeskServesPeer g gives (λ _. None) (λ _. None)) streams (forget s) listened (forget t)
  without_peers streams s t (Ok u) h = (h.0, in_order h.0 s t h.1, h.2)
  without_peers streams s t (Err (Stream fault)) h = (h.0, forget h.1, in_order h.0 s h.1 h.2, h.3, handled h.1 (Some (Err fault)) t h.4, h.5)
  without_peers streams s t (Err Net) h =
      (h.0, forget h.1, in_order h.0 s h.1 h.2, h.3, record { accepted = tt; clock = h.4.clock; desk = h.4.desk })
