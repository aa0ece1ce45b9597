-- Streams of a listener, served in sequence.
use Rattle.std.proofs.Common.{◌≡◌, ◌≢◌, ℕ, ◌+◌, ◌<◌, List, [], ◌∷◌, ◌++◌, length, None, Some, ap, subst, refl, arith}
use Rattle.std.specs.Prelude.{Result, Ok, Err}
use Rattle.std.proofs.lemmas.List.{length-append}
use Rattle.brk_io.specs.declared.stream_fault.ServeFault.{ServeFault}
use Rattle.brk_io.specs.declared.stream_fault.FaultKind.{FaultKind}
use Rattle.brk_io.specs.declared.stream_fault.FaultKind.TheVariants as kinds
use Rattle.brk_http_engine.specs.Listening.{AcceptRelation, AcceptHasResult, ServeEachStreamPost, MayAcceptNextStream, ListenerClockAndDesk}
use Rattle.brk_http_engine.specs.Listening.{StreamEnd, HandlesStream, HandlesStreamsInOrder}
use Rattle.brk_http_engine.specs.Peers.{PeerRelation}
use Rattle.brk_http_engine.specs.declared.listen_faults.AcceptFault.TheVariants.{Aborted, Failed}
use Rattle.brk_http_engine.specs.declared.listen_faults.ListenFault.{ListenFault}
use Rattle.brk_http_engine.specs.declared.listen_faults.ListenFault.TheVariants.{Stream, Net}

in_both : (xs ys : List StreamEnd) (n m : ℕ) → length xs ≡ n → length ys ≡ m → length (xs ++ ys) ≡ n + m
in_both xs ys n m one other = omega (arith, length-append xs ys)

below_both : (xs ys : List StreamEnd) (n streams : ℕ) → length xs ≡ n → n < streams → length ys < 1 → length (xs ++ ys) < streams
below_both xs ys n streams one less few = omega (arith, length-append xs ys)

pub read_goes_on : (kind : FaultKind) → kind ≡ kinds.Read → kind ≢ kinds.Memory
read_goes_on kind read memory = cc

pub write_goes_on : (kind : FaultKind) → kind ≡ kinds.Write → kind ≢ kinds.Memory
write_goes_on kind write memory = cc

module _ {L C D P : Type 0} (accepts : AcceptRelation L P) (serves : PeerRelation C D P) where
  all_then : (ends more : List StreamEnd) (first mid last : ListenerClockAndDesk L C D) → HandlesStreamsInOrder accepts serves first ends mid
      → HandlesStreamsInOrder accepts serves mid more last → HandlesStreamsInOrder accepts serves first (ends ++ more) last
  all_then [] more first mid last same after = subst (λ s. HandlesStreamsInOrder accepts serves s more last) same after
  all_then (end ∷ ends) more first mid last (next, took, on, others) after = (next, took, on, all_then ends more next mid last others after)

  -- one stream was taken, or none could be
  pub one_broken : (old new : ListenerClockAndDesk L C D) → AcceptHasResult accepts old (Err Aborted) new → ServeEachStreamPost accepts serves 1 old (Ok tt) new
  one_broken old new h = (None ∷ [], (new, h, tt, refl), refl)

  pub one_refused : (old new : ListenerClockAndDesk L C D) → AcceptHasResult accepts old (Err Failed) new → ServeEachStreamPost accepts serves 1 old (Err Net) new
  one_refused old new h = ([], old, refl, omega arith, h)

  pub one_served : (old new : ListenerClockAndDesk L C D) (peer left : P) (ended : Result ℕ ServeFault) → accepts old.listener (Ok peer) new.listener
      → serves old.clock old.desk peer ended left new.clock new.desk → MayAcceptNextStream (Some ended) → ServeEachStreamPost accepts serves 1 old (Ok tt) new
  one_served old new peer left ended accepted served on = (Some ended ∷ [], (new, (peer, left, accepted, served), on, refl), refl)

  pub one_failed : (old new : ListenerClockAndDesk L C D) (peer left : P) (fault : ServeFault) → accepts old.listener (Ok peer) new.listener
      → serves old.clock old.desk peer (Err fault) left new.clock new.desk → fault.kind ≡ kinds.Memory
      → ServeEachStreamPost accepts serves 1 old (Err (Stream fault)) new
  one_failed old new peer left fault accepted served memory = ([], old, refl, omega arith, (peer, left, accepted, served), memory)

  pub none_yet : (scene : ListenerClockAndDesk L C D) → ServeEachStreamPost accepts serves 0 scene (Ok tt) scene
  none_yet scene = ([], refl, refl)

  -- one stream more was taken
  pub one_more : (n : ℕ) (first mid last : ListenerClockAndDesk L C D) → ServeEachStreamPost accepts serves n first (Ok tt) mid
      → ServeEachStreamPost accepts serves 1 mid (Ok tt) last → ServeEachStreamPost accepts serves (n + 1) first (Ok tt) last
  one_more n first mid last (ends, all, count) (more, rest, one) =
      (ends ++ more, all_then ends more first mid last all rest, in_both ends more n 1 count one)

  -- no stream more is taken
  pub ended_early : (n streams : ℕ) (first mid last : ListenerClockAndDesk L C D) (fault : ListenFault) → n < streams
      → ServeEachStreamPost accepts serves n first (Ok tt) mid → ServeEachStreamPost accepts serves 1 mid (Err fault) last
      → ServeEachStreamPost accepts serves streams first (Err fault) last
  ended_early n streams first mid last (Stream fault) less (ends, all, count) (more, next, rest, few, took, memory) =
      (ends ++ more, next, all_then ends more first mid next all rest, below_both ends more n streams count less few, took, memory)
  ended_early n streams first mid last Net less (ends, all, count) (more, next, rest, few, failed) =
      (ends ++ more, next, all_then ends more first mid next all rest, below_both ends more n streams count less few, failed)

-- whatever each stream does to the desk is done to it by all of them
module _ {L C D P : Type 0} (accepts : AcceptRelation L P) (serves : PeerRelation C D P) (Leads : D → D → Type 0)
    (none : (old new : D) → new ≡ old → Leads old new) (next : (old mid new : D) → Leads old mid → Leads mid new → Leads old new)
    (each : (clock : C) (desk : D) (peer : P) (ended : Result ℕ ServeFault) (left : P) (later : C) (after : D)
    → serves clock desk peer ended left later after → Leads desk after) where
  taken_by : (old new : ListenerClockAndDesk L C D) (end : StreamEnd) → HandlesStream accepts serves old end new → Leads old.desk new.desk
  taken_by old new None h = none old.desk new.desk h.desk
  taken_by old new (Some ended) (peer, left, accepted, served) = each old.clock old.desk peer ended left new.clock new.desk served

  all_by : (ends : List StreamEnd) (old new : ListenerClockAndDesk L C D) → HandlesStreamsInOrder accepts serves old ends new → Leads old.desk new.desk
  all_by [] old new same = none old.desk new.desk (ap (λ s. s.desk) same)
  all_by (end ∷ ends) old new (mid, took, on, others) = next old.desk mid.desk new.desk (taken_by old mid end took) (all_by ends mid new others)

  pub listens_by : (streams : ℕ) (old : ListenerClockAndDesk L C D) (result : Result (Unit {0}) ListenFault) (new : ListenerClockAndDesk L C D)
      → ServeEachStreamPost accepts serves streams old result new → Leads old.desk new.desk
  listens_by streams old (Ok done) new (ends, all, count) = all_by ends old new all
  listens_by streams old (Err (Stream fault)) new (ends, mid, all, few, took, memory) =
      next old.desk mid.desk new.desk (all_by ends old mid all) (taken_by mid new (Some (Err fault)) took)
  listens_by streams old (Err Net) new (ends, mid, all, few, failed) =
      next old.desk mid.desk new.desk (all_by ends old mid all) (none mid.desk new.desk failed.desk)
