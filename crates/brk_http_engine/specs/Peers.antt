-- The streams of peers, and what serving one may do.
use Rattle.std.specs.Prelude.{◌≡◌, ◌⊎◌, ℕ, Option, Result, Err}
use Rattle.brk_money.specs.Spelling.{Text}
use Rattle.brk_io.specs.declared.stream_fault.ServeFault.{ServeFault}
use Rattle.brk_io.specs.declared.stream_fault.FaultKind.TheVariants.{Read}

-- The bytes of a stream, each if a contract specifies them: those that the peer sends (`sent`), and
-- those that it had received before and after the stream was served.
pub record StreamBytes : Type 0 where
  pub sent : Option Text
  pub before : Option Text
  pub after : Option Text

-- The type of the relation of serving a stream: its bytes, clock and desk before, result, both after.
abbrev pub StreamRelation : Type 0 → Type 0 → Type 1
StreamRelation C D = StreamBytes → C → D → Result ℕ ServeFault → C → D → Type 0

-- The type of the relation of serving a peer: clock and desk before, the peer before, result, the
-- peer after, clock and desk after.
abbrev pub PeerRelation : Type 0 → Type 0 → Type 0 → Type 1
PeerRelation C D P = C → D → P → Result ℕ ServeFault → P → C → D → Type 0

-- The stream could not be prepared: its result is `Read` without a reply, no byte was written, and
-- clock and desk are unchanged.
pub record CannotBeServed {C D : Type 0} (bytes : StreamBytes) (clock : C) (desk : D) (ended : Result ℕ ServeFault) (later : C) (new : D) : Type 0 where
  pub fault : ended ≡ Err (record { done = 0; kind = Read })
  pub unwritten : bytes.after ≡ bytes.before
  pub same_clock : later ≡ clock
  pub same_desk : new ≡ desk

-- The stream of the peer was served once, as `serves` says of the bytes that the peer sends and has
-- received (`sends`, `received`); or it could not be prepared.
abbrev pub ServesPeer : {C D P : Type 0} → StreamRelation C D → (P → Option Text) → (P → Option Text) → PeerRelation C D P
ServesPeer serves sends received clock desk peer ended left later new =
    serves (record { sent = sends peer; before = received peer; after = received left }) clock desk ended later new
    ⊎ CannotBeServed (record { sent = sends peer; before = received peer; after = received left }) clock desk ended later new
