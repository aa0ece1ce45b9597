-- The greatest times that a stream waits for its peer, in milliseconds.
use Rattle.std.specs.Prelude.{ℕ}
use Rattle.brk_http_limits.specs.declared.waiting.Phase.{Phase}
use Rattle.brk_http_limits.specs.declared.waiting.Phase.TheVariants as phase

-- The greatest time of a phase: for the first byte of a request and for the end of the peer's bytes
-- one second each, for the other bytes of a request and for the taking of replies 30 seconds each.
abbrev pub phase_limit : Phase → ℕ
phase_limit phase.FirstByte = 1000
phase_limit phase.Request = 30000
phase_limit phase.Reply = 30000
phase_limit phase.Drain = 1000

-- The greatest time of all phases of a stream.
abbrev pub stream_limit : ℕ
stream_limit = 60000
