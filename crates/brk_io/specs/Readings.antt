-- The readings of the program's clock.
use Rattle.std.specs.Prelude.{◌≡◌, ◌/◌, ℕ, Option, None, Some, min}
use Rattle.std.specs.Borrow.{Bor}
use Rattle.std.specs.Time.{system_time_nanos}
use Rattle.std.specs.declared.time.SystemTime.{SystemTime}
use Rattle.brk_money.specs.Moments.{greatest_stamp}
use Rattle.brk_io.specs.declared.program_clock.ProgramClock.{ProgramClock}
use Rattle.brk_io.specs.declared.program_clock.ProgramClock.TheVariants as clocks

-- The stamp of a time: whole milliseconds since 1970-01-01 UTC, at most the greatest stamp.
abbrev pub stamp_of_time : SystemTime → ℕ
stamp_of_time time = min (system_time_nanos time / 1000000) greatest_stamp

-- The clock of the program: fixed at the given timestamp or, without one, the clock `machine`.
abbrev pub program_clock : {R : Type 0} → Bor R → Option ℕ → ProgramClock R
program_clock machine (Some stamp) = clocks.At stamp
program_clock machine None = clocks.Machine machine

-- The clock returned the reading `moment` and did not change. If the clock has a fixed timestamp,
-- `moment` is this timestamp; which reading the machine's clock returns is not specified.
abbrev pub ReturnsReading : {R : Type 0} → ProgramClock R → ℕ → ProgramClock R → Type 0
ReturnsReading (clocks.At stamp) moment new = (moment ≡ stamp) × (new ≡ clocks.At stamp)
ReturnsReading (clocks.Machine machine) moment new = new ≡ clocks.Machine machine
