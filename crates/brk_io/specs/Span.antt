-- The environment of an engine, which executes rows of a batch or stream, before and after a run.
use Rattle.std.specs.Prelude.{◌≡◌, [], Option}
use Rattle.std.specs.Io.KnownBytes.{Appends}
use Rattle.brk_money.specs.Spelling.{Text}

-- A change of an engine's environment: the desk's base, the clock and the writer's content, each
-- before and after. A content is `None` if no contract specifies it.
pub record EnvironmentChange (S C : Type 0) : Type 0 where
  pub base : S
  pub after : S
  pub clock : C
  pub later : C
  pub old : Option Text
  pub new : Option Text

-- The change `span` changes neither base nor clock, and nothing was written: vacuous if the
-- writer's content before is unknown (`None`), and false if only its content after is `None`.
pub record IsUnchangedEnvironment {S C : Type 0} (span : EnvironmentChange S C) : Type 0 where
  pub base : span.after ≡ span.base
  pub clock : span.later ≡ span.clock
  pub written : Appends span.old span.new []

-- A change of the clock (`clock`, `later`) and of the writer's content (`old`, `new`), each before
-- and after. A content is `None` if no contract specifies it.
pub record ClockAndWriterChange (C : Type 0) : Type 0 where
  pub clock : C
  pub later : C
  pub old : Option Text
  pub new : Option Text

-- The change of an environment by `outside` (clock, writer) and from the base `base` to `after`.
abbrev pub environment_change_with_bases : {S C : Type 0} → S → S → ClockAndWriterChange C → EnvironmentChange S C
environment_change_with_bases base after outside = record {
  base = base;
  after = after;
  clock = outside.clock;
  later = outside.later;
  old = outside.old;
  new = outside.new;
}
