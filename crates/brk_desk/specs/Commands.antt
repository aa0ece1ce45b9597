-- The call of the model (`run.Call`) that a desk's call (`Call` of this crate) represents.
use Rattle.std.specs.Prelude.{ℕ}
use Rattle.brk_desk.specs.Keys.{optional_model_key}
use Rattle.brk_desk_commands.specs.Commands.{abstract_command}
use Rattle.brk_model.specs.Run as run
use Rattle.brk_view_rows.specs.Queries.{abstract_query}
use Rattle.brk_desk.specs.declared.call.Call.{Call}
use Rattle.brk_desk.specs.declared.call.Call.TheVariants as call

-- The model's call that a desk's call represents, paired with the unchanged clock reading.
abbrev pub model_call : ℕ × Call → ℕ × run.Call
model_call (now, call.Do command key) = (now, run.Do (abstract_command command) (optional_model_key key))
model_call (now, call.Ask query) = (now, run.Ask (abstract_query query))
