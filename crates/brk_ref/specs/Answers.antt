-- The answer and the outcome of the model that an answer represents, for any type of replies.
use Rattle.std.specs.Prelude.{Result, Ok, Err, string_bytes}
use Rattle.brk_money.specs.declared.fault.Fault.{Fault}
use Rattle.brk_model.specs.Commands.{Answer, Done, Again, Refused, Reply}
use Rattle.brk_model.specs.Run.{Outcome, Did, Failed}
use Rattle.brk_ref.specs.declared.answer.Answer as code
use Rattle.brk_ref.specs.declared.answer.Answer.TheVariants as answer

-- The model's answer for an answer of the program; `reply` maps its reply.
abbrev pub abstract_answer : {R : Type 0} → (R → Reply) → code.Answer R → Answer
abstract_answer reply (answer.Done given) = Done (reply given)
abstract_answer reply (answer.Again line) = Again (string_bytes line)
abstract_answer reply (answer.Refused refusal) = Refused refusal

-- The model's outcome of executing a command: `Did` with its answer, or `Failed` with its fault.
abbrev pub abstract_command_outcome : {R : Type 0} → (R → Reply) → Result (code.Answer R) Fault → Outcome
abstract_command_outcome reply (Ok given) = Did (abstract_answer reply given)
abstract_command_outcome reply (Err fault) = Failed fault
