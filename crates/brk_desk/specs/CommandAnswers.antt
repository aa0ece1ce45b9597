-- The model's answer for a call's answer, and the results by which a call commits or does not.
use Rattle.std.specs.Prelude.{Result, Ok, Err}
use Rattle.brk_money.specs.declared.fault.Fault.{Fault}
use Rattle.brk_model.specs.Commands.{Answer}
use Rattle.brk_trade_plans.specs.Replies.{abstract_reply}
use Rattle.brk_trade_plans.specs.declared.reply.Reply.{Reply}
use Rattle.brk_ref.specs.Answers.{abstract_answer}
use Rattle.brk_ref.specs.declared.answer.Answer as code
use Rattle.brk_ref.specs.declared.answer.Answer.TheVariants as given

-- The answer of a call that executes a command: `Done`, `Again` with a stored reply, or `Refused`.
abbrev pub CommandAnswer : Type 0
CommandAnswer = code.Answer Reply

-- The model's answer for that of a call: the reply, the bytes of the stored reply, or the refusal.
abbrev pub model_answer : CommandAnswer → Answer
model_answer answer = abstract_answer abstract_reply answer

-- The result is a refusal, a stored reply or a fault: any result but `Done`.
abbrev pub IsNotDoneResult : Result CommandAnswer Fault → Type 0
IsNotDoneResult (Ok (given.Done reply)) = ⊥
IsNotDoneResult (Ok (given.Again line)) = Unit {0}
IsNotDoneResult (Ok (given.Refused refusal)) = Unit {0}
IsNotDoneResult (Err fault) = Unit {0}

-- The result is `Done`: neither a refusal, nor a stored reply, nor a fault.
abbrev pub IsDoneResult : Result CommandAnswer Fault → Type 0
IsDoneResult (Ok (given.Done reply)) = Unit {0}
IsDoneResult (Ok (given.Again line)) = ⊥
IsDoneResult (Ok (given.Refused refusal)) = ⊥
IsDoneResult (Err fault) = ⊥
