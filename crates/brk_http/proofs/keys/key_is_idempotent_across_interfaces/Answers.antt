use Rattle.std.proofs.Common.{refl}
use Rattle.brk_model.specs.Commands.{Done}
use Rattle.brk_model_theorems.proofs.KeptLaws.{answers-again, remembers, run-grows, still}
use Rattle.brk_http.proofs.keys.key_is_idempotent_across_interfaces.Goals as goal

pub returns-clause-accepted_in_batch : goal.returns-clause-accepted_in_batch
returns-clause-accepted_in_batch c = λ base mid after now later command key reply calls outcomes booked run.
    answers-again after later command key (Done reply) (still mid after key command (Done reply) (run-grows calls outcomes mid after run) (remembers base now command key (Done reply) mid booked refl))

pub returns-clause-accepted_as_request : goal.returns-clause-accepted_as_request
returns-clause-accepted_as_request c = λ base mid after now later command key reply calls outcomes booked run.
    answers-again after later command key (Done reply) (still mid after key command (Done reply) (run-grows calls outcomes mid after run) (remembers base now command key (Done reply) mid booked refl))
