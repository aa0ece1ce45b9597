use Rattle.std.proofs.Common.{refl}
use Rattle.brk_http_engine.specs.Lines.{status_text}
use Rattle.brk_http_engine.proofs.replying.problem_status.Goals as goal

pub returns-in-TooLarge : goal.returns-in-TooLarge
unfolding status_text
returns-in-TooLarge c = rw c.in-TooLarge.is refl

pub returns-in-BadRequest : goal.returns-in-BadRequest
unfolding status_text
returns-in-BadRequest c = rw c.in-BadRequest.is refl

pub returns-in-NotImplemented : goal.returns-in-NotImplemented
unfolding status_text
returns-in-NotImplemented c = rw c.in-NotImplemented.is refl

pub returns-in-NotFound : goal.returns-in-NotFound
unfolding status_text
returns-in-NotFound c = rw c.in-NotFound.is refl

pub returns-in-NotAllowed : goal.returns-in-NotAllowed
unfolding status_text
returns-in-NotAllowed c = rw c.in-NotAllowed.is refl
