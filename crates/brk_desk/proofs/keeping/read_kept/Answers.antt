use Rattle.std.proofs.Common.{refl}
use Rattle.brk_desk.proofs.keeping.read_kept.Goals as goal

pub returns-in-Some : goal.returns-in-Some
returns-in-Some g c = rw c.in-Some.is c.stored_reply_by_key.ensures.read

pub returns-in-None : goal.returns-in-None
returns-in-None g c = rw c.in-None.is (refl, refl)
