use Rattle.std.proofs.Common.{sym}
use Rattle.brk_lots.proofs.Ends.{walk_of}
use Rattle.brk_lots.proofs.Plain.{lots_walk}
use Rattle.brk_lots.proofs.theorems.position_lots_equal_lots_of_shares.Goals as goal

pub returns : goal.returns
returns c ls p = sym (lots_walk ls (walk_of ls p))
