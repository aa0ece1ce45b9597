use Rattle.brk_lots.proofs.Ends.{walk_of}
use Rattle.brk_lots.specs.Position.{IsPosition}
use Rattle.brk_lots.proofs.position.Position.lots.Goals as goal

pub returns-clause-walk : goal.returns-clause-walk
returns-clause-walk c =
    let p : IsPosition c.args.self.now = rw (← c.self.view_is) c.self.invariant.1 in
    walk_of c.args.self.now p
