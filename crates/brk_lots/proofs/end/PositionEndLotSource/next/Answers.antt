use Rattle.std.proofs.Common.{◌≢◌, ◌-◌, pos, length}
use Rattle.std.proofs.lemmas.List.Elements.{All-drop, All-take}
use Rattle.brk_lots.specs.declared.lot.Lot.{Lot}
use Rattle.brk_lots.proofs.end.PositionEndLotSource.next.Goals as goal

pub invariant_of-self-else-self-clause-some_shares : goal.invariant_of-self-else-self-clause-some_shares
invariant_of-self-else-self-clause-some_shares c =
    let ls = c.args.self.now.lots.now in
    All-take (λ (l : Lot). l.qty ≢ pos 0) (length ls - 1) _ (All-drop (λ (l : Lot). l.qty ≢ pos 0) 1 ls c.args.self.now.some_shares)
