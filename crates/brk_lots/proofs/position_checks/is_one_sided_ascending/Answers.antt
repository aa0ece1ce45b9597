use Rattle.std.proofs.Common.{rules, arith, ◌≡◌, ◌≢◌, ◌+◌, pos, ◌∷◌, drop, sym, ap, ◌∙◌}
use Rattle.std.proofs.lemmas.List.{drop_more, take_rest}
use Rattle.brk_lots.specs.declared.lot.Lot.{Lot}
use Rattle.brk_lots.specs.Order.{FirstLotSatisfies, PrecedesOnSameSide}
use Rattle.brk_lots.proofs.position_checks.is_one_sided_ascending.Goals as goal

pub loop-i-preserved : goal.loop-i-preserved
loop-i-preserved c =
    let lots = c.args.lots.now in
    let i = c.loop-i.i in
    let lot : Lot = c.index-lots-i.result in
    let e : drop i lots ≡ lot ∷ drop (i + 1) lots = drop_more lots i lot (omega arith) ∙ ap (λ (l : Lot). l ∷ drop (i + 1) lots) (sym c.index-lots-i.is) in
    let n : lot.qty ≢ pos 0 = search rules in
    let a : FirstLotSatisfies (PrecedesOnSameSide lot) (drop (i + 1) lots) = rw (take_rest lots (i + 1)) at (c.precedes_next.ensures.0 c.if-not-precedes_next.false) in
    (λ p. c.loop-i.invariant.0 (rw e (n, a, p)), λ p. let h = c.loop-i.invariant.1 p in let q = rw e at h in q.2)
