use Rattle.std.proofs.Common.{arith, ◌≡◌, ◌≢◌, ◌+◌, ◌∷◌, drop, sym, ap, ◌∙◌}
use Rattle.std.proofs.lemmas.List.{drop_more, take_rest}
use Rattle.brk_lots.specs.declared.lot.Lot.{Lot}
use Rattle.brk_lots.specs.Order.{FirstLotSatisfies}
use Rattle.brk_lots.proofs.position_checks.neighbours_differ_in_trade.Goals as goal

pub loop-i-preserved : goal.loop-i-preserved
loop-i-preserved c =
    let lots = c.args.lots.now in
    let i = c.loop-i.i in
    let lot : Lot = c.index-lots-i.result in
    let e : drop i lots ≡ lot ∷ drop (i + 1) lots = drop_more lots i lot (omega arith) ∙ ap (λ (l : Lot). l ∷ drop (i + 1) lots) (sym c.index-lots-i.is) in
    let a : FirstLotSatisfies (λ m. m.trade ≢ lot.trade) (drop (i + 1) lots) = rw (take_rest lots (i + 1)) at (c.differs_from_next.ensures.0 c.if-not-differs_from_next.false) in
    (λ p. c.loop-i.invariant.0 (rw e (a, p)), λ p. let h = c.loop-i.invariant.1 p in let q = rw e at h in q.1)
