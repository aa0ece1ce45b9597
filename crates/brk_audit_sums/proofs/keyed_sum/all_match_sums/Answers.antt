use Rattle.std.proofs.Common.{sym, ◌∙◌, refl}
use Rattle.brk_audit_sums.proofs.Passed.{holds_of_item, holds_of_more, holds_of_all}
use Rattle.brk_audit_sums.proofs.keyed_sum.all_match_sums.Goals as goal

pub returns-then-not-matches_sum : goal.returns-then-not-matches_sum
returns-then-not-matches_sum g c = (
  (λ e. absurd (cc)),
  (λ all. sym c.if-not-matches_sum.true
      ∙ c.matches_sum.ensures.1 (holds_of_item (g.S.KeyedSum.has_sum c.args.sums.now) c.args.rows.now c.loop-row.row-index c.row-item.result c.loop-row-test.true c.row-item.is all)),
)

pub loop-row-preserved : goal.loop-row-preserved
loop-row-preserved g c =
    holds_of_more (g.S.KeyedSum.has_sum c.args.sums.now) c.args.rows.now c.loop-row.row-index c.row-item.result c.loop-row-test.true c.row-item.is c.loop-row.invariant
    (c.matches_sum.ensures.0 c.if-not-matches_sum.false)

pub returns : goal.returns
returns g c = (
  (λ e. holds_of_all (g.S.KeyedSum.has_sum c.args.sums.now) c.args.rows.now c.loop-row.row-index c.loop-row-test.false c.loop-row.invariant),
  (λ all. refl),
)
