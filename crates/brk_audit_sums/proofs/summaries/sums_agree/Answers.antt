use Rattle.std.proofs.Common.{◌≡◌, sym, ◌∙◌, refl, rules}
use Rattle.brk_audit_sums.specs.Tally.{sum_at_key}
use Rattle.brk_audit_sums.proofs.Passed.{holds_of_item, holds_of_more, holds_of_all}
use Rattle.brk_audit_sums.proofs.summaries.sums_agree.Goals as goal

pub returns-then-sum_at : goal.returns-then-sum_at
returns-then-sum_at g c = (
  (λ e. absurd (cc)),
  (λ all.
      let at = holds_of_item (λ p. sum_at_key g.K.Ord.cmp c.args.sums.now p.key ≡ sum_at_key g.K.Ord.cmp c.args.claimed.now p.key) c.args.postings.now
      c.loop-posting.posting-index c.posting-item.result c.loop-posting-test.true c.posting-item.is all in
      let same : c.sum_at.result ≡ c.sum_at-in-loop-posting.result =
      c.sum_at.ensures ∙ at ∙ sym c.sum_at-in-loop-posting.ensures in
      absurd (c.if-sum_at.true (cc))),
)

pub loop-posting-preserved : goal.loop-posting-preserved
loop-posting-preserved g c =
    let same : c.sum_at.result ≡ c.sum_at-in-loop-posting.result = search rules in
    holds_of_more (λ p. sum_at_key g.K.Ord.cmp c.args.sums.now p.key ≡ sum_at_key g.K.Ord.cmp c.args.claimed.now p.key) c.args.postings.now
    c.loop-posting.posting-index c.posting-item.result c.loop-posting-test.true c.posting-item.is c.loop-posting.invariant
    (sym c.sum_at.ensures ∙ same ∙ c.sum_at-in-loop-posting.ensures)

pub returns : goal.returns
returns g c = (
  (λ e. holds_of_all (λ p. sum_at_key g.K.Ord.cmp c.args.sums.now p.key ≡ sum_at_key g.K.Ord.cmp c.args.claimed.now p.key) c.args.postings.now
      c.loop-posting.posting-index c.loop-posting-test.false c.loop-posting.invariant),
  (λ all. refl),
)
