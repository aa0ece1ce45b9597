use Rattle.std.proofs.Common.{◌≡◌, ◌∙◌, ap, sym, arith, cond, pos}
use Rattle.std.specs.Prelude.{◌+ℤ◌, nat_abs}
use Rattle.std.specs.Ordering.{is_eq}
use Rattle.brk_model.specs.Lists.{total_by}
use Rattle.brk_audit_sums.specs.Tally.{sum_at_key}
use Rattle.brk_audit_sums.proofs.Tallies.{none_at, total_more}
use Rattle.brk_audit_sums.proofs.tally.sum_by_key.Goals as goal

pub loop-posting-init : goal.loop-posting-init
unfolding total_by
loop-posting-init g c = record {
  sums = λ q. none_at g.K.Ord.cmp c.new-tally.result q c.new-tally.ensures.empty;
  small = λ q. let e : nat_abs (sum_at_key g.K.Ord.cmp c.new-tally.result q) ≡ 0 = ap nat_abs (none_at g.K.Ord.cmp c.new-tally.result q c.new-tally.ensures.empty) in omega arith;
}

pub loop-posting-preserved : goal.loop-posting-preserved
loop-posting-preserved g c = record {
  sums = λ q.
      c.in_ok-add_posting.ensures.more q ∙ (λ i. c.loop-posting.invariant.sums q i +ℤ cond (is_eq (g.K.Ord.cmp (c.posting-item.is i).key q)) (c.posting-item.is i).amount (pos 0))
      ∙ sym (total_more g.K.Ord.cmp c.args.postings.now c.loop-posting.posting-index c.posting-item.result q c.loop-posting-test.true);
  small = λ q. let a = c.in_ok-add_posting.ensures.small q in let b = c.loop-posting.invariant.small q in omega arith;
}
