use Rattle.std.proofs.Common.{sym, ◌∙◌, ap}
use Rattle.std.specs.Ordering.{nat_cmp}
use Rattle.std.specs.BTreeSet.{contains}
use Rattle.std.proofs.lemmas.List.{take_all}
use Rattle.brk_model.specs.Lists.{all_distinct}
use Rattle.brk_audit_form.proofs.OwnRows.{not_own, own_more, seen_more, trades}
use Rattle.brk_audit_form.proofs.cash_trades.have_distinct_trades.Goals as goal

pub returns-then-not-branch : goal.returns-then-not-branch
returns-then-not-branch c =
    let no = sym c.in_ok-insert_trade.ensures.new ∙ c.if-not-branch.true in
    sym (not_own c.args.moves.now c.loop-row.row-index c.row-item.result (contains nat_cmp c.loop-row.seen) c.loop-row-test.true c.row-item.is c.loop-row.invariant.seen no)

pub loop-row-preserved : goal.loop-row-preserved
loop-row-preserved c =
    let r = c.row-item.result in
    let yes = sym c.in_ok-insert_trade.ensures.new ∙ c.if-not-branch.false in
    record {
      seen = λ q.
          seen_more c.args.moves.now c.loop-row.row-index r q (contains nat_cmp c.loop-row.seen q) (contains nat_cmp c.insert_trade.new.seen q)
          c.loop-row-test.true c.row-item.is (c.loop-row.invariant.seen q) (c.in_ok-insert_trade.ensures.seen q);
      own = own_more c.args.moves.now c.loop-row.row-index r (contains nat_cmp c.loop-row.seen) c.loop-row-test.true c.row-item.is c.loop-row.invariant.seen yes c.loop-row.invariant.own;
    }

pub returns : goal.returns
returns c =
    sym (ap (λ rs. all_distinct (trades rs)) (sym (take_all c.loop-row.row-index c.args.moves.now c.loop-row-test.false)) ∙ c.loop-row.invariant.own)
