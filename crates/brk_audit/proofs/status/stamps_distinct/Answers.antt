use Rattle.std.proofs.Common.{sym, ◌∙◌}
use Rattle.std.specs.Ordering.{nat_cmp}
use Rattle.std.specs.BTreeSet.{contains}
use Rattle.brk_audit.proofs.Walks.{apart_more, apart_moved, moved_told, not_apart, not_distinct_front, not_apart_moved, seen_more, seen_moved, told_stamps}
use Rattle.brk_audit.proofs.status.stamps_distinct.Goals as goal

pub returns-then-not-branch : goal.returns-then-not-branch
returns-then-not-branch c =
    let h = c.row-item.result in
    let no = sym c.in_ok-insert_completion_stamp.ensures.new ∙ c.if-not-branch.true in
    sym (not_distinct_front (told_stamps c.args.history.now) (moved_told c.args.moves.now)
    (not_apart c.args.history.now c.loop-row.row-index h (contains nat_cmp c.loop-row.seen h.stamp) c.loop-row-test.true c.row-item.is (c.loop-row.invariant.seen h.stamp) no))

pub loop-row-preserved : goal.loop-row-preserved
loop-row-preserved c =
    let h = c.row-item.result in
    let yes = sym c.in_ok-insert_completion_stamp.ensures.new ∙ c.if-not-branch.false in
    record {
      seen = λ q.
          seen_more c.args.history.now c.loop-row.row-index h q (contains nat_cmp c.loop-row.seen q) (contains nat_cmp c.insert_completion_stamp.new.seen q)
          c.loop-row-test.true c.row-item.is (c.loop-row.invariant.seen q) (c.in_ok-insert_completion_stamp.ensures.seen q);
      apart = apart_more c.args.history.now c.loop-row.row-index h (contains nat_cmp c.loop-row.seen h.stamp)
          c.loop-row-test.true c.row-item.is (c.loop-row.invariant.seen h.stamp) yes c.loop-row.invariant.apart;
    }

pub returns-then-not-branch-2 : goal.returns-then-not-branch-2
returns-then-not-branch-2 c =
    let r = c.movement-item.result in
    let no = sym c.in_ok-insert_movement_stamp.ensures.new ∙ c.if-not-branch-2.true in
    sym (not_apart_moved (told_stamps c.args.history.now) c.args.moves.now c.loop-movement.movement-index r (contains nat_cmp c.loop-movement.seen r.stamp)
    c.loop-movement-test.true c.movement-item.is (c.loop-movement.invariant.seen r.stamp) no)

pub loop-movement-preserved : goal.loop-movement-preserved
loop-movement-preserved c =
    let r = c.movement-item.result in
    let yes = sym c.in_ok-insert_movement_stamp.ensures.new ∙ c.if-not-branch-2.false in
    record {
      seen = λ q.
          seen_moved (told_stamps c.args.history.now) c.args.moves.now c.loop-movement.movement-index r q (contains nat_cmp c.loop-movement.seen q)
          (contains nat_cmp c.insert_movement_stamp.new.seen q)
          c.loop-movement-test.true c.movement-item.is (c.loop-movement.invariant.seen q) (c.in_ok-insert_movement_stamp.ensures.seen q);
      apart = apart_moved (told_stamps c.args.history.now) c.args.moves.now c.loop-movement.movement-index r (contains nat_cmp c.loop-movement.seen r.stamp)
          c.loop-movement-test.true c.movement-item.is (c.loop-movement.invariant.seen r.stamp) yes c.loop-movement.invariant.apart;
    }
