use Rattle.std.proofs.Common.{◌∙◌, ap}
use Rattle.brk_ref.specs.Rows.{abstract_cash_row}
use Rattle.brk_audit_sums.specs.Sums.{movement_posting_of_row}
use Rattle.brk_audit_sums.proofs.Postings.{none_added, some_added}
use Rattle.brk_audit_sums.proofs.balances.append_movement_postings.Goals as goal
use Rattle.brk_audit_sums.proofs.balances.append_movement_postings.Goals.{in-Some+in_ok-push, in_default}

pub loop-row-preserved : goal.loop-row-preserved
loop-row-preserved c = elim c.match-movement_posting.branch [
  | in-Some+in_ok-push w ↦
      some_added (λ r. movement_posting_of_row (abstract_cash_row r)) c.args.moves.now c.loop-row.row-index c.row-item.result c.args.all.now.items
      c.loop-row.all.items c.match-movement_posting.all.items w.in-Some.posting
      c.loop-row-test.true c.row-item.is c.loop-row.invariant w.in-Some.ensures (ap (λ v. v.items) w.all-is ∙ w.in_ok-push.ensures.items)
  | in_default w ↦
      ap (λ v. v.items) w.all-is
      ∙ none_added (λ r. movement_posting_of_row (abstract_cash_row r)) c.args.moves.now c.loop-row.row-index c.row-item.result c.args.all.now.items
      c.loop-row.all.items c.loop-row-test.true c.row-item.is
      c.loop-row.invariant w.in_default.ensures
]
