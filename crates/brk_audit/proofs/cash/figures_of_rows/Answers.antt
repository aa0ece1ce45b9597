use Rattle.std.proofs.Common.{◌∙◌, ap, map}
use Rattle.brk_ref.specs.Rows.{abstract_cash_row}
use Rattle.brk_audit.specs.CashMoveFigures.{abstract_posted_figures}
use Rattle.brk_audit_sums.specs.Settling.{posted_figures_of_row}
use Rattle.brk_audit_sums.proofs.Postings.{none_more, some_more}
use Rattle.brk_audit.proofs.cash.figures_of_rows.Goals as goal
use Rattle.brk_audit.proofs.cash.figures_of_rows.Goals.{in-Some+in_ok-push, in_default}

pub loop-row-preserved : goal.loop-row-preserved
loop-row-preserved c = elim c.match-figures_of_row.branch [
  | in-Some+in_ok-push w ↦
      some_more abstract_posted_figures (λ r. posted_figures_of_row (abstract_cash_row r)) c.args.moves.now c.loop-row.row-index c.row-item.result
      c.loop-row.all.items c.match-figures_of_row.all.items w.in-Some.posted
      c.loop-row-test.true c.row-item.is c.loop-row.invariant w.in-Some.ensures (ap (λ v. v.items) w.all-is ∙ w.in_ok-push.ensures.items)
  | in_default w ↦
      ap (λ v. map abstract_posted_figures v.items) w.all-is
      ∙ none_more abstract_posted_figures (λ r. posted_figures_of_row (abstract_cash_row r)) c.args.moves.now c.loop-row.row-index c.row-item.result
      c.loop-row.all.items c.loop-row-test.true c.row-item.is
      c.loop-row.invariant w.in_default.ensures
]
