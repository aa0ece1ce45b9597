use Rattle.std.proofs.Common.{arith, refl}
use Rattle.brk_ref.specs.Rows.{abstract_cash_row}
use Rattle.brk_model.specs.Tables.{Tables}
use Rattle.brk_store.specs.Walked.{cash_rows_in_span}
use Rattle.brk_explain_reads.specs.Found.{IsCashSumBeforeStamp}
use Rattle.brk_explain_reads.proofs.Walked.{earlier_told, walk_failed, walk_told}
use Rattle.brk_explain_reads.proofs.cash.cash_sum_before.Goals as goal

pub returns-in-Ok : goal.returns-in-Ok
returns-in-Ok g c =
    let start = c.nearest.result in
    let earlier = c.visit_cash_rows.new.visitor in
    walk_told g.S.Store c.args.store.now c.visit_cash_rows.new.self abstract_cash_row (cash_rows_in_span c.args.account start c.args.until) _ _ _ earlier
    c.in-Ok.field-0 earlier.sum (λ sum (t : Tables). IsCashSumBeforeStamp t c.args.account c.args.until sum)
    (λ t taken folds all. earlier_told t c.args.account start c.args.until _ earlier taken (c.nearest.ensures.below (omega arith)) refl refl c.new.ensures folds all)
    (rw c.in-Ok.is at c.visit_cash_rows.ensures.walked)

pub returns-in-Err : goal.returns-in-Err
returns-in-Err g c =
    walk_failed g.S.Store c.args.store.now c.visit_cash_rows.new.self abstract_cash_row (cash_rows_in_span c.args.account c.nearest.result c.args.until) _ _ _
    c.visit_cash_rows.new.visitor c.in-Err.stop c.fault_of_walk.result (λ sum (t : Tables). IsCashSumBeforeStamp t c.args.account c.args.until sum)
    (rw c.in-Err.is at c.visit_cash_rows.ensures.walked)
