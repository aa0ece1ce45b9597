use Rattle.std.proofs.Common.{◌∙◌, ap, map}
use Rattle.std.proofs.lemmas.List.{take_all}
use Rattle.brk_ref.specs.Rows.{abstract_summary_row}
use Rattle.brk_audit_sums.specs.PositionSums.{posting_with_owned_symbol, share_posting_of_summary}
use Rattle.brk_audit_sums.proofs.Passed.{pushed_more}
use Rattle.brk_audit_sums.proofs.summaries.summary_postings.Goals as goal

pub loop-row-preserved : goal.loop-row-preserved
loop-row-preserved c =
    pushed_more posting_with_owned_symbol (λ r. share_posting_of_summary (abstract_summary_row r)) c.args.rows.now c.loop-row.row-index c.row-item.result c.loop-row.all.items _
    c.summary_posting.result c.loop-row-test.true c.row-item.is c.loop-row.invariant c.summary_posting.ensures c.in_ok-push.ensures.items

pub returns : goal.returns
returns c =
    c.loop-row.invariant ∙ ap (map (λ r. share_posting_of_summary (abstract_summary_row r))) (take_all c.loop-row.row-index c.args.rows.now c.loop-row-test.false)
