use Rattle.brk_view_theorems.proofs.KeyedTold.{calls_told}
use Rattle.brk_view_theorems.proofs.Told.{replies_told}
use Rattle.brk_view_theorems.proofs.replies.explanations_print_reply_figures.Goals as goal

pub returns : goal.returns
returns c = record {
  result = replies_told;
  called = calls_told;
}
