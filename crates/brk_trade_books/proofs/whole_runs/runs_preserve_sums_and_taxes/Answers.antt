use Rattle.brk_model.specs.Base.{empty_base}
use Rattle.brk_trade_books.proofs.RunSums.{run_adds_up}
use Rattle.brk_trade_books.proofs.Steps.{empty_books}
use Rattle.brk_trade_books.proofs.whole_runs.runs_preserve_sums_and_taxes.Goals as goal

pub returns : goal.returns
returns c = record {
  run = λ base after calls outcomes books r. run_adds_up base calls outcomes after books r;
  first = λ after calls outcomes r. run_adds_up empty_base calls outcomes after empty_books r;
}
