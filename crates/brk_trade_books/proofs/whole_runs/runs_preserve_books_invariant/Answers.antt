use Rattle.brk_model.specs.Base.{empty_base}
use Rattle.brk_trade_books.proofs.RunKeeping.{books_command, run_books}
use Rattle.brk_trade_books.proofs.Steps.{empty_books}
use Rattle.brk_trade_books.proofs.whole_runs.runs_preserve_books_invariant.Goals as goal

pub returns : goal.returns
returns c = record {
  command = books_command;
  run = run_books;
  first = λ calls outcomes after r. run_books empty_base calls outcomes after empty_books r;
}
