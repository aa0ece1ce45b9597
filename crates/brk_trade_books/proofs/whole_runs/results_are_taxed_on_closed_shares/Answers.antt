use Rattle.brk_trade_books.proofs.RunLaws.{result_taxed, run_taxes, taxed_row}
use Rattle.brk_trade_books.proofs.RunSums.{taxed_by_call, taxes_stand}
use Rattle.brk_trade_books.proofs.whole_runs.results_are_taxed_on_closed_shares.Goals as goal

pub returns : goal.returns
returns c = record {
  taxed = result_taxed;
  called = taxed_by_call;
  preserved = run_taxes;
  row = taxed_row;
  run = λ base after calls outcomes. taxes_stand base calls outcomes after;
}
