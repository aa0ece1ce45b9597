use Rattle.brk_view_theorems.proofs.BalanceSums.{balances_as_told}
use Rattle.brk_view_theorems.proofs.PostedRows.{account_as_told}
use Rattle.brk_view_theorems.proofs.BalanceStays.{stays_after}
use Rattle.brk_view_theorems.proofs.balances.printed_balances_match_the_base.Goals as goal

pub returns : goal.returns
returns c = record {
  account = account_as_told;
  trade = balances_as_told;
  stays = stays_after;
}
