use Rattle.std.proofs.Common.{drop, map}
use Rattle.brk_ref.specs.Rows.{abstract_old_cash_row}
use Rattle.brk_audit_sums.specs.AccountTerms.{account_tax_status_in_terms}
use Rattle.brk_audit_sums.specs.Settling.{is_completed_cash_trade, cash_transaction_figures_of_trade, cash_transaction_figures_of_row}
use Rattle.brk_audit.proofs.Beside.{Walked}
use Rattle.brk_audit.proofs.cash.cash_transactions_match_trades.Given as goal

abbrev pub invariant-loop-trade : goal.invariant-loop-trade
invariant-loop-trade l =
    Walked cash_transaction_figures_of_row (cash_transaction_figures_of_trade (account_tax_status_in_terms l.terms)) is_completed_cash_trade (map abstract_old_cash_row l.cash) l.trades
    (map abstract_old_cash_row l.rest) (drop l.trade-index l.trades)
