use Rattle.std.proofs.Common.{drop, map}
use Rattle.brk_audit_sums.specs.AccountTerms.{account_tax_status_in_terms}
use Rattle.brk_audit.specs.CashMoveFigures.{abstract_posted_figures}
use Rattle.brk_audit_sums.specs.Settling.{is_completed_cash_trade, posted_figures_of_trade}
use Rattle.brk_audit.proofs.Beside.{Walked}
use Rattle.brk_audit.proofs.cash.cash_moves_match_trades.Given as goal

abbrev pub invariant-loop-trade : goal.invariant-loop-trade
invariant-loop-trade l =
    Walked (λ p. p) (posted_figures_of_trade (account_tax_status_in_terms l.terms)) is_completed_cash_trade (map abstract_posted_figures l.rows) l.trades
    (map abstract_posted_figures l.rest) (drop l.trade-index l.trades)
