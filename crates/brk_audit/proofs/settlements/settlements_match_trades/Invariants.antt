use Rattle.std.proofs.Common.{drop, map}
use Rattle.brk_ref.specs.Rows.{abstract_settlement_row}
use Rattle.brk_audit_sums.specs.AccountTerms.{account_tax_status_in_terms}
use Rattle.brk_audit_sums.specs.Completed.{is_completed_trade_row}
use Rattle.brk_audit_sums.specs.Settling.{settlement_figures_of_row, settlement_figures_of_trade}
use Rattle.brk_audit.proofs.Beside.{Walked}
use Rattle.brk_audit.proofs.settlements.settlements_match_trades.Given as goal

abbrev pub invariant-loop-trade : goal.invariant-loop-trade
invariant-loop-trade l =
    Walked settlement_figures_of_row (settlement_figures_of_trade l.rule (account_tax_status_in_terms l.terms)) is_completed_trade_row
    (map abstract_settlement_row l.settlements) l.trades (map abstract_settlement_row l.rest) (drop l.trade-index l.trades)
