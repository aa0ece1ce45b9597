use Rattle.std.proofs.Common.{drop, map}
use Rattle.brk_ref.specs.Rows.{abstract_request_row}
use Rattle.brk_audit_sums.specs.AccountTerms.{account_broker_in_terms}
use Rattle.brk_audit_sums.specs.Completed.{is_pending_trade_row}
use Rattle.brk_audit_sums.specs.Settling.{request_row_of_trade}
use Rattle.brk_audit.proofs.Beside.{Walked}
use Rattle.brk_audit.proofs.requests.requests_match_trades.Given as goal

abbrev pub invariant-loop-trade : goal.invariant-loop-trade
invariant-loop-trade l =
    Walked (λ q. q) (request_row_of_trade (account_broker_in_terms l.terms)) is_pending_trade_row (map abstract_request_row l.requests) l.trades
    (map abstract_request_row l.rest) (drop l.trade-index l.trades)
