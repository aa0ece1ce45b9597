use Rattle.std.proofs.Common.{◌≡◌, drop, map}
use Rattle.brk_ref.specs.Rows.{abstract_history_row, abstract_trade_row}
use Rattle.brk_audit.specs.Statuses.{all_histories_are_valid}
use Rattle.brk_audit.proofs.status.all_histories_are_valid.Given as goal

abbrev pub invariant-loop-trade : goal.invariant-loop-trade
invariant-loop-trade l =
    all_histories_are_valid (map abstract_trade_row (drop l.trade-index l.trades)) (map abstract_history_row l.rest)
    ≡ all_histories_are_valid (map abstract_trade_row l.trades) (map abstract_history_row l.history)
