use Rattle.std.proofs.Common.{◌≡◌, map, take}
use Rattle.std.specs.List.{filter_map}
use Rattle.brk_ref.specs.Rows.{abstract_trade_row}
use Rattle.brk_audit_sums.specs.PositionSums.{posting_with_owned_symbol, share_posting_of_trade}
use Rattle.brk_audit_sums.proofs.summaries.share_postings.Given as goal

abbrev pub invariant-loop-trade : goal.invariant-loop-trade
invariant-loop-trade l = map posting_with_owned_symbol l.all.items ≡ filter_map (λ r. share_posting_of_trade (abstract_trade_row r)) (take l.trade-index l.trades)
