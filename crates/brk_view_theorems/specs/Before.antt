-- The trades and the shares before a trade was completed.
use Rattle.std.specs.Prelude.{ℕ, nat_lt, List, filter}
use Rattle.brk_model.specs.Records.{Trade}
use Rattle.brk_model.specs.Base.{Base, completed_trades, last_status_stamp_of_trade}
use Rattle.brk_model.specs.Derived.{shares_of_position}
use Rattle.brk_model.specs.Shares.{Share}

-- The trades of the base that were completed before `stamp`, in the sequence of the base.
abbrev pub trades_completed_before_stamp : Base → ℕ → List Trade
trades_completed_before_stamp base stamp = filter (λ u. nat_lt (last_status_stamp_of_trade u) stamp) (completed_trades base)

-- The open shares of the trade's account in its symbol after the trades that were completed before
-- its last status change, in the sequence in which they were opened.
abbrev pub shares_before_trade : Base → Trade → List Share
shares_before_trade base t = shares_of_position (trades_completed_before_stamp base (last_status_stamp_of_trade t)) t.account t.symbol
