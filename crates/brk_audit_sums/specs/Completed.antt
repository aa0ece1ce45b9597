-- The completed trades and the pending trades, by the status of their own rows.
use Rattle.std.specs.Prelude.{Bool}
use Rattle.brk_money.specs.Kinds.{is_same_trade_status}
use Rattle.brk_money.specs.declared.status.Status.TheVariants.{Completed, Pending}
use Rattle.brk_model.specs.Tables.{TradeRow}

-- True if the status in the row `r` of TRADE is `Completed`.
abbrev pub is_completed_trade_row : TradeRow → Bool
is_completed_trade_row r = is_same_trade_status r.status Completed

-- True if the status in the row `r` of TRADE is `Pending`.
abbrev pub is_pending_trade_row : TradeRow → Bool
is_pending_trade_row r = is_same_trade_status r.status Pending
