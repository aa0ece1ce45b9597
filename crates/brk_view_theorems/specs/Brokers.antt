-- The commissions that the explanation of a broker prints.
use Rattle.std.specs.Prelude.{◌≡◌, length, pos}
use Rattle.brk_model.specs.Base.{Base}
use Rattle.brk_model.specs.Sheets.{sheets}
use Rattle.brk_model.specs.Tables.{BrokerRow}
use Rattle.brk_model_explain.specs.BrokerLines.{completed_trades_of_broker}
use Rattle.brk_model_explain.specs.Running.{running_totals}
use Rattle.brk_view_theorems.specs.Balances.{last_number_or_default}

-- The last printed running sum of the commissions of the broker's completed trades, 0 without any,
-- is the commission total in its row `b`, in cents, and their number is the trade count in `b`.
pub record PrintedBrokerMatchesTotals (base : Base) (b : BrokerRow) : Type 0 where
  pub commissions : last_number_or_default (pos 0) (running_totals (λ u. pos u.commission) (pos 0) (completed_trades_of_broker (sheets base) b.id))
      ≡ pos b.commissions
  pub trades : pos (length (completed_trades_of_broker (sheets base) b.id)) ≡ b.trades
