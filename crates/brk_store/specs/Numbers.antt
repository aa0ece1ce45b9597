-- The totals in the row of a broker.
use Rattle.std.specs.Prelude.{◌≡◌, Option, Some, None, pos}
use Rattle.brk_model.specs.Tables.{BrokerRow}
use Rattle.brk_trade_rows.specs.declared.broker_totals.BrokerTotals.{BrokerTotals}

-- `Some n`: number of trades and commissions, in cents, of the broker's row. `None`: it has no row.
abbrev pub AreBrokerTotals : Option BrokerTotals → Option BrokerRow → Type 0
AreBrokerTotals None row = row ≡ None
AreBrokerTotals (Some n) row = (r : BrokerRow) × (row ≡ Some r) × (pos n.trades ≡ r.trades) × (n.commissions ≡ r.commissions)
