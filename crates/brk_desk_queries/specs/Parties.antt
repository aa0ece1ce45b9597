-- The parties of an account, as they were read.
use Rattle.std.specs.Prelude.{◌≡◌, ◌==◌, Some, find}
use Rattle.std.specs.Global.{Vec}
use Rattle.brk_model.specs.Records.{Customer}
use Rattle.brk_model.specs.StatusView.{broker_name_with_id}
use Rattle.brk_model.specs.Tables.{AccountRow, Tables}
use Rattle.brk_view_rows.specs.declared.statuses.AccountStatus.{AccountStatus}
use Rattle.brk_view_rows.specs.declared.statuses.TradeStatus.{TradeStatus}

-- `status` has the last and first name of the customer of the account `a`, who exists in the tables
-- `t`, the name of its broker (empty if it does not exist), and the trades `trades`.
abbrev pub IsAccountStatusWithTrades : AccountRow → Vec TradeStatus → AccountStatus → Tables → Type 0
IsAccountStatusWithTrades a trades status t =
    (c : Customer) × (Some c ≡ find (λ c. c.id == a.customer) t.customers) × (status.last_name ≡ c.last_name) × (status.first_name ≡ c.first_name)
    × (status.broker ≡ broker_name_with_id t a.broker) × (status.trades ≡ trades)
