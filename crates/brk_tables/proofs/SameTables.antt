-- Written by tools/generate/tables.py: tables with the same lists of rows are the same.
use Rattle.std.proofs.Common.{◌≡◌}
use Rattle.brk_model.specs.Schemas.{Schema}
use Rattle.brk_model.specs.Tables.{Tables}
use Rattle.brk_tables_schema.specs.Desk.{DeskTable, rows_of_table_in_schema, TheDesk, KeptRows, Brokers, Customers, Accounts, Permissions, Securities}
use Rattle.brk_tables_schema.specs.Desk.{LastTrades, Charges, Bands, TaxRates, CustomerTaxes, Trades, TradeHistory, Requests, Holdings, Summaries}
use Rattle.brk_tables_schema.specs.Desk.{HoldingHistory, Settlements, CashRows, CashMoves, SettleRules}
use Rattle.brk_tables.proofs.Values.{last_alike, rule_alike}

pub same_tables : (s : Schema) (t u : Tables) → ((w : DeskTable) → rows_of_table_in_schema s w t ≡ rows_of_table_in_schema s w u) → t ≡ u
same_tables s t u each = λ i. record {
  last = last_alike s s t u (each TheDesk) i;
  kept = each KeptRows i;
  brokers = each Brokers i;
  customers = each Customers i;
  accounts = each Accounts i;
  permissions = each Permissions i;
  securities = each Securities i;
  last_trades = each LastTrades i;
  charges = each Charges i;
  bands = each Bands i;
  tax_rates = each TaxRates i;
  customer_taxes = each CustomerTaxes i;
  trades = each Trades i;
  history = each TradeHistory i;
  requests = each Requests i;
  holdings = each Holdings i;
  summaries = each Summaries i;
  holding_history = each HoldingHistory i;
  settlements = each Settlements i;
  cash = each CashRows i;
  moves = each CashMoves i;
  rule = rule_alike s s t u (each SettleRules) i;
}
