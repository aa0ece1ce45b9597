-- Written by tools/generate/tables.py: the names of a table and of its columns do not depend on its tree.
use Rattle.std.proofs.Common.{◌≡◌, ℕ, refl}
use Rattle.brk_tables_schema.specs.Desk.{DeskTable, TheDesk, KeptRows, Brokers, Customers, Accounts, Permissions, Securities, LastTrades, Charges, Bands}
use Rattle.brk_tables_schema.specs.Desk.{TaxRates, CustomerTaxes, Trades, TradeHistory, Requests, Holdings, Summaries, HoldingHistory, Settlements, CashRows}
use Rattle.brk_tables_schema.specs.Desk.{CashMoves, SettleRules, table_definition_at_tree}
use Rattle.brk_tables_scan.specs.Schemas.{table_and_column_names}

pub same_name_at : (w : DeskTable) (i j : ℕ) → (table_definition_at_tree w i).name ≡ (table_definition_at_tree w j).name
same_name_at TheDesk i j = refl
same_name_at KeptRows i j = refl
same_name_at Brokers i j = refl
same_name_at Customers i j = refl
same_name_at Accounts i j = refl
same_name_at Permissions i j = refl
same_name_at Securities i j = refl
same_name_at LastTrades i j = refl
same_name_at Charges i j = refl
same_name_at Bands i j = refl
same_name_at TaxRates i j = refl
same_name_at CustomerTaxes i j = refl
same_name_at Trades i j = refl
same_name_at TradeHistory i j = refl
same_name_at Requests i j = refl
same_name_at Holdings i j = refl
same_name_at Summaries i j = refl
same_name_at HoldingHistory i j = refl
same_name_at Settlements i j = refl
same_name_at CashRows i j = refl
same_name_at CashMoves i j = refl
same_name_at SettleRules i j = refl

pub names_alike : (w : DeskTable) (m n : ℕ) → table_and_column_names (table_definition_at_tree w m) ≡ table_and_column_names (table_definition_at_tree w n)
names_alike TheDesk m n = refl
names_alike KeptRows m n = refl
names_alike Brokers m n = refl
names_alike Customers m n = refl
names_alike Accounts m n = refl
names_alike Permissions m n = refl
names_alike Securities m n = refl
names_alike LastTrades m n = refl
names_alike Charges m n = refl
names_alike Bands m n = refl
names_alike TaxRates m n = refl
names_alike CustomerTaxes m n = refl
names_alike Trades m n = refl
names_alike TradeHistory m n = refl
names_alike Requests m n = refl
names_alike Holdings m n = refl
names_alike Summaries m n = refl
names_alike HoldingHistory m n = refl
names_alike Settlements m n = refl
names_alike CashRows m n = refl
names_alike CashMoves m n = refl
names_alike SettleRules m n = refl
