-- Written by tools/generate/tables.py: the result of preparing a statement on a table.
use Rattle.std.proofs.Common.{◌≡◌, ℕ, List, codes, Bool, refl}
use Rattle.sqlite_schema.specs.declared.schema.Schema.{Schema}
use Rattle.sqlite.specs.Listing.{listing_schema}
use Rattle.sqlite_tied.specs.Compute.{everything}
use Rattle.brk_tables_sql.specs.Desk.{IsCompilationOutcome}
use Rattle.brk_tables_sql.proofs.Probe.{probed}
use Rattle.brk_tables_sql.proofs.Texts.{read}
use Rattle.brk_tables_schema.specs.Desk.{DeskTable, TheDesk, KeptRows, Brokers, Customers, Accounts, Permissions, Securities, LastTrades, Charges, Bands}
use Rattle.brk_tables_schema.specs.Desk.{TaxRates, CustomerTaxes, Trades, TradeHistory, Requests, Holdings, Summaries, HoldingHistory, Settlements, CashRows}
use Rattle.brk_tables_schema.specs.Desk.{CashMoves, SettleRules}
use Rattle.brk_tables_scan.specs.Present.{has_table_named}
use Rattle.brk_tables_schema.specs.Texts.{existence_probe_text}

abbrev desk_row_probe : List ℕ
desk_row_probe = existence_probe_text TheDesk

desk_row_probed : (schema : Schema) (has : Bool) → IsCompilationOutcome desk_row_probe has schema → has ≡ has_table_named schema TheDesk
unfolding everything listing_schema
desk_row_probed = probed desk_row_probe (read desk_row_probe) (codes "DESK") refl refl refl refl

abbrev kept_probe : List ℕ
kept_probe = existence_probe_text KeptRows

kept_probed : (schema : Schema) (has : Bool) → IsCompilationOutcome kept_probe has schema → has ≡ has_table_named schema KeptRows
unfolding everything listing_schema
kept_probed = probed kept_probe (read kept_probe) (codes "KEPT") refl refl refl refl

abbrev broker_probe : List ℕ
broker_probe = existence_probe_text Brokers

broker_probed : (schema : Schema) (has : Bool) → IsCompilationOutcome broker_probe has schema → has ≡ has_table_named schema Brokers
unfolding everything listing_schema
broker_probed = probed broker_probe (read broker_probe) (codes "BROKER") refl refl refl refl

abbrev customer_probe : List ℕ
customer_probe = existence_probe_text Customers

customer_probed : (schema : Schema) (has : Bool) → IsCompilationOutcome customer_probe has schema → has ≡ has_table_named schema Customers
unfolding everything listing_schema
customer_probed = probed customer_probe (read customer_probe) (codes "CUSTOMER") refl refl refl refl

abbrev account_probe : List ℕ
account_probe = existence_probe_text Accounts

account_probed : (schema : Schema) (has : Bool) → IsCompilationOutcome account_probe has schema → has ≡ has_table_named schema Accounts
unfolding everything listing_schema
account_probed = probed account_probe (read account_probe) (codes "CUSTOMER_ACCOUNT") refl refl refl refl

abbrev permission_probe : List ℕ
permission_probe = existence_probe_text Permissions

permission_probed : (schema : Schema) (has : Bool) → IsCompilationOutcome permission_probe has schema → has ≡ has_table_named schema Permissions
unfolding everything listing_schema
permission_probed = probed permission_probe (read permission_probe) (codes "ACCOUNT_PERMISSION") refl refl refl refl

abbrev security_probe : List ℕ
security_probe = existence_probe_text Securities

security_probed : (schema : Schema) (has : Bool) → IsCompilationOutcome security_probe has schema → has ≡ has_table_named schema Securities
unfolding everything listing_schema
security_probed = probed security_probe (read security_probe) (codes "SECURITY") refl refl refl refl

abbrev last_trade_probe : List ℕ
last_trade_probe = existence_probe_text LastTrades

last_trade_probed : (schema : Schema) (has : Bool) → IsCompilationOutcome last_trade_probe has schema → has ≡ has_table_named schema LastTrades
unfolding everything listing_schema
last_trade_probed = probed last_trade_probe (read last_trade_probe) (codes "LAST_TRADE") refl refl refl refl

abbrev charge_probe : List ℕ
charge_probe = existence_probe_text Charges

charge_probed : (schema : Schema) (has : Bool) → IsCompilationOutcome charge_probe has schema → has ≡ has_table_named schema Charges
unfolding everything listing_schema
charge_probed = probed charge_probe (read charge_probe) (codes "CHARGE") refl refl refl refl

abbrev band_probe : List ℕ
band_probe = existence_probe_text Bands

band_probed : (schema : Schema) (has : Bool) → IsCompilationOutcome band_probe has schema → has ≡ has_table_named schema Bands
unfolding everything listing_schema
band_probed = probed band_probe (read band_probe) (codes "COMMISSION_RATE") refl refl refl refl

abbrev tax_rate_probe : List ℕ
tax_rate_probe = existence_probe_text TaxRates

tax_rate_probed : (schema : Schema) (has : Bool) → IsCompilationOutcome tax_rate_probe has schema → has ≡ has_table_named schema TaxRates
unfolding everything listing_schema
tax_rate_probed = probed tax_rate_probe (read tax_rate_probe) (codes "TAXRATE") refl refl refl refl

abbrev customer_tax_probe : List ℕ
customer_tax_probe = existence_probe_text CustomerTaxes

customer_tax_probed : (schema : Schema) (has : Bool) → IsCompilationOutcome customer_tax_probe has schema → has ≡ has_table_named schema CustomerTaxes
unfolding everything listing_schema
customer_tax_probed = probed customer_tax_probe (read customer_tax_probe) (codes "CUSTOMER_TAXRATE") refl refl refl refl

abbrev trade_probe : List ℕ
trade_probe = existence_probe_text Trades

trade_probed : (schema : Schema) (has : Bool) → IsCompilationOutcome trade_probe has schema → has ≡ has_table_named schema Trades
unfolding everything listing_schema
trade_probed = probed trade_probe (read trade_probe) (codes "TRADE") refl refl refl refl

abbrev history_probe : List ℕ
history_probe = existence_probe_text TradeHistory

history_probed : (schema : Schema) (has : Bool) → IsCompilationOutcome history_probe has schema → has ≡ has_table_named schema TradeHistory
unfolding everything listing_schema
history_probed = probed history_probe (read history_probe) (codes "TRADE_HISTORY") refl refl refl refl

abbrev request_probe : List ℕ
request_probe = existence_probe_text Requests

request_probed : (schema : Schema) (has : Bool) → IsCompilationOutcome request_probe has schema → has ≡ has_table_named schema Requests
unfolding everything listing_schema
request_probed = probed request_probe (read request_probe) (codes "TRADE_REQUEST") refl refl refl refl

abbrev holding_probe : List ℕ
holding_probe = existence_probe_text Holdings

holding_probed : (schema : Schema) (has : Bool) → IsCompilationOutcome holding_probe has schema → has ≡ has_table_named schema Holdings
unfolding everything listing_schema
holding_probed = probed holding_probe (read holding_probe) (codes "HOLDING") refl refl refl refl

abbrev summary_probe : List ℕ
summary_probe = existence_probe_text Summaries

summary_probed : (schema : Schema) (has : Bool) → IsCompilationOutcome summary_probe has schema → has ≡ has_table_named schema Summaries
unfolding everything listing_schema
summary_probed = probed summary_probe (read summary_probe) (codes "HOLDING_SUMMARY") refl refl refl refl

abbrev holding_history_probe : List ℕ
holding_history_probe = existence_probe_text HoldingHistory

holding_history_probed : (schema : Schema) (has : Bool) → IsCompilationOutcome holding_history_probe has schema → has ≡ has_table_named schema HoldingHistory
unfolding everything listing_schema
holding_history_probed = probed holding_history_probe (read holding_history_probe) (codes "HOLDING_HISTORY") refl refl refl refl

abbrev settlement_probe : List ℕ
settlement_probe = existence_probe_text Settlements

settlement_probed : (schema : Schema) (has : Bool) → IsCompilationOutcome settlement_probe has schema → has ≡ has_table_named schema Settlements
unfolding everything listing_schema
settlement_probed = probed settlement_probe (read settlement_probe) (codes "SETTLEMENT") refl refl refl refl

abbrev cash_probe : List ℕ
cash_probe = existence_probe_text CashRows

cash_probed : (schema : Schema) (has : Bool) → IsCompilationOutcome cash_probe has schema → has ≡ has_table_named schema CashRows
unfolding everything listing_schema
cash_probed = probed cash_probe (read cash_probe) (codes "CASH_TRANSACTION") refl refl refl refl

abbrev move_probe : List ℕ
move_probe = existence_probe_text CashMoves

move_probed : (schema : Schema) (has : Bool) → IsCompilationOutcome move_probe has schema → has ≡ has_table_named schema CashMoves
unfolding everything listing_schema
move_probed = probed move_probe (read move_probe) (codes "CASH_MOVE") refl refl refl refl

abbrev rule_probe : List ℕ
rule_probe = existence_probe_text SettleRules

rule_probed : (schema : Schema) (has : Bool) → IsCompilationOutcome rule_probe has schema → has ≡ has_table_named schema SettleRules
unfolding everything listing_schema
rule_probed = probed rule_probe (read rule_probe) (codes "SETTLE_RULE") refl refl refl refl

pub probed_of : (w : DeskTable) (schema : Schema) (has : Bool) → IsCompilationOutcome (existence_probe_text w) has schema → has ≡ has_table_named schema w
probed_of TheDesk = desk_row_probed
probed_of KeptRows = kept_probed
probed_of Brokers = broker_probed
probed_of Customers = customer_probed
probed_of Accounts = account_probed
probed_of Permissions = permission_probed
probed_of Securities = security_probed
probed_of LastTrades = last_trade_probed
probed_of Charges = charge_probed
probed_of Bands = band_probed
probed_of TaxRates = tax_rate_probed
probed_of CustomerTaxes = customer_tax_probed
probed_of Trades = trade_probed
probed_of TradeHistory = history_probed
probed_of Requests = request_probed
probed_of Holdings = holding_probed
probed_of Summaries = summary_probed
probed_of HoldingHistory = holding_history_probed
probed_of Settlements = settlement_probed
probed_of CashRows = cash_probed
probed_of CashMoves = move_probed
probed_of SettleRules = rule_probed
