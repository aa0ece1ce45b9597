-- Written by tools/generate/tables.py: the record that a row of each table encodes.
use Rattle.std.proofs.Common.{◌≡◌, ℕ, refl}
use Rattle.sqlite_value.specs.Order.{Row}
use Rattle.brk_tables_schema.specs.Desk.{RecordOfTable, DeskTable, encoded_row, table_definition_at_tree, TheDesk, KeptRows, Brokers, Customers, Accounts}
use Rattle.brk_tables_schema.specs.Desk.{Permissions, Securities, LastTrades, Charges, Bands, TaxRates, CustomerTaxes, Trades, TradeHistory, Requests, Holdings}
use Rattle.brk_tables_schema.specs.Desk.{Summaries, HoldingHistory, Settlements, CashRows, CashMoves, SettleRules}
use Rattle.brk_tables_schema.proofs.Back.{desk_back, desk_is_back, kept_back, kept_is_back, broker_back, broker_is_back, customer_back, customer_is_back}
use Rattle.brk_tables_schema.proofs.Back.{account_back, account_is_back, permission_back, permission_is_back, security_back, security_is_back, charge_back}
use Rattle.brk_tables_schema.proofs.Back.{charge_is_back, band_back, band_is_back, tax_rate_back, tax_rate_is_back, customer_tax_back, customer_tax_is_back}
use Rattle.brk_tables_schema.proofs.Back.{move_back, move_is_back, rule_back, rule_is_back}
use Rattle.brk_tables_schema.proofs.TradingBack.{last_trade_back, last_trade_is_back, trade_back, trade_is_back, history_back, history_is_back, request_back}
use Rattle.brk_tables_schema.proofs.TradingBack.{request_is_back, holding_back, holding_is_back, summary_back, summary_is_back, holding_history_back}
use Rattle.brk_tables_schema.proofs.TradingBack.{holding_history_is_back, settlement_back, settlement_is_back, cash_back, cash_is_back}

-- The record that a row of a table encodes.
pub decode : (w : DeskTable) → Row → RecordOfTable w
decode TheDesk = desk_back
decode KeptRows = kept_back
decode Brokers = broker_back
decode Customers = customer_back
decode Accounts = account_back
decode Permissions = permission_back
decode Securities = security_back
decode LastTrades = last_trade_back
decode Charges = charge_back
decode Bands = band_back
decode TaxRates = tax_rate_back
decode CustomerTaxes = customer_tax_back
decode Trades = trade_back
decode TradeHistory = history_back
decode Requests = request_back
decode Holdings = holding_back
decode Summaries = summary_back
decode HoldingHistory = holding_history_back
decode Settlements = settlement_back
decode CashRows = cash_back
decode CashMoves = move_back
decode SettleRules = rule_back

-- Decoding the row that encodes a record returns this record.
pub decodes : (w : DeskTable) (x : RecordOfTable w) → decode w (encoded_row w x) ≡ x
unfolding decode
decodes TheDesk x = desk_is_back x
decodes KeptRows x = kept_is_back x
decodes Brokers x = broker_is_back x
decodes Customers x = customer_is_back x
decodes Accounts x = account_is_back x
decodes Permissions x = permission_is_back x
decodes Securities x = security_is_back x
decodes LastTrades x = last_trade_is_back x
decodes Charges x = charge_is_back x
decodes Bands x = band_is_back x
decodes TaxRates x = tax_rate_is_back x
decodes CustomerTaxes x = customer_tax_is_back x
decodes Trades x = trade_is_back x
decodes TradeHistory x = history_is_back x
decodes Requests x = request_is_back x
decodes Holdings x = holding_is_back x
decodes Summaries x = summary_is_back x
decodes HoldingHistory x = holding_history_is_back x
decodes Settlements x = settlement_is_back x
decodes CashRows x = cash_is_back x
decodes CashMoves x = move_is_back x
decodes SettleRules x = rule_is_back x

-- The name of a table does not depend on its tree.
pub named_alike : (w : DeskTable) (m n : ℕ) → (table_definition_at_tree w m).name ≡ (table_definition_at_tree w n).name
named_alike TheDesk m n = refl
named_alike KeptRows m n = refl
named_alike Brokers m n = refl
named_alike Customers m n = refl
named_alike Accounts m n = refl
named_alike Permissions m n = refl
named_alike Securities m n = refl
named_alike LastTrades m n = refl
named_alike Charges m n = refl
named_alike Bands m n = refl
named_alike TaxRates m n = refl
named_alike CustomerTaxes m n = refl
named_alike Trades m n = refl
named_alike TradeHistory m n = refl
named_alike Requests m n = refl
named_alike Holdings m n = refl
named_alike Summaries m n = refl
named_alike HoldingHistory m n = refl
named_alike Settlements m n = refl
named_alike CashRows m n = refl
named_alike CashMoves m n = refl
named_alike SettleRules m n = refl
