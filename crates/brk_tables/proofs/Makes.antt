-- Written by tools/generate/tables.py: the table that each text creates.
use Rattle.std.proofs.Common.{◌≡◌, ℕ, List, [], Ok, refl, inl, inr}
use Rattle.sqlite.specs.State.{State, Executes}
use Rattle.sqlite_tied.specs.Compute.{everything}
use Rattle.brk_tables_sql.specs.Desk.{CreatesTableOfShape}
use Rattle.brk_tables_sql.proofs.Texts.{read}
use Rattle.brk_tables_sql.proofs.Created.{makes}
use Rattle.brk_tables_sql.proofs.Founded.{Among}
use Rattle.brk_model.specs.Tables.{tables_without_rows}
use Rattle.brk_tables_schema.specs.Shapes.{desk_row_table, kept_table, broker_table, customer_table, account_table, permission_table, security_table}
use Rattle.brk_tables_schema.specs.Shapes.{last_trade_table, charge_table, band_table, tax_rate_table, customer_tax_table, trade_table, trade_history_table}
use Rattle.brk_tables_schema.specs.Shapes.{request_table, holding_table, summary_table, holding_history_table, settlement_table, cash_transaction_table}
use Rattle.brk_tables_schema.specs.Shapes.{cash_move_table, settle_rule_table}
use Rattle.brk_tables_schema.specs.Desk.{DeskTable, TheDesk, KeptRows, Brokers, Customers, Accounts, Permissions, Securities, LastTrades, Charges, Bands}
use Rattle.brk_tables_schema.specs.Desk.{TaxRates, CustomerTaxes, Trades, TradeHistory, Requests, Holdings, Summaries, HoldingHistory, Settlements, CashRows}
use Rattle.brk_tables_schema.specs.Desk.{CashMoves, SettleRules, table_definition_at_tree, all_tables}
use Rattle.brk_tables_schema.proofs.Wide.{Wide, wide, wide_list}
use Rattle.brk_tables_schema.specs.Texts.{create_table_text}

-- The tables without rows, DESK included.
abbrev pub bare : Wide
bare = record { rows = []; rules = []; tables = tables_without_rows }

abbrev desk_row_text : List ℕ
desk_row_text = create_table_text TheDesk

makes_desk_row : (old new : State) (count : ℕ) → Executes desk_row_text [] old new (Ok count) → CreatesTableOfShape old.now new.now desk_row_table
unfolding everything
makes_desk_row = makes desk_row_text desk_row_table refl (λ tree. refl) (λ tree. refl) refl (read desk_row_text) _ refl refl refl refl refl refl refl refl

abbrev kept_text : List ℕ
kept_text = create_table_text KeptRows

makes_kept : (old new : State) (count : ℕ) → Executes kept_text [] old new (Ok count) → CreatesTableOfShape old.now new.now kept_table
unfolding everything
makes_kept = makes kept_text kept_table refl (λ tree. refl) (λ tree. refl) refl (read kept_text) _ refl refl refl refl refl refl refl refl

abbrev broker_text : List ℕ
broker_text = create_table_text Brokers

makes_broker : (old new : State) (count : ℕ) → Executes broker_text [] old new (Ok count) → CreatesTableOfShape old.now new.now broker_table
unfolding everything
makes_broker = makes broker_text broker_table refl (λ tree. refl) (λ tree. refl) refl (read broker_text) _ refl refl refl refl refl refl refl refl

abbrev customer_text : List ℕ
customer_text = create_table_text Customers

makes_customer : (old new : State) (count : ℕ) → Executes customer_text [] old new (Ok count) → CreatesTableOfShape old.now new.now customer_table
unfolding everything
makes_customer = makes customer_text customer_table refl (λ tree. refl) (λ tree. refl) refl (read customer_text) _ refl refl refl refl refl refl refl refl

abbrev account_text : List ℕ
account_text = create_table_text Accounts

makes_account : (old new : State) (count : ℕ) → Executes account_text [] old new (Ok count) → CreatesTableOfShape old.now new.now account_table
unfolding everything
makes_account = makes account_text account_table refl (λ tree. refl) (λ tree. refl) refl (read account_text) _ refl refl refl refl refl refl refl refl

abbrev permission_text : List ℕ
permission_text = create_table_text Permissions

makes_permission : (old new : State) (count : ℕ) → Executes permission_text [] old new (Ok count) → CreatesTableOfShape old.now new.now permission_table
unfolding everything
makes_permission = makes permission_text permission_table refl (λ tree. refl) (λ tree. refl) refl (read permission_text) _ refl refl refl refl refl refl refl refl

abbrev security_text : List ℕ
security_text = create_table_text Securities

makes_security : (old new : State) (count : ℕ) → Executes security_text [] old new (Ok count) → CreatesTableOfShape old.now new.now security_table
unfolding everything
makes_security = makes security_text security_table refl (λ tree. refl) (λ tree. refl) refl (read security_text) _ refl refl refl refl refl refl refl refl

abbrev last_trade_text : List ℕ
last_trade_text = create_table_text LastTrades

makes_last_trade : (old new : State) (count : ℕ) → Executes last_trade_text [] old new (Ok count) → CreatesTableOfShape old.now new.now last_trade_table
unfolding everything
makes_last_trade = makes last_trade_text last_trade_table refl (λ tree. refl) (λ tree. refl) refl (read last_trade_text) _ refl refl refl refl refl refl refl refl

abbrev charge_text : List ℕ
charge_text = create_table_text Charges

makes_charge : (old new : State) (count : ℕ) → Executes charge_text [] old new (Ok count) → CreatesTableOfShape old.now new.now charge_table
unfolding everything
makes_charge = makes charge_text charge_table refl (λ tree. refl) (λ tree. refl) refl (read charge_text) _ refl refl refl refl refl refl refl refl

abbrev band_text : List ℕ
band_text = create_table_text Bands

makes_band : (old new : State) (count : ℕ) → Executes band_text [] old new (Ok count) → CreatesTableOfShape old.now new.now band_table
unfolding everything
makes_band = makes band_text band_table refl (λ tree. refl) (λ tree. refl) refl (read band_text) _ refl refl refl refl refl refl refl refl

abbrev tax_rate_text : List ℕ
tax_rate_text = create_table_text TaxRates

makes_tax_rate : (old new : State) (count : ℕ) → Executes tax_rate_text [] old new (Ok count) → CreatesTableOfShape old.now new.now tax_rate_table
unfolding everything
makes_tax_rate = makes tax_rate_text tax_rate_table refl (λ tree. refl) (λ tree. refl) refl (read tax_rate_text) _ refl refl refl refl refl refl refl refl

abbrev customer_tax_text : List ℕ
customer_tax_text = create_table_text CustomerTaxes

makes_customer_tax : (old new : State) (count : ℕ) → Executes customer_tax_text [] old new (Ok count) → CreatesTableOfShape old.now new.now customer_tax_table
unfolding everything
makes_customer_tax = makes customer_tax_text customer_tax_table refl (λ tree. refl) (λ tree. refl) refl (read customer_tax_text) _ refl refl refl refl refl refl refl refl

abbrev trade_text : List ℕ
trade_text = create_table_text Trades

makes_trade : (old new : State) (count : ℕ) → Executes trade_text [] old new (Ok count) → CreatesTableOfShape old.now new.now trade_table
unfolding everything
makes_trade = makes trade_text trade_table refl (λ tree. refl) (λ tree. refl) refl (read trade_text) _ refl refl refl refl refl refl refl refl

abbrev history_text : List ℕ
history_text = create_table_text TradeHistory

makes_history : (old new : State) (count : ℕ) → Executes history_text [] old new (Ok count) → CreatesTableOfShape old.now new.now trade_history_table
unfolding everything
makes_history = makes history_text trade_history_table refl (λ tree. refl) (λ tree. refl) refl (read history_text) _ refl refl refl refl refl refl refl refl

abbrev request_text : List ℕ
request_text = create_table_text Requests

makes_request : (old new : State) (count : ℕ) → Executes request_text [] old new (Ok count) → CreatesTableOfShape old.now new.now request_table
unfolding everything
makes_request = makes request_text request_table refl (λ tree. refl) (λ tree. refl) refl (read request_text) _ refl refl refl refl refl refl refl refl

abbrev holding_text : List ℕ
holding_text = create_table_text Holdings

makes_holding : (old new : State) (count : ℕ) → Executes holding_text [] old new (Ok count) → CreatesTableOfShape old.now new.now holding_table
unfolding everything
makes_holding = makes holding_text holding_table refl (λ tree. refl) (λ tree. refl) refl (read holding_text) _ refl refl refl refl refl refl refl refl

abbrev summary_text : List ℕ
summary_text = create_table_text Summaries

makes_summary : (old new : State) (count : ℕ) → Executes summary_text [] old new (Ok count) → CreatesTableOfShape old.now new.now summary_table
unfolding everything
makes_summary = makes summary_text summary_table refl (λ tree. refl) (λ tree. refl) refl (read summary_text) _ refl refl refl refl refl refl refl refl

abbrev holding_history_text : List ℕ
holding_history_text = create_table_text HoldingHistory

makes_holding_history : (old new : State) (count : ℕ) → Executes holding_history_text [] old new (Ok count) → CreatesTableOfShape old.now new.now holding_history_table
unfolding everything
makes_holding_history = makes holding_history_text holding_history_table refl (λ tree. refl) (λ tree. refl) refl (read holding_history_text) _ refl refl refl refl refl refl refl refl

abbrev settlement_text : List ℕ
settlement_text = create_table_text Settlements

makes_settlement : (old new : State) (count : ℕ) → Executes settlement_text [] old new (Ok count) → CreatesTableOfShape old.now new.now settlement_table
unfolding everything
makes_settlement = makes settlement_text settlement_table refl (λ tree. refl) (λ tree. refl) refl (read settlement_text) _ refl refl refl refl refl refl refl refl

abbrev cash_text : List ℕ
cash_text = create_table_text CashRows

makes_cash : (old new : State) (count : ℕ) → Executes cash_text [] old new (Ok count) → CreatesTableOfShape old.now new.now cash_transaction_table
unfolding everything
makes_cash = makes cash_text cash_transaction_table refl (λ tree. refl) (λ tree. refl) refl (read cash_text) _ refl refl refl refl refl refl refl refl

abbrev move_text : List ℕ
move_text = create_table_text CashMoves

makes_move : (old new : State) (count : ℕ) → Executes move_text [] old new (Ok count) → CreatesTableOfShape old.now new.now cash_move_table
unfolding everything
makes_move = makes move_text cash_move_table refl (λ tree. refl) (λ tree. refl) refl (read move_text) _ refl refl refl refl refl refl refl refl

abbrev rule_text : List ℕ
rule_text = create_table_text SettleRules

makes_rule : (old new : State) (count : ℕ) → Executes rule_text [] old new (Ok count) → CreatesTableOfShape old.now new.now settle_rule_table
unfolding everything
makes_rule = makes rule_text settle_rule_table refl (λ tree. refl) (λ tree. refl) refl (read rule_text) _ refl refl refl refl refl refl refl refl

pub makes_of : (w : DeskTable) (old new : State) (count : ℕ) → Executes (create_table_text w) [] old new (Ok count) → CreatesTableOfShape old.now new.now (table_definition_at_tree w)
makes_of TheDesk = makes_desk_row
makes_of KeptRows = makes_kept
makes_of Brokers = makes_broker
makes_of Customers = makes_customer
makes_of Accounts = makes_account
makes_of Permissions = makes_permission
makes_of Securities = makes_security
makes_of LastTrades = makes_last_trade
makes_of Charges = makes_charge
makes_of Bands = makes_band
makes_of TaxRates = makes_tax_rate
makes_of CustomerTaxes = makes_customer_tax
makes_of Trades = makes_trade
makes_of TradeHistory = makes_history
makes_of Requests = makes_request
makes_of Holdings = makes_holding
makes_of Summaries = makes_summary
makes_of HoldingHistory = makes_holding_history
makes_of Settlements = makes_settlement
makes_of CashRows = makes_cash
makes_of CashMoves = makes_move
makes_of SettleRules = makes_rule

-- Each table is one of those that are created.
pub all_made : (w : DeskTable) → Among wide all_tables (λ _. ⊥) w
all_made TheDesk = inr (inr (inr (inr (inr (inr (inr (inr (inr (inr (inr (inr (inr (inr (inr (inr (inr (inr (inr (inr (inr (inl refl)))))))))))))))))))))
all_made KeptRows = inr (inr (inr (inr (inr (inr (inr (inr (inr (inr (inr (inr (inr (inr (inr (inr (inr (inr (inr (inr (inl refl))))))))))))))))))))
all_made Brokers = inr (inr (inr (inr (inr (inr (inr (inr (inr (inr (inr (inr (inr (inr (inr (inr (inr (inr (inr (inl refl)))))))))))))))))))
all_made Customers = inr (inr (inr (inr (inr (inr (inr (inr (inr (inr (inr (inr (inr (inr (inr (inr (inr (inr (inl refl))))))))))))))))))
all_made Accounts = inr (inr (inr (inr (inr (inr (inr (inr (inr (inr (inr (inr (inr (inr (inr (inr (inr (inl refl)))))))))))))))))
all_made Permissions = inr (inr (inr (inr (inr (inr (inr (inr (inr (inr (inr (inr (inr (inr (inr (inr (inl refl))))))))))))))))
all_made Securities = inr (inr (inr (inr (inr (inr (inr (inr (inr (inr (inr (inr (inr (inr (inr (inl refl)))))))))))))))
all_made LastTrades = inr (inr (inr (inr (inr (inr (inr (inr (inr (inr (inr (inr (inr (inr (inl refl))))))))))))))
all_made Charges = inr (inr (inr (inr (inr (inr (inr (inr (inr (inr (inr (inr (inr (inl refl)))))))))))))
all_made Bands = inr (inr (inr (inr (inr (inr (inr (inr (inr (inr (inr (inr (inl refl))))))))))))
all_made TaxRates = inr (inr (inr (inr (inr (inr (inr (inr (inr (inr (inr (inl refl)))))))))))
all_made CustomerTaxes = inr (inr (inr (inr (inr (inr (inr (inr (inr (inr (inl refl))))))))))
all_made Trades = inr (inr (inr (inr (inr (inr (inr (inr (inr (inl refl)))))))))
all_made TradeHistory = inr (inr (inr (inr (inr (inr (inr (inr (inl refl))))))))
all_made Requests = inr (inr (inr (inr (inr (inr (inr (inl refl)))))))
all_made Holdings = inr (inr (inr (inr (inr (inr (inl refl))))))
all_made Summaries = inr (inr (inr (inr (inr (inl refl)))))
all_made HoldingHistory = inr (inr (inr (inr (inl refl))))
all_made Settlements = inr (inr (inr (inl refl)))
all_made CashRows = inr (inr (inl refl))
all_made CashMoves = inr (inl refl)
all_made SettleRules = inl refl

-- None of them has a row yet.
pub none_held : (w : DeskTable) → wide_list w bare ≡ []
none_held TheDesk = refl
none_held KeptRows = refl
none_held Brokers = refl
none_held Customers = refl
none_held Accounts = refl
none_held Permissions = refl
none_held Securities = refl
none_held LastTrades = refl
none_held Charges = refl
none_held Bands = refl
none_held TaxRates = refl
none_held CustomerTaxes = refl
none_held Trades = refl
none_held TradeHistory = refl
none_held Requests = refl
none_held Holdings = refl
none_held Summaries = refl
none_held HoldingHistory = refl
none_held Settlements = refl
none_held CashRows = refl
none_held CashMoves = refl
none_held SettleRules = refl
