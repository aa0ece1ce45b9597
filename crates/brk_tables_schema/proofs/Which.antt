-- Written by tools/generate/tables.py: equality of tables is decidable.
use Rattle.std.proofs.Common.{◌≡◌, ◌≢◌, ◌⊎◌, refl, inl, inr}
use Rattle.sqlite_rules.specs.Lists.{Has}
use Rattle.brk_tables_schema.specs.Desk.{DeskTable, TheDesk, KeptRows, Brokers, Customers, Accounts, Permissions, Securities, LastTrades, Charges, Bands}
use Rattle.brk_tables_schema.specs.Desk.{TaxRates, CustomerTaxes, Trades, TradeHistory, Requests, Holdings, Summaries, HoldingHistory, Settlements, CashRows}
use Rattle.brk_tables_schema.specs.Desk.{CashMoves, SettleRules, all_tables}

pub is_desk_row : (v : DeskTable) → (v ≡ TheDesk) ⊎ (v ≢ TheDesk)
is_desk_row TheDesk = inl refl
is_desk_row v = inr (λ e. absurd (let f = e in cc))

pub is_kept : (v : DeskTable) → (v ≡ KeptRows) ⊎ (v ≢ KeptRows)
is_kept KeptRows = inl refl
is_kept v = inr (λ e. absurd (let f = e in cc))

pub is_broker : (v : DeskTable) → (v ≡ Brokers) ⊎ (v ≢ Brokers)
is_broker Brokers = inl refl
is_broker v = inr (λ e. absurd (let f = e in cc))

pub is_customer : (v : DeskTable) → (v ≡ Customers) ⊎ (v ≢ Customers)
is_customer Customers = inl refl
is_customer v = inr (λ e. absurd (let f = e in cc))

pub is_account : (v : DeskTable) → (v ≡ Accounts) ⊎ (v ≢ Accounts)
is_account Accounts = inl refl
is_account v = inr (λ e. absurd (let f = e in cc))

pub is_permission : (v : DeskTable) → (v ≡ Permissions) ⊎ (v ≢ Permissions)
is_permission Permissions = inl refl
is_permission v = inr (λ e. absurd (let f = e in cc))

pub is_security : (v : DeskTable) → (v ≡ Securities) ⊎ (v ≢ Securities)
is_security Securities = inl refl
is_security v = inr (λ e. absurd (let f = e in cc))

pub is_last_trade : (v : DeskTable) → (v ≡ LastTrades) ⊎ (v ≢ LastTrades)
is_last_trade LastTrades = inl refl
is_last_trade v = inr (λ e. absurd (let f = e in cc))

pub is_charge : (v : DeskTable) → (v ≡ Charges) ⊎ (v ≢ Charges)
is_charge Charges = inl refl
is_charge v = inr (λ e. absurd (let f = e in cc))

pub is_band : (v : DeskTable) → (v ≡ Bands) ⊎ (v ≢ Bands)
is_band Bands = inl refl
is_band v = inr (λ e. absurd (let f = e in cc))

pub is_tax_rate : (v : DeskTable) → (v ≡ TaxRates) ⊎ (v ≢ TaxRates)
is_tax_rate TaxRates = inl refl
is_tax_rate v = inr (λ e. absurd (let f = e in cc))

pub is_customer_tax : (v : DeskTable) → (v ≡ CustomerTaxes) ⊎ (v ≢ CustomerTaxes)
is_customer_tax CustomerTaxes = inl refl
is_customer_tax v = inr (λ e. absurd (let f = e in cc))

pub is_trade : (v : DeskTable) → (v ≡ Trades) ⊎ (v ≢ Trades)
is_trade Trades = inl refl
is_trade v = inr (λ e. absurd (let f = e in cc))

pub is_history : (v : DeskTable) → (v ≡ TradeHistory) ⊎ (v ≢ TradeHistory)
is_history TradeHistory = inl refl
is_history v = inr (λ e. absurd (let f = e in cc))

pub is_request : (v : DeskTable) → (v ≡ Requests) ⊎ (v ≢ Requests)
is_request Requests = inl refl
is_request v = inr (λ e. absurd (let f = e in cc))

pub is_holding : (v : DeskTable) → (v ≡ Holdings) ⊎ (v ≢ Holdings)
is_holding Holdings = inl refl
is_holding v = inr (λ e. absurd (let f = e in cc))

pub is_summary : (v : DeskTable) → (v ≡ Summaries) ⊎ (v ≢ Summaries)
is_summary Summaries = inl refl
is_summary v = inr (λ e. absurd (let f = e in cc))

pub is_holding_history : (v : DeskTable) → (v ≡ HoldingHistory) ⊎ (v ≢ HoldingHistory)
is_holding_history HoldingHistory = inl refl
is_holding_history v = inr (λ e. absurd (let f = e in cc))

pub is_settlement : (v : DeskTable) → (v ≡ Settlements) ⊎ (v ≢ Settlements)
is_settlement Settlements = inl refl
is_settlement v = inr (λ e. absurd (let f = e in cc))

pub is_cash : (v : DeskTable) → (v ≡ CashRows) ⊎ (v ≢ CashRows)
is_cash CashRows = inl refl
is_cash v = inr (λ e. absurd (let f = e in cc))

pub is_move : (v : DeskTable) → (v ≡ CashMoves) ⊎ (v ≢ CashMoves)
is_move CashMoves = inl refl
is_move v = inr (λ e. absurd (let f = e in cc))

pub is_rule : (v : DeskTable) → (v ≡ SettleRules) ⊎ (v ≢ SettleRules)
is_rule SettleRules = inl refl
is_rule v = inr (λ e. absurd (let f = e in cc))

-- Two tables are equal or not.
pub split : (w v : DeskTable) → (v ≡ w) ⊎ (v ≢ w)
split TheDesk v = is_desk_row v
split KeptRows v = is_kept v
split Brokers v = is_broker v
split Customers v = is_customer v
split Accounts v = is_account v
split Permissions v = is_permission v
split Securities v = is_security v
split LastTrades v = is_last_trade v
split Charges v = is_charge v
split Bands v = is_band v
split TaxRates v = is_tax_rate v
split CustomerTaxes v = is_customer_tax v
split Trades v = is_trade v
split TradeHistory v = is_history v
split Requests v = is_request v
split Holdings v = is_holding v
split Summaries v = is_summary v
split HoldingHistory v = is_holding_history v
split Settlements v = is_settlement v
split CashRows v = is_cash v
split CashMoves v = is_move v
split SettleRules v = is_rule v

-- The list of all tables contains each table.
pub all_listed : (w : DeskTable) → Has all_tables w
all_listed TheDesk = inl refl
all_listed KeptRows = inr (inl refl)
all_listed Brokers = inr (inr (inl refl))
all_listed Customers = inr (inr (inr (inl refl)))
all_listed Accounts = inr (inr (inr (inr (inl refl))))
all_listed Permissions = inr (inr (inr (inr (inr (inl refl)))))
all_listed Securities = inr (inr (inr (inr (inr (inr (inl refl))))))
all_listed LastTrades = inr (inr (inr (inr (inr (inr (inr (inl refl)))))))
all_listed Charges = inr (inr (inr (inr (inr (inr (inr (inr (inl refl))))))))
all_listed Bands = inr (inr (inr (inr (inr (inr (inr (inr (inr (inl refl)))))))))
all_listed TaxRates = inr (inr (inr (inr (inr (inr (inr (inr (inr (inr (inl refl))))))))))
all_listed CustomerTaxes = inr (inr (inr (inr (inr (inr (inr (inr (inr (inr (inr (inl refl)))))))))))
all_listed Trades = inr (inr (inr (inr (inr (inr (inr (inr (inr (inr (inr (inr (inl refl))))))))))))
all_listed TradeHistory = inr (inr (inr (inr (inr (inr (inr (inr (inr (inr (inr (inr (inr (inl refl)))))))))))))
all_listed Requests = inr (inr (inr (inr (inr (inr (inr (inr (inr (inr (inr (inr (inr (inr (inl refl))))))))))))))
all_listed Holdings = inr (inr (inr (inr (inr (inr (inr (inr (inr (inr (inr (inr (inr (inr (inr (inl refl)))))))))))))))
all_listed Summaries = inr (inr (inr (inr (inr (inr (inr (inr (inr (inr (inr (inr (inr (inr (inr (inr (inl refl))))))))))))))))
all_listed HoldingHistory = inr (inr (inr (inr (inr (inr (inr (inr (inr (inr (inr (inr (inr (inr (inr (inr (inr (inl refl)))))))))))))))))
all_listed Settlements = inr (inr (inr (inr (inr (inr (inr (inr (inr (inr (inr (inr (inr (inr (inr (inr (inr (inr (inl refl))))))))))))))))))
all_listed CashRows = inr (inr (inr (inr (inr (inr (inr (inr (inr (inr (inr (inr (inr (inr (inr (inr (inr (inr (inr (inl refl)))))))))))))))))))
all_listed CashMoves = inr (inr (inr (inr (inr (inr (inr (inr (inr (inr (inr (inr (inr (inr (inr (inr (inr (inr (inr (inr (inl refl))))))))))))))))))))
all_listed SettleRules = inr (inr (inr (inr (inr (inr (inr (inr (inr (inr (inr (inr (inr (inr (inr (inr (inr (inr (inr (inr (inr (inl refl)))))))))))))))))))))
