-- Written by tools/generate/tables.py: the result of the read of each whole table.
use Rattle.std.proofs.Common.{List, [], refl}
use Rattle.sqlite_value.specs.Order.{Row}
use Rattle.sqlite.specs.State.{State, Shown}
use Rattle.brk_model.specs.Keys.{kept_key, broker_key, customer_key, account_key, permission_key, security_key, last_trade_key, charge_key, band_key}
use Rattle.brk_model.specs.Keys.{tax_rate_key, customer_tax_key, trade_key, history_key, request_key, holding_key, summary_key, holding_history_key}
use Rattle.brk_model.specs.Keys.{settlement_key, cash_transaction_key, cash_move_key}
use Rattle.brk_tables_schema.specs.Desk.{TheDesk, KeptRows, Brokers, Customers, Accounts, Permissions, Securities, LastTrades, Charges, Bands, TaxRates}
use Rattle.brk_tables_schema.specs.Desk.{CustomerTaxes, Trades, TradeHistory, Requests, Holdings, Summaries, HoldingHistory, Settlements, CashRows, CashMoves}
use Rattle.brk_tables_schema.specs.Desk.{SettleRules, desk_key, rule_key}
use Rattle.brk_tables_schema.proofs.Order.{key_total}
use Rattle.brk_tables_scan.specs.Whole.{ShowsAllRows}
use Rattle.brk_tables_scan.proofs.Whole.{shows_all}
use Rattle.brk_tables_scan.proofs.Keyed.{desk_row_once, kept_once, broker_once, customer_once, account_once, permission_once, security_once, last_trade_once}
use Rattle.brk_tables_scan.proofs.Keyed.{charge_once, band_once, tax_rate_once, customer_tax_once, trade_once, history_once, request_once, holding_once}
use Rattle.brk_tables_scan.proofs.Keyed.{summary_once, holding_history_once, settlement_once, cash_once, move_once, rule_once}
use Rattle.brk_tables_scan.proofs.AllDesk
use Rattle.brk_tables_scan.proofs.AllKeptRows
use Rattle.brk_tables_scan.proofs.AllBrokers
use Rattle.brk_tables_scan.proofs.AllCustomers
use Rattle.brk_tables_scan.proofs.AllAccounts
use Rattle.brk_tables_scan.proofs.AllPermissions
use Rattle.brk_tables_scan.proofs.AllSecurities
use Rattle.brk_tables_scan.proofs.AllLastTrades
use Rattle.brk_tables_scan.proofs.AllCharges
use Rattle.brk_tables_scan.proofs.AllBands
use Rattle.brk_tables_scan.proofs.AllTaxRates
use Rattle.brk_tables_scan.proofs.AllCustomerTaxes
use Rattle.brk_tables_scan.proofs.AllTrades
use Rattle.brk_tables_scan.proofs.AllTradeHistory
use Rattle.brk_tables_scan.proofs.AllRequests
use Rattle.brk_tables_scan.proofs.AllHoldings
use Rattle.brk_tables_scan.proofs.AllSummaries
use Rattle.brk_tables_scan.proofs.AllHoldingHistory
use Rattle.brk_tables_scan.proofs.AllSettlements
use Rattle.brk_tables_scan.proofs.AllCashRows
use Rattle.brk_tables_scan.proofs.AllCashMoves
use Rattle.brk_tables_scan.proofs.AllSettleRules

pub desk_row_shown : (old new : State) (rows : List Row) → Shown AllDesk.statement [] old new rows → ShowsAllRows TheDesk rows old.now
desk_row_shown old new rows shown =
    shows_all TheDesk (key_total desk_key) desk_row_once AllDesk.statement AllDesk.ask.shown AllDesk.ask.by AllDesk.is_asked (λ tree r. refl) (λ tree x y. refl) old new rows shown

pub kept_shown : (old new : State) (rows : List Row) → Shown AllKeptRows.statement [] old new rows → ShowsAllRows KeptRows rows old.now
kept_shown old new rows shown =
    shows_all KeptRows (key_total kept_key) kept_once AllKeptRows.statement AllKeptRows.ask.shown AllKeptRows.ask.by AllKeptRows.is_asked (λ tree r. refl) (λ tree x y. refl) old new rows shown

pub broker_shown : (old new : State) (rows : List Row) → Shown AllBrokers.statement [] old new rows → ShowsAllRows Brokers rows old.now
broker_shown old new rows shown =
    shows_all Brokers (key_total broker_key) broker_once AllBrokers.statement AllBrokers.ask.shown AllBrokers.ask.by AllBrokers.is_asked (λ tree r. refl) (λ tree x y. refl) old new rows shown

pub customer_shown : (old new : State) (rows : List Row) → Shown AllCustomers.statement [] old new rows → ShowsAllRows Customers rows old.now
customer_shown old new rows shown =
    shows_all Customers (key_total customer_key) customer_once AllCustomers.statement AllCustomers.ask.shown AllCustomers.ask.by AllCustomers.is_asked
    (λ tree r. refl) (λ tree x y. refl) old new rows shown

pub account_shown : (old new : State) (rows : List Row) → Shown AllAccounts.statement [] old new rows → ShowsAllRows Accounts rows old.now
account_shown old new rows shown =
    shows_all Accounts (key_total account_key) account_once AllAccounts.statement AllAccounts.ask.shown AllAccounts.ask.by AllAccounts.is_asked (λ tree r. refl)
    (λ tree x y. refl) old new rows shown

pub permission_shown : (old new : State) (rows : List Row) → Shown AllPermissions.statement [] old new rows → ShowsAllRows Permissions rows old.now
permission_shown old new rows shown =
    shows_all Permissions (key_total permission_key) permission_once AllPermissions.statement AllPermissions.ask.shown AllPermissions.ask.by
    AllPermissions.is_asked (λ tree r. refl) (λ tree x y. refl) old new rows shown

pub security_shown : (old new : State) (rows : List Row) → Shown AllSecurities.statement [] old new rows → ShowsAllRows Securities rows old.now
security_shown old new rows shown =
    shows_all Securities (key_total security_key) security_once AllSecurities.statement AllSecurities.ask.shown AllSecurities.ask.by AllSecurities.is_asked
    (λ tree r. refl) (λ tree x y. refl) old new rows shown

pub last_trade_shown : (old new : State) (rows : List Row) → Shown AllLastTrades.statement [] old new rows → ShowsAllRows LastTrades rows old.now
last_trade_shown old new rows shown =
    shows_all LastTrades (key_total last_trade_key) last_trade_once AllLastTrades.statement AllLastTrades.ask.shown AllLastTrades.ask.by AllLastTrades.is_asked
    (λ tree r. refl) (λ tree x y. refl) old new rows shown

pub charge_shown : (old new : State) (rows : List Row) → Shown AllCharges.statement [] old new rows → ShowsAllRows Charges rows old.now
charge_shown old new rows shown =
    shows_all Charges (key_total charge_key) charge_once AllCharges.statement AllCharges.ask.shown AllCharges.ask.by AllCharges.is_asked (λ tree r. refl) (λ tree x y. refl) old new rows shown

pub band_shown : (old new : State) (rows : List Row) → Shown AllBands.statement [] old new rows → ShowsAllRows Bands rows old.now
band_shown old new rows shown =
    shows_all Bands (key_total band_key) band_once AllBands.statement AllBands.ask.shown AllBands.ask.by AllBands.is_asked (λ tree r. refl) (λ tree x y. refl) old new rows shown

pub tax_rate_shown : (old new : State) (rows : List Row) → Shown AllTaxRates.statement [] old new rows → ShowsAllRows TaxRates rows old.now
tax_rate_shown old new rows shown =
    shows_all TaxRates (key_total tax_rate_key) tax_rate_once AllTaxRates.statement AllTaxRates.ask.shown AllTaxRates.ask.by AllTaxRates.is_asked
    (λ tree r. refl) (λ tree x y. refl) old new rows shown

pub customer_tax_shown : (old new : State) (rows : List Row) → Shown AllCustomerTaxes.statement [] old new rows → ShowsAllRows CustomerTaxes rows old.now
customer_tax_shown old new rows shown =
    shows_all CustomerTaxes (key_total customer_tax_key) customer_tax_once AllCustomerTaxes.statement AllCustomerTaxes.ask.shown AllCustomerTaxes.ask.by
    AllCustomerTaxes.is_asked (λ tree r. refl) (λ tree x y. refl) old new rows shown

pub trade_shown : (old new : State) (rows : List Row) → Shown AllTrades.statement [] old new rows → ShowsAllRows Trades rows old.now
trade_shown old new rows shown =
    shows_all Trades (key_total trade_key) trade_once AllTrades.statement AllTrades.ask.shown AllTrades.ask.by AllTrades.is_asked (λ tree r. refl) (λ tree x y. refl) old new rows shown

pub history_shown : (old new : State) (rows : List Row) → Shown AllTradeHistory.statement [] old new rows → ShowsAllRows TradeHistory rows old.now
history_shown old new rows shown =
    shows_all TradeHistory (key_total history_key) history_once AllTradeHistory.statement AllTradeHistory.ask.shown AllTradeHistory.ask.by
    AllTradeHistory.is_asked (λ tree r. refl) (λ tree x y. refl) old new rows shown

pub request_shown : (old new : State) (rows : List Row) → Shown AllRequests.statement [] old new rows → ShowsAllRows Requests rows old.now
request_shown old new rows shown =
    shows_all Requests (key_total request_key) request_once AllRequests.statement AllRequests.ask.shown AllRequests.ask.by AllRequests.is_asked (λ tree r. refl)
    (λ tree x y. refl) old new rows shown

pub holding_shown : (old new : State) (rows : List Row) → Shown AllHoldings.statement [] old new rows → ShowsAllRows Holdings rows old.now
holding_shown old new rows shown =
    shows_all Holdings (key_total holding_key) holding_once AllHoldings.statement AllHoldings.ask.shown AllHoldings.ask.by AllHoldings.is_asked (λ tree r. refl)
    (λ tree x y. refl) old new rows shown

pub summary_shown : (old new : State) (rows : List Row) → Shown AllSummaries.statement [] old new rows → ShowsAllRows Summaries rows old.now
summary_shown old new rows shown =
    shows_all Summaries (key_total summary_key) summary_once AllSummaries.statement AllSummaries.ask.shown AllSummaries.ask.by AllSummaries.is_asked
    (λ tree r. refl) (λ tree x y. refl) old new rows shown

pub holding_history_shown : (old new : State) (rows : List Row) → Shown AllHoldingHistory.statement [] old new rows → ShowsAllRows HoldingHistory rows old.now
holding_history_shown old new rows shown =
    shows_all HoldingHistory (key_total holding_history_key) holding_history_once AllHoldingHistory.statement AllHoldingHistory.ask.shown
    AllHoldingHistory.ask.by AllHoldingHistory.is_asked (λ tree r. refl) (λ tree x y. refl) old new rows shown

pub settlement_shown : (old new : State) (rows : List Row) → Shown AllSettlements.statement [] old new rows → ShowsAllRows Settlements rows old.now
settlement_shown old new rows shown =
    shows_all Settlements (key_total settlement_key) settlement_once AllSettlements.statement AllSettlements.ask.shown AllSettlements.ask.by
    AllSettlements.is_asked (λ tree r. refl) (λ tree x y. refl) old new rows shown

pub cash_shown : (old new : State) (rows : List Row) → Shown AllCashRows.statement [] old new rows → ShowsAllRows CashRows rows old.now
cash_shown old new rows shown =
    shows_all CashRows (key_total cash_transaction_key) cash_once AllCashRows.statement AllCashRows.ask.shown AllCashRows.ask.by AllCashRows.is_asked
    (λ tree r. refl) (λ tree x y. refl) old new rows shown

pub move_shown : (old new : State) (rows : List Row) → Shown AllCashMoves.statement [] old new rows → ShowsAllRows CashMoves rows old.now
move_shown old new rows shown =
    shows_all CashMoves (key_total cash_move_key) move_once AllCashMoves.statement AllCashMoves.ask.shown AllCashMoves.ask.by AllCashMoves.is_asked
    (λ tree r. refl) (λ tree x y. refl) old new rows shown

pub rule_shown : (old new : State) (rows : List Row) → Shown AllSettleRules.statement [] old new rows → ShowsAllRows SettleRules rows old.now
rule_shown old new rows shown =
    shows_all SettleRules (key_total rule_key) rule_once AllSettleRules.statement AllSettleRules.ask.shown AllSettleRules.ask.by AllSettleRules.is_asked
    (λ tree r. refl) (λ tree x y. refl) old new rows shown
