use Rattle.std.proofs.Common.{FitsSigned, rules, w64}
use Rattle.std.proofs.lemmas.Int.{to_z-of_z}
use Rattle.brk_store_transactions.proofs.Making.{made}
use Rattle.brk_store_transactions.proofs.changing.apply_change.Goals as goal

pub returns-in-AddBroker-clause-step : goal.returns-in-AddBroker-clause-step
returns-in-AddBroker-clause-step g c = made _ _ _ _ _ c.in-AddBroker.is c.add_broker.ensures.step

pub returns-in-AddCustomer-clause-step : goal.returns-in-AddCustomer-clause-step
returns-in-AddCustomer-clause-step g c = made _ _ _ _ _ c.in-AddCustomer.is c.add_customer.ensures.step

pub returns-in-AddAccount-clause-step : goal.returns-in-AddAccount-clause-step
returns-in-AddAccount-clause-step g c = made _ _ _ _ _ c.in-AddAccount.is c.add_account.ensures.step

pub returns-in-AddPermission-clause-step : goal.returns-in-AddPermission-clause-step
returns-in-AddPermission-clause-step g c = made _ _ _ _ _ c.in-AddPermission.is c.add_permission.ensures.step

pub returns-in-AddSecurity-clause-step : goal.returns-in-AddSecurity-clause-step
returns-in-AddSecurity-clause-step g c = made _ _ _ _ _ c.in-AddSecurity.is c.add_security.ensures.step

pub returns-in-AddLastTrade-clause-step : goal.returns-in-AddLastTrade-clause-step
returns-in-AddLastTrade-clause-step g c = made _ _ _ _ _ c.in-AddLastTrade.is c.add_last_trade.ensures.step

pub returns-in-AddCharge-clause-step : goal.returns-in-AddCharge-clause-step
returns-in-AddCharge-clause-step g c = made _ _ _ _ _ c.in-AddCharge.is c.add_charge.ensures.step

pub returns-in-AddBand-clause-step : goal.returns-in-AddBand-clause-step
returns-in-AddBand-clause-step g c = made _ _ _ _ _ c.in-AddBand.is c.add_band.ensures.step

pub returns-in-AddTaxRate-clause-step : goal.returns-in-AddTaxRate-clause-step
returns-in-AddTaxRate-clause-step g c = made _ _ _ _ _ c.in-AddTaxRate.is c.add_tax_rate.ensures.step

pub returns-in-AddCustomerTax-clause-step : goal.returns-in-AddCustomerTax-clause-step
returns-in-AddCustomerTax-clause-step g c = made _ _ _ _ _ c.in-AddCustomerTax.is c.add_customer_tax.ensures.step

pub returns-in-AddTrade-clause-step : goal.returns-in-AddTrade-clause-step
returns-in-AddTrade-clause-step g c = made _ _ _ _ _ c.in-AddTrade.is c.add_trade.ensures.step

pub returns-in-SetStatus-clause-step : goal.returns-in-SetStatus-clause-step
returns-in-SetStatus-clause-step g c = made _ _ _ _ _ c.in-SetStatus.is c.set_trade_status.ensures.step

pub returns-in-AddHistory-clause-step : goal.returns-in-AddHistory-clause-step
returns-in-AddHistory-clause-step g c = made _ _ _ _ _ c.in-AddHistory.is c.add_trade_history_row.ensures.step

pub returns-in-AddRequest-clause-step : goal.returns-in-AddRequest-clause-step
returns-in-AddRequest-clause-step g c = made _ _ _ _ _ c.in-AddRequest.is c.add_request.ensures.step

pub returns-in-RemoveRequest-clause-step : goal.returns-in-RemoveRequest-clause-step
returns-in-RemoveRequest-clause-step g c = made _ _ _ _ _ c.in-RemoveRequest.is c.remove_request.ensures.step

pub returns-in-SetLastTrade-clause-step : goal.returns-in-SetLastTrade-clause-step
returns-in-SetLastTrade-clause-step g c = made _ _ _ _ _ c.in-SetLastTrade.is c.set_last_trade.ensures.step

pub returns-in-CompleteTrade-clause-step : goal.returns-in-CompleteTrade-clause-step
returns-in-CompleteTrade-clause-step g c = made _ _ _ _ _ c.in-CompleteTrade.is c.complete_trade.ensures.step

pub returns-in-AddLot-clause-step : goal.returns-in-AddLot-clause-step
returns-in-AddLot-clause-step g c = made _ _ _ _ _ c.in-AddLot.is c.add_lot.ensures.step

pub returns-in-SetLot-clause-step : goal.returns-in-SetLot-clause-step
returns-in-SetLot-clause-step g c =
    let fits : FitsSigned w64 c.in-SetLot.qty = search rules in
    made _ _ _ _ _ c.in-SetLot.is (rw (to_z-of_z w64 c.in-SetLot.qty fits) at c.set_lot_quantity.ensures.step)

pub returns-in-RemoveLot-clause-step : goal.returns-in-RemoveLot-clause-step
returns-in-RemoveLot-clause-step g c = made _ _ _ _ _ c.in-RemoveLot.is c.remove_lot.ensures.step

pub returns-in-AddLotChange-clause-step : goal.returns-in-AddLotChange-clause-step
returns-in-AddLotChange-clause-step g c = made _ _ _ _ _ c.in-AddLotChange.is c.add_lot_change.ensures.step

pub returns-in-AddSummary-clause-step : goal.returns-in-AddSummary-clause-step
returns-in-AddSummary-clause-step g c = made _ _ _ _ _ c.in-AddSummary.is c.add_holding_summary.ensures.step

pub returns-in-SetSummary-clause-step : goal.returns-in-SetSummary-clause-step
returns-in-SetSummary-clause-step g c = made _ _ _ _ _ c.in-SetSummary.is c.set_summary_quantity.ensures.step

pub returns-in-RemoveSummary-clause-step : goal.returns-in-RemoveSummary-clause-step
returns-in-RemoveSummary-clause-step g c = made _ _ _ _ _ c.in-RemoveSummary.is c.remove_holding_summary.ensures.step

pub returns-in-AddSettlement-clause-step : goal.returns-in-AddSettlement-clause-step
returns-in-AddSettlement-clause-step g c = made _ _ _ _ _ c.in-AddSettlement.is c.add_settlement.ensures.step

pub returns-in-AddMove-clause-step : goal.returns-in-AddMove-clause-step
returns-in-AddMove-clause-step g c = made _ _ _ _ _ c.in-AddMove.is c.add_cash_row.ensures.step

pub returns-in-SetOneDaySettlementStart-clause-step : goal.returns-in-SetOneDaySettlementStart-clause-step
returns-in-SetOneDaySettlementStart-clause-step g c = made _ _ _ _ _ c.in-SetOneDaySettlementStart.is c.set_one_day_start.ensures.step

pub returns-in-SetBalance-clause-step : goal.returns-in-SetBalance-clause-step
returns-in-SetBalance-clause-step g c = made _ _ _ _ _ c.in-SetBalance.is c.set_account_balance.ensures.step

pub returns-in-SetBrokerTotals-clause-step : goal.returns-in-SetBrokerTotals-clause-step
returns-in-SetBrokerTotals-clause-step g c =
    let fits : FitsSigned w64 c.in-SetBrokerTotals.trades = search rules in
    made _ _ _ _ _ c.in-SetBrokerTotals.is (rw (to_z-of_z w64 c.in-SetBrokerTotals.trades fits) at c.set_broker_totals.ensures.step)

pub returns-in-AddStoredReply-clause-step : goal.returns-in-AddStoredReply-clause-step
returns-in-AddStoredReply-clause-step g c = made _ _ _ _ _ c.in-AddStoredReply.is c.add_kept_row.ensures.step

pub returns-in-SetLastStamp-clause-step : goal.returns-in-SetLastStamp-clause-step
returns-in-SetLastStamp-clause-step g c = made _ _ _ _ _ c.in-SetLastStamp.is c.set_last_stamp.ensures.step

pub returns-in-SetExecutor-clause-step : goal.returns-in-SetExecutor-clause-step
returns-in-SetExecutor-clause-step g c = made _ _ _ _ _ c.in-SetExecutor.is (rw c.as_str.ensures.value at c.set_executor.ensures.step)

pub returns-in-SetCashType-clause-step : goal.returns-in-SetCashType-clause-step
returns-in-SetCashType-clause-step g c = made _ _ _ _ _ c.in-SetCashType.is c.set_cash_type.ensures.step

pub returns-in-SetCashName-clause-step : goal.returns-in-SetCashName-clause-step
returns-in-SetCashName-clause-step g c = made _ _ _ _ _ c.in-SetCashName.is (rw c.as_str-in-SetCashName.ensures.value at c.set_cash_row_name.ensures.step)
