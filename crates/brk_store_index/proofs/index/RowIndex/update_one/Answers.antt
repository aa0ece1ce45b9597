use Rattle.std.proofs.Common.{rules}
use Rattle.brk_trade_rows.specs.declared.change.Change.TheVariants.{AddAccount, AddBand, AddCharge, AddCustomer, AddCustomerTax, AddLastTrade, AddLot, AddLotChange, AddMove, AddSecurity, AddTaxRate, AddTrade, CompleteTrade, RemoveLot, SetStatus}
use Rattle.brk_store_index.proofs.Changing.{account_added_if, cash_row_added_if, kept, last_trade_added_if, last_trade_set, lot_added_if, lot_change_added_if, lot_removed_if, of_change, status_set_if, terms_changed, trade_added_if, trade_completed_if}
use Rattle.brk_store_index.proofs.index.RowIndex.update_one.Goals as goal

pub returns-in-AddLot : goal.returns-in-AddLot
returns-in-AddLot c =
    of_change c.add.result c.args.self.now (record c.args.self.now { lots = c.add.new.self }) c.args.change.now (AddLot c.in-AddLot.lot) (search rules)
    (lot_added_if c.args.self.now c.add.new.self c.in-AddLot.lot c.add.result c.add.ensures)

pub returns-in-RemoveLot : goal.returns-in-RemoveLot
returns-in-RemoveLot c =
    of_change c.remove.result c.args.self.now (record c.args.self.now { lots = c.remove.new.self }) c.args.change.now (RemoveLot c.in-RemoveLot.trade) (search rules)
    (lot_removed_if c.args.self.now c.remove.new.self c.in-RemoveLot.trade c.remove.result c.remove.ensures)

pub returns-in-AddTrade : goal.returns-in-AddTrade
returns-in-AddTrade c =
    of_change c.add-in-AddTrade.result c.args.self.now (record c.args.self.now { trades = c.add-in-AddTrade.new.self }) c.args.change.now (AddTrade c.in-AddTrade.trade) (search rules)
    (trade_added_if c.args.self.now c.add-in-AddTrade.new.self c.in-AddTrade.trade c.add-in-AddTrade.result c.add-in-AddTrade.ensures)

pub returns-in-SetStatus : goal.returns-in-SetStatus
returns-in-SetStatus c =
    of_change c.set_status.result c.args.self.now (record c.args.self.now { trades = c.set_status.new.self }) c.args.change.now (SetStatus c.in-SetStatus.trade c.in-SetStatus.status c.in-SetStatus.stamp) (search rules)
    (status_set_if c.args.self.now c.set_status.new.self c.in-SetStatus.trade c.in-SetStatus.status c.in-SetStatus.stamp c.is_submitted.result c.is_submitted.ensures c.set_status.result c.set_status.ensures)

pub returns-in-CompleteTrade : goal.returns-in-CompleteTrade
returns-in-CompleteTrade c =
    of_change c.set_status-in-CompleteTrade.result c.args.self.now (record c.args.self.now { trades = c.set_status-in-CompleteTrade.new.self }) c.args.change.now (CompleteTrade c.in-CompleteTrade.trade c.in-CompleteTrade.stamp c.in-CompleteTrade.price c.in-CompleteTrade.commission c.in-CompleteTrade.tax) (search rules)
    (trade_completed_if c.args.self.now c.set_status-in-CompleteTrade.new.self c.in-CompleteTrade.trade c.in-CompleteTrade.stamp c.in-CompleteTrade.price c.in-CompleteTrade.commission c.in-CompleteTrade.tax c.set_status-in-CompleteTrade.result c.set_status-in-CompleteTrade.ensures)

pub returns-in-AddAccount : goal.returns-in-AddAccount
returns-in-AddAccount c =
    of_change c.insert.result c.args.self.now (record c.args.self.now { accounts = c.insert.new.self }) c.args.change.now (AddAccount c.in-AddAccount.account) (search rules)
    (account_added_if c.args.self.now c.insert.new.self c.in-AddAccount.account c.insert.result (rw (c.get.ensures.value, c.of_id.ensures) at c.insert.ensures))

pub returns-in-AddLotChange : goal.returns-in-AddLotChange
returns-in-AddLotChange c =
    of_change c.insert-in-AddLotChange.result c.args.self.now (record c.args.self.now { changes = c.insert-in-AddLotChange.new.self }) c.args.change.now (AddLotChange c.in-AddLotChange.change) (search rules)
    (lot_change_added_if c.args.self.now c.insert-in-AddLotChange.new.self c.in-AddLotChange.change c.insert-in-AddLotChange.result (rw (c.get-in-AddLotChange.ensures.value, c.of_id-in-AddLotChange.ensures) at c.insert-in-AddLotChange.ensures))

pub returns-in-AddMove : goal.returns-in-AddMove
returns-in-AddMove c =
    of_change c.insert_cash_row.result c.args.self.now (record c.args.self.now { cash = c.insert_cash_row.new.groups }) c.args.change.now (AddMove c.in-AddMove.row) (search rules)
    (cash_row_added_if c.args.self.now c.insert_cash_row.new.groups c.in-AddMove.row c.insert_cash_row.result c.insert_cash_row.ensures)

pub returns-in-AddLastTrade : goal.returns-in-AddLastTrade
returns-in-AddLastTrade c =
    of_change c.add-in-AddLastTrade.result c.args.self.now (record c.args.self.now { prices = c.add-in-AddLastTrade.new.self }) c.args.change.now (AddLastTrade c.in-AddLastTrade.last) (search rules)
    (last_trade_added_if c.args.self.now c.add-in-AddLastTrade.new.self c.in-AddLastTrade.last c.add-in-AddLastTrade.result c.add-in-AddLastTrade.ensures)

pub returns-in-SetLastTrade : goal.returns-in-SetLastTrade
returns-in-SetLastTrade c t is = rw c.in-SetLastTrade.is (last_trade_set c.args.self.now t is c.set.new.self c.in-SetLastTrade.last c.set.ensures)

pub returns-in-AddCharge : goal.returns-in-AddCharge
returns-in-AddCharge c =
    terms_changed c.add_charge.result c.args.self.now c.add_charge.new.self c.args.change.now (AddCharge c.in-AddCharge.charge) (search rules) (λ t. search rules) c.add_charge.ensures

pub returns-in-AddBand : goal.returns-in-AddBand
returns-in-AddBand c =
    terms_changed c.add_band.result c.args.self.now c.add_band.new.self c.args.change.now (AddBand c.in-AddBand.band) (search rules) (λ t. search rules) c.add_band.ensures

pub returns-in-AddTaxRate : goal.returns-in-AddTaxRate
returns-in-AddTaxRate c =
    terms_changed c.add_tax.result c.args.self.now c.add_tax.new.self c.args.change.now (AddTaxRate c.in-AddTaxRate.tax) (search rules) (λ t. search rules) c.add_tax.ensures

pub returns-in-AddCustomerTax : goal.returns-in-AddCustomerTax
returns-in-AddCustomerTax c =
    terms_changed c.add_customer_tax.result c.args.self.now c.add_customer_tax.new.self c.args.change.now (AddCustomerTax c.in-AddCustomerTax.pays) (search rules) (λ t. search rules) c.add_customer_tax.ensures

pub returns-in-AddCustomer : goal.returns-in-AddCustomer
returns-in-AddCustomer c =
    terms_changed c.add_customer.result c.args.self.now c.add_customer.new.self c.args.change.now (AddCustomer c.in-AddCustomer.customer) (search rules) (λ t. search rules) c.add_customer.ensures

pub returns-in-AddSecurity : goal.returns-in-AddSecurity
returns-in-AddSecurity c =
    terms_changed c.add_security.result c.args.self.now c.add_security.new.self c.args.change.now (AddSecurity c.in-AddSecurity.security) (search rules) (λ t. search rules) c.add_security.ensures

pub returns-in_default : goal.returns-in_default
returns-in_default c t is =
    kept c.args.self.now c.args.change.now t
    (record {
      lot_added = search rules;
      lot_removed = search rules;
      trade_added = search rules;
      status_set = search rules;
      completed = search rules;
      account_added = search rules;
      lot_change_added = search rules;
      cash_row_added = search rules;
      last_trade_added = search rules;
      last_trade_set = search rules;
      charge_added = search rules;
      band_added = search rules;
      tax_added = search rules;
      customer_tax_added = search rules;
      customer_added = search rules;
      security_added = search rules;
    })
    is
