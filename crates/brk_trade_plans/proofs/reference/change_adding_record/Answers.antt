use Rattle.std.proofs.Common.{◌≡◌, refl}
use Rattle.std.proofs.lemmas.Result.{IfOk-from_err}
use Rattle.brk_trade_rows.specs.declared.change.Change.TheVariants as change
use Rattle.brk_trade_plans.specs.Reference.{row_change_adding_record}
use Rattle.brk_trade_plans.proofs.Copies.{same_of_five, same_of_four, same_of_six, same_of_three, same_of_two}
use Rattle.brk_trade_plans.proofs.reference.change_adding_record.Goals as goal

pub returns-in_err-clone-in-Broker : goal.returns-in_err-clone-in-Broker
returns-in_err-clone-in-Broker c =
    IfOk-from_err c.from_residual.result (λ added. added ≡ row_change_adding_record c.args.reference.now) c.from_residual.ensures.0

pub returns-in_err-clone-in-Customer : goal.returns-in_err-clone-in-Customer
returns-in_err-clone-in-Customer c =
    IfOk-from_err c.from_residual-in_err-clone-in-Customer.result (λ added. added ≡ row_change_adding_record c.args.reference.now) c.from_residual-in_err-clone-in-Customer.ensures.0

pub returns-in_err-clone-in-Account : goal.returns-in_err-clone-in-Account
returns-in_err-clone-in-Account c =
    IfOk-from_err c.from_residual-in_err-clone-in-Account.result (λ added. added ≡ row_change_adding_record c.args.reference.now) c.from_residual-in_err-clone-in-Account.ensures.0

pub returns-in_err-clone-in-Permission : goal.returns-in_err-clone-in-Permission
returns-in_err-clone-in-Permission c =
    IfOk-from_err c.from_residual-in_err-clone-in-Permission.result (λ added. added ≡ row_change_adding_record c.args.reference.now) c.from_residual-in_err-clone-in-Permission.ensures.0

pub returns-in_err-clone-in-Security : goal.returns-in_err-clone-in-Security
returns-in_err-clone-in-Security c =
    IfOk-from_err c.from_residual-in_err-clone-in-Security.result (λ added. added ≡ row_change_adding_record c.args.reference.now) c.from_residual-in_err-clone-in-Security.ensures.0

pub returns-in_err-clone-in-Band : goal.returns-in_err-clone-in-Band
returns-in_err-clone-in-Band c =
    IfOk-from_err c.from_residual-in_err-clone-in-Band.result (λ added. added ≡ row_change_adding_record c.args.reference.now) c.from_residual-in_err-clone-in-Band.ensures.0

pub returns-in_err-clone-in-TaxRate : goal.returns-in_err-clone-in-TaxRate
returns-in_err-clone-in-TaxRate c =
    IfOk-from_err c.from_residual-in_err-clone-in-TaxRate.result (λ added. added ≡ row_change_adding_record c.args.reference.now) c.from_residual-in_err-clone-in-TaxRate.ensures.0

pub returns-in-Charge : goal.returns-in-Charge
returns-in-Charge c = rw c.in-Charge.is refl

pub returns-in-CustomerTax : goal.returns-in-CustomerTax
returns-in-CustomerTax c = rw c.in-CustomerTax.is refl

pub returns-in_ok-clone-in-Broker : goal.returns-in_ok-clone-in-Broker
returns-in_ok-clone-in-Broker c =
    let same = c.in_ok-clone-in-Broker.ensures.cases in
    rw c.in-Broker.is (same_of_two (λ p q. change.AddBroker (record { id = p; name = q })) _ _ _ _ same.0 same.1)

pub returns-in_ok-clone-in-Customer : goal.returns-in_ok-clone-in-Customer
returns-in_ok-clone-in-Customer c =
    let same = c.in_ok-clone-in-Customer.ensures.cases in
    rw c.in-Customer.is (same_of_five (λ p q r s t. change.AddCustomer (record { id = p; tier = q; tax_id = r; last_name = s; first_name = t }))
    _ _ _ _ _ _ _ _ _ _ same.0 same.1.0 same.1.1.0 same.1.1.1.0 same.1.1.1.1)

pub returns-in_ok-clone-in-Account : goal.returns-in_ok-clone-in-Account
returns-in_ok-clone-in-Account c =
    let same = c.in_ok-clone-in-Account.ensures.cases in
    rw c.in-Account.is (same_of_six (λ p q r s t u. change.AddAccount (record { id = p; customer = q; broker = r; name = s; tax_status = t; opening = u }))
    _ _ _ _ _ _ _ _ _ _ _ _ same.0 same.1.0 same.1.1.0 same.1.1.1.0 same.1.1.1.1.0 same.1.1.1.1.1)

pub returns-in_ok-clone-in-Permission : goal.returns-in_ok-clone-in-Permission
returns-in_ok-clone-in-Permission c =
    let same = c.in_ok-clone-in-Permission.ensures.cases in
    rw c.in-Permission.is (same_of_five (λ p q r s t. change.AddPermission (record { account = p; acl = q; tax_id = r; last_name = s; first_name = t }))
    _ _ _ _ _ _ _ _ _ _ same.0 same.1.0 same.1.1.0 same.1.1.1.0 same.1.1.1.1)

pub returns-in_ok-clone-in-Security : goal.returns-in_ok-clone-in-Security
returns-in_ok-clone-in-Security c =
    let same = c.in_ok-clone-in-Security.ensures.cases in
    rw c.in-Security.is (same_of_four (λ p q r s. change.AddSecurity (record { symbol = p; name = q; exchange = r; sector = s }))
    _ _ _ _ _ _ _ _ same.0 same.1.0 same.1.1.0 same.1.1.1)

pub returns-in_ok-clone-in-Band : goal.returns-in_ok-clone-in-Band
returns-in_ok-clone-in-Band c =
    let same = c.in_ok-clone-in-Band.ensures.cases in
    rw c.in-Band.is (same_of_six (λ p q r s t u. change.AddBand (record { tier = p; kind = q; exchange = r; from_qty = s; to_qty = t; rate = u }))
    _ _ _ _ _ _ _ _ _ _ _ _ same.0 same.1.0 same.1.1.0 same.1.1.1.0 same.1.1.1.1.0 same.1.1.1.1.1)

pub returns-in_ok-clone-in-TaxRate : goal.returns-in_ok-clone-in-TaxRate
returns-in_ok-clone-in-TaxRate c =
    let same = c.in_ok-clone-in-TaxRate.ensures.cases in
    rw c.in-TaxRate.is (same_of_three (λ p q r. change.AddTaxRate (record { id = p; name = q; rate = r })) _ _ _ _ _ _ same.0 same.1.0 same.1.1)
