-- The commands of the model for records of reference data.
use Rattle.brk_model.specs.Commands.{Command, AddBroker, AddCustomer, AddAccount, AddPermission, AddSecurity, AddCharge, AddBand, AddTaxRate, AddCustomerTax}
use Rattle.brk_ref.specs.Records.{abstract_broker, abstract_customer, abstract_account, abstract_permission}
use Rattle.brk_ref.specs.Records.{abstract_listing, abstract_charge, abstract_band, abstract_tax_rate}
use Rattle.brk_ref.specs.Records.{abstract_customer_tax}
use Rattle.brk_trade_plans.specs.declared.reference.Reference.{Reference}
use Rattle.brk_trade_plans.specs.declared.reference.Reference.TheVariants as reference

-- The model's command that adds the typed record of reference data.
abbrev pub command_adding_record : Reference → Command
command_adding_record (reference.Broker broker) = AddBroker (abstract_broker broker)
command_adding_record (reference.Customer customer) = AddCustomer (abstract_customer customer)
command_adding_record (reference.Account account) = AddAccount (abstract_account account)
command_adding_record (reference.Permission permission) = AddPermission (abstract_permission permission)
command_adding_record (reference.Security listing) = AddSecurity (abstract_listing listing)
command_adding_record (reference.Charge charge) = AddCharge (abstract_charge charge)
command_adding_record (reference.Band band) = AddBand (abstract_band band)
command_adding_record (reference.TaxRate tax) = AddTaxRate (abstract_tax_rate tax)
command_adding_record (reference.CustomerTax pays) = AddCustomerTax (abstract_customer_tax pays)
