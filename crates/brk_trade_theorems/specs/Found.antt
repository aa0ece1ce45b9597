-- The facts that are read from the tables before a record is planned.
use Rattle.std.specs.Prelude.{◌≡◌, ◌≤◌, ℕ, SomeIff}
use Rattle.brk_model.specs.Limits.{greatest_tax_rate}
use Rattle.brk_model.specs.Tables.{Tables}
use Rattle.brk_ref.specs.Records.{abstract_band}
use Rattle.brk_trade_plans.specs.declared.reference.ReferenceFacts.{ReferenceFacts}
use Rattle.brk_trade_plans.specs.declared.reference.Reference.{Reference}
use Rattle.brk_trade_plans.specs.declared.reference.Reference.TheVariants as reference
use Rattle.brk_model.specs.Form.{has_account, has_broker, has_customer, has_security}
use Rattle.brk_trade_books.specs.Reads.{contains_customer_with_tax_id, account_count_of_customer, contains_permission, contains_charge, overlaps_some_band}
use Rattle.brk_trade_books.specs.Reads.{contains_tax_rate, rate_of_tax_rate_with_id, contains_customer_tax, customer_tax_rate_sum}

-- The facts `found` about a new account are true of the tables: whether an account with its id, the
-- customer and the broker exist, and how many accounts the customer has.
pub record AccountFactsMatchTables (t : Tables) (id customer broker : ℕ) (found : ReferenceFacts) : Type 0 where
  pub same_id : found.same_id ≡ has_account t id
  pub customer_there : found.customer ≡ has_customer t customer
  pub broker_there : found.broker ≡ has_broker t broker
  pub count : found.accounts ≡ account_count_of_customer t customer

-- The facts `found` about the tax `tax` of the customer `customer` are true of the tables: whether
-- the customer exists and already pays the tax, the rate of the tax (`None` if it does not exist),
-- and the sum of the customer's rates (`None` above `greatest_tax_rate`), in hundred-thousandths.
pub record CustomerTaxFactsMatchTables (t : Tables) (customer tax : ℕ) (found : ReferenceFacts) : Type 0 where
  pub customer_there : found.customer ≡ has_customer t customer
  pub rate_there : found.rate ≡ rate_of_tax_rate_with_id t tax
  pub same_id : found.same_id ≡ contains_customer_tax t customer tax
  pub sum : SomeIff found.rates (customer_tax_rate_sum t customer ≤ greatest_tax_rate) (customer_tax_rate_sum t customer)

-- The facts `found` about a record of reference data are true of the tables: for a band, whether it
-- overlaps one of its tier, type and exchange, otherwise whether a record with its key exists;
-- also, for a customer, whether one with its tax id exists; for a permission, whether its account
-- exists; for an account and a customer's tax, the other facts of `AccountFactsMatchTables` and
-- `CustomerTaxFactsMatchTables`. Facts that the record does not need may have any value.
abbrev pub ReferenceFactsMatchTables : Tables → Reference → ReferenceFacts → Type 0
ReferenceFactsMatchTables t (reference.Broker broker) found = found.same_id ≡ has_broker t broker.id
ReferenceFactsMatchTables t (reference.Customer customer) found =
    (found.same_id ≡ has_customer t customer.id) × (found.same_tax_id ≡ contains_customer_with_tax_id t customer.tax_id)
ReferenceFactsMatchTables t (reference.Account account) found = AccountFactsMatchTables t account.id account.customer account.broker found
ReferenceFactsMatchTables t (reference.Permission permission) found =
    (found.account ≡ has_account t permission.account) × (found.same_id ≡ contains_permission t permission.account permission.tax_id)
ReferenceFactsMatchTables t (reference.Security listing) found = found.same_id ≡ has_security t listing.security.symbol
ReferenceFactsMatchTables t (reference.Charge charge) found = found.same_id ≡ contains_charge t charge.kind charge.tier
ReferenceFactsMatchTables t (reference.Band band) found = found.overlaps ≡ overlaps_some_band t (abstract_band band)
ReferenceFactsMatchTables t (reference.TaxRate tax) found = found.same_id ≡ contains_tax_rate t tax.id
ReferenceFactsMatchTables t (reference.CustomerTax pays) found = CustomerTaxFactsMatchTables t pays.customer pays.tax found
