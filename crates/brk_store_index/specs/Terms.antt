-- The terms of orders that an index has: charges, commission bands, taxes, the taxes of customers,
-- customers and securities.
use Rattle.std.specs.Prelude.{◌≡◌, ◌==◌, ℕ, List, filter, map}
use Rattle.brk_model.specs.Records.{Band, Charge, Customer, CustomerTax, TaxRate}
use Rattle.brk_model.specs.Tables.{SecurityRow, Tables}
use Rattle.brk_ref.specs.Records.{abstract_band, abstract_charge, abstract_tax_rate}
use Rattle.brk_store_index.specs.Ages.{AreAgesOf}
use Rattle.brk_store_index.specs.ByKey.{AreCustomersOf, AreSecuritiesOf}
use Rattle.brk_store_index.specs.Groups.{ages_of_number}
use Rattle.brk_store_index.specs.Parts.{age_of_id}
use Rattle.brk_store_index.specs.declared.age.RowAge.{RowAge}
use Rattle.brk_store_index.specs.declared.by_number.AgesByNumber.{AgesByNumber}
use Rattle.brk_store_index.specs.declared.terms.Terms.{Terms}

-- For each customer the groups have exactly the ages of its rows of CUSTOMER_TAXRATE, by the tax.
abbrev pub AreCustomerTaxesOf : AgesByNumber → List CustomerTax → Type 0
AreCustomerTaxesOf groups rows = (customer : ℕ) → AreAgesOf (ages_of_number groups customer)
    (map (λ (r : CustomerTax). age_of_id r.tax) (filter (λ (r : CustomerTax). r.customer == customer) rows))

-- The terms have these rows of CHARGE, COMMISSION_RATE and TAXRATE, in this sequence, of each customer
-- the taxes that it pays by these rows of CUSTOMER_TAXRATE, and these customers and securities by key.
pub record HaveRows (terms : Terms) (charges : List Charge) (bands : List Band) (taxes : List TaxRate) (customer_taxes : List CustomerTax) (customers : List Customer) (securities : List SecurityRow) : Type 0 where
  pub charge_rows : map abstract_charge terms.charges.items ≡ charges
  pub band_rows : map abstract_band terms.bands.items ≡ bands
  pub tax_rows : map abstract_tax_rate terms.taxes.items ≡ taxes
  pub customer_tax_rows : AreCustomerTaxesOf terms.customer_taxes customer_taxes
  pub customer_rows : AreCustomersOf terms.customers customers
  pub security_rows : AreSecuritiesOf terms.securities securities

-- The terms have the rows of the tables `t`, in the sequence of each table.
abbrev pub AreTermsOf : Terms → Tables → Type 0
AreTermsOf terms t = HaveRows terms t.charges t.bands t.tax_rates t.customer_taxes t.customers t.securities

-- The row of CUSTOMER_TAXRATE of a customer that has the age `a`.
abbrev pub customer_tax_of_age : ℕ → RowAge → CustomerTax
customer_tax_of_age customer a = record { customer = customer; tax = a.id }
