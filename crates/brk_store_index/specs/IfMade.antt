-- The index that a store may have, and the taxes of a customer by their ages.
use Rattle.std.specs.Prelude.{◌≡◌, ⊤, ℕ, List, map}
use Rattle.brk_model.specs.Records.{CustomerTax}
use Rattle.brk_model.specs.Tables.{Tables}
use Rattle.brk_store_index.specs.Groups.{ages_of_number}
use Rattle.brk_store_index.specs.Index.{IsIndexOf}
use Rattle.brk_store_index.specs.Terms.{AreCustomerTaxesOf, customer_tax_of_age}
use Rattle.brk_store_index.specs.declared.by_number.AgesByNumber.{AgesByNumber}
use Rattle.brk_store_index.specs.declared.store_index.StoreIndex.{StoreIndex}
use Rattle.brk_store_index.specs.declared.store_index.StoreIndex.TheVariants.{Absent, Made, Unmade}

-- The index of the rows of the tables `t`, if it is made. Of another nothing is said.
abbrev pub IsIndexIfMade : StoreIndex → Tables → Type 0
IsIndexIfMade (Made index) t = IsIndexOf index t
IsIndexIfMade Unmade t = ⊤
IsIndexIfMade Absent t = ⊤

-- The taxes have, of ages of the rows `rows` of CUSTOMER_TAXRATE, those of the customer, in sequence.
abbrev pub AreTaxesByAge : ℕ → List CustomerTax → List CustomerTax → Type 0
AreTaxesByAge customer rows taxes = (groups : AgesByNumber) × AreCustomerTaxesOf groups rows × (taxes ≡ map (customer_tax_of_age customer) (ages_of_number groups customer))
