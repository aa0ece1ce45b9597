-- The terms of an index after one was added, and the taxes of a customer by their ages.
use Rattle.std.proofs.Common.{◌≡◌, ◌∙◌, ◌==◌, ℕ, List, [], ◌∷◌, Some, Result, Ok, Err, OnOk, ap, filter, map, refl, sym}
use Rattle.std.specs.Global.{Vec}
use Rattle.std.proofs.lemmas.Bool.{eqb-true}
use Rattle.brk_model.specs.Keys.{band_key, charge_key, customer_key, customer_tax_key, is_row_key_less, security_key, tax_rate_key}
use Rattle.brk_model.specs.Lists.{insert_by}
use Rattle.brk_model.specs.Records.{Band, Charge, Customer, CustomerTax, TaxRate}
use Rattle.brk_model.specs.Tables.{SecurityRow, Tables}
use Rattle.brk_ref.specs.Records.{abstract_band, abstract_charge, abstract_tax_rate}
use Rattle.brk_ref.specs.declared.band.Band as band
use Rattle.brk_ref.specs.declared.charge.Charge as charge
use Rattle.brk_ref.specs.declared.tax.Tax as tax
use Rattle.brk_trade_rows.specs.Changes.{tables_with_band, tables_with_charge, tables_with_customer, tables_with_customer_tax, tables_with_security, tables_with_tax_rate}
use Rattle.brk_store_index.specs.declared.age.RowAge.{RowAge}
use Rattle.brk_store_index.specs.declared.terms.Terms.{Terms}
use Rattle.brk_store_index.specs.declared.by_key.CustomersById.{CustomersById}
use Rattle.brk_store_index.specs.declared.by_key.SecuritiesBySymbol.{SecuritiesBySymbol}
use Rattle.brk_store_index.specs.declared.by_number.AgesByNumber.{AgesByNumber}
use Rattle.brk_store_index.specs.Ages.{Has, InsertsAgeIf}
use Rattle.brk_store_index.specs.ByKey.{AddsCustomer, AddsSecurity, AreCustomersOf, AreSecuritiesOf}
use Rattle.brk_store_index.specs.Groups.{ages_of_number}
use Rattle.brk_store_index.specs.Parts.{age_of_id}
use Rattle.brk_store_index.specs.Terms.{AreCustomerTaxesOf, AreTermsOf, HaveRows, customer_tax_of_age}
use Rattle.brk_store_index.proofs.Aged.{ages_same, ages_with}
use Rattle.brk_store_index.proofs.ByKeys.{customer_inserted, security_inserted}
use Rattle.brk_store_index.proofs.Elements.{behind, front, has_filtered, has_inserted, inserted_has}
use Rattle.brk_store_index.proofs.Ordered.{RisesBy, all_by_id}
use Rattle.brk_store_index.proofs.Ranking.{inserted_as}

-- ---- the taxes of customers

pub customer_taxes_same : (groups : AgesByNumber) (xs ys : List CustomerTax) → ((y : CustomerTax) → Has ys y → Has xs y) → ((x : CustomerTax) → Has xs x → Has ys x)
    → AreCustomerTaxesOf groups xs → AreCustomerTaxesOf groups ys
customer_taxes_same groups xs ys from onto is customer = ages_same (λ (r : CustomerTax). r.customer == customer) (λ (r : CustomerTax). age_of_id r.tax) (ages_of_number groups customer) xs ys from onto (is customer)

pub customer_taxes_with : (old new : AgesByNumber) (r : CustomerTax) (rows : List CustomerTax)
    → ((q : ℕ) → InsertsAgeIf (r.customer == q) (ages_of_number old q) (age_of_id r.tax) (ages_of_number new q)) → AreCustomerTaxesOf old rows → AreCustomerTaxesOf new (r ∷ rows)
customer_taxes_with old new r rows inserts is customer =
    ages_with (λ (x : CustomerTax). x.customer == customer) (λ (x : CustomerTax). age_of_id x.tax) r rows (ages_of_number old customer) (ages_of_number new customer) (inserts customer) (is customer)

customer_tax_inserted : (old new : AgesByNumber) (r : CustomerTax) (rows : List CustomerTax)
    → ((q : ℕ) → InsertsAgeIf (r.customer == q) (ages_of_number old q) (age_of_id r.tax) (ages_of_number new q)) → AreCustomerTaxesOf old rows
    → AreCustomerTaxesOf new (insert_by (is_row_key_less customer_tax_key) r rows)
customer_tax_inserted old new r rows inserts is =
    let less = is_row_key_less customer_tax_key in
    customer_taxes_same new (r ∷ rows) (insert_by less r rows) (λ y h. front r rows y (has_inserted less r rows y h)) (λ x h. inserted_has less r rows x (behind r rows x h))
    (customer_taxes_with old new r rows inserts is)

-- the taxes of a customer by their ages are its rows, where the rows ascend by tax
pub customer_taxes_found : (customer : ℕ) (rows : List CustomerTax) → RisesBy (λ (r : CustomerTax). r.tax) (filter (λ (r : CustomerTax). r.customer == customer) rows) → (groups : AgesByNumber) → AreCustomerTaxesOf groups rows
    → map (customer_tax_of_age customer) (ages_of_number groups customer) ≡ filter (λ (r : CustomerTax). r.customer == customer) rows
customer_taxes_found customer rows up groups are =
    let mine = λ (r : CustomerTax). r.customer == customer in
    all_by_id (λ (r : CustomerTax). r.tax) (filter mine rows) up (ages_of_number groups customer) (are customer) (λ a. Some (customer_tax_of_age customer a))
    (λ x h. ap (λ (n : ℕ). Some (customer_tax_of_age n (age_of_id x.tax))) (sym (eqb-true x.customer customer (has_filtered mine rows x h).1)))
    (map (customer_tax_of_age customer) (ages_of_number groups customer)) (somes (ages_of_number groups customer))
  where
    somes : (ages : List RowAge) → map Some (map (customer_tax_of_age customer) ages) ≡ map (λ a. Some (customer_tax_of_age customer a)) ages
    somes [] = refl
    somes (a ∷ ages) = ap (λ l. Some (customer_tax_of_age customer a) ∷ l) (somes ages)

-- what follows of a call that succeeded
ok_on : {E P Q : Type 0} (r : Result (Unit {0}) E) → OnOk r P → (P → Q) → OnOk r Q
ok_on (Ok v) p so = so p
ok_on (Err e) p so = tt

-- ---- the terms of tables

have_rows : (terms : Terms) {charges : List Charge} {bands : List Band} {taxes : List TaxRate} {customer_taxes : List CustomerTax} {customers : List Customer} {securities : List SecurityRow}
    → map abstract_charge terms.charges.items ≡ charges → map abstract_band terms.bands.items ≡ bands → map abstract_tax_rate terms.taxes.items ≡ taxes → AreCustomerTaxesOf terms.customer_taxes customer_taxes
    → AreCustomersOf terms.customers customers → AreSecuritiesOf terms.securities securities → HaveRows terms charges bands taxes customer_taxes customers securities
have_rows terms c b x p k s = record { charge_rows = c; band_rows = b; tax_rows = x; customer_tax_rows = p; customer_rows = k; security_rows = s }

module _ {E : Type 0} (old : Terms) (r : Result (Unit {0}) E) where
  abbrev Becomes : Terms → (Tables → Tables) → Type 0
  Becomes new f = (t : Tables) → AreTermsOf old t → AreTermsOf new (f t)

  pub charge_added_if : (charges : Vec charge.Charge) (x : charge.Charge)
      → OnOk r (charges.items ≡ insert_by (λ a b. is_row_key_less charge_key (abstract_charge a) (abstract_charge b)) x old.charges.items)
      → OnOk r (Becomes (record old { charges = charges }) (tables_with_charge (abstract_charge x)))
  charge_added_if charges x put = ok_on r put
      (λ p t are. have_rows _ (inserted_as abstract_charge (is_row_key_less charge_key) x old.charges.items charges.items t.charges p are.charge_rows) are.band_rows are.tax_rows are.customer_tax_rows are.customer_rows are.security_rows)

  pub band_added_if : (bands : Vec band.Band) (x : band.Band) (b : Band) → abstract_band x ≡ b
      → OnOk r (bands.items ≡ insert_by (λ a b. is_row_key_less band_key (abstract_band a) (abstract_band b)) x old.bands.items)
      → OnOk r (Becomes (record old { bands = bands }) (tables_with_band b))
  band_added_if bands x b same put = ok_on r put
      (λ p t are. have_rows _ are.charge_rows
      (inserted_as abstract_band (is_row_key_less band_key) x old.bands.items bands.items t.bands p are.band_rows ∙ ap (λ y. insert_by (is_row_key_less band_key) y t.bands) same) are.tax_rows are.customer_tax_rows are.customer_rows are.security_rows)

  pub tax_added_if : (taxes : Vec tax.Tax) (x : tax.Tax) (y : TaxRate) → abstract_tax_rate x ≡ y
      → OnOk r (taxes.items ≡ insert_by (λ a b. is_row_key_less tax_rate_key (abstract_tax_rate a) (abstract_tax_rate b)) x old.taxes.items)
      → OnOk r (Becomes (record old { taxes = taxes }) (tables_with_tax_rate y))
  tax_added_if taxes x y same put = ok_on r put
      (λ p t are. have_rows _ are.charge_rows are.band_rows
      (inserted_as abstract_tax_rate (is_row_key_less tax_rate_key) x old.taxes.items taxes.items t.tax_rates p are.tax_rows ∙ ap (λ z. insert_by (is_row_key_less tax_rate_key) z t.tax_rates) same) are.customer_tax_rows are.customer_rows are.security_rows)

  pub customer_tax_added_if : (groups : AgesByNumber) (x : CustomerTax)
      → OnOk r ((q : ℕ) → InsertsAgeIf (x.customer == q) (ages_of_number old.customer_taxes q) (age_of_id x.tax) (ages_of_number groups q))
      → OnOk r (Becomes (record old { customer_taxes = groups }) (tables_with_customer_tax x))
  customer_tax_added_if groups x put = ok_on r put
      (λ inserts t are. have_rows _ are.charge_rows are.band_rows are.tax_rows (customer_tax_inserted old.customer_taxes groups x t.customer_taxes inserts are.customer_tax_rows) are.customer_rows are.security_rows)

  pub customer_added_if : (customers : CustomersById) (x : Customer) → OnOk r (AddsCustomer old.customers x customers) → OnOk r (Becomes (record old { customers = customers }) (tables_with_customer x))
  customer_added_if customers x put = ok_on r put
      (λ adds t are. have_rows _ are.charge_rows are.band_rows are.tax_rows are.customer_tax_rows (customer_inserted (is_row_key_less customer_key) old.customers customers x t.customers adds are.customer_rows) are.security_rows)

  pub security_added_if : (securities : SecuritiesBySymbol) (x : SecurityRow) → OnOk r (AddsSecurity old.securities x securities) → OnOk r (Becomes (record old { securities = securities }) (tables_with_security x))
  security_added_if securities x put = ok_on r put
      (λ adds t are. have_rows _ are.charge_rows are.band_rows are.tax_rows are.customer_tax_rows are.customer_rows (security_inserted (is_row_key_less security_key) old.securities securities x t.securities adds are.security_rows))
