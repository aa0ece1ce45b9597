-- The results of the reads of permissions, securities, charges, bands and taxes.
use Rattle.std.proofs.Common.{◌≡◌, ℕ, List, [], ◌∷◌, Bool, true, false, map, filter, ◌==◌, ◌&&◌, refl}
use Rattle.std.specs.Prelude.{bytes_eq}
use Rattle.sqlite_value.specs.declared.value.Value.TheVariants.{Text as Words}
use Rattle.sqlite_value.specs.Order.{Row}
use Rattle.sqlite.specs.State.{State, Shown}
use Rattle.brk_money.specs.Kinds.{trade_type_code, is_same_trade_type}
use Rattle.brk_money.specs.declared.trade_type.TradeType.{TradeType}
use Rattle.brk_model.specs.Records.{Permission, Charge, Band, TaxRate, CustomerTax}
use Rattle.brk_model.specs.Tables.{SecurityRow}
use Rattle.brk_model.specs.Keys.{permission_key, security_key, charge_key, band_key, tax_rate_key, customer_tax_key}
use Rattle.brk_tables_sql.specs.Desk.{TablesSatisfy}
use Rattle.brk_tables_sql.proofs.Told.{told_rising}
use Rattle.brk_tables_schema.specs.Cells.{natural_as_value, permission_cells, security_cells, charge_cells, band_cells, tax_rate_cells, customer_tax_cells}
use Rattle.brk_tables_schema.specs.Desk.{Permissions, Securities, Charges, Bands, TaxRates, CustomerTaxes, desk_tables, ordering_by_primary_key}
use Rattle.brk_tables_schema.proofs.Order.{key_total}
use Rattle.brk_tables_schema.proofs.Tests.{same_number, same_text, same_code}
use Rattle.brk_tables_reference.proofs.PermissionByKey
use Rattle.brk_tables_reference.proofs.SecurityBySymbol
use Rattle.brk_tables_reference.proofs.ChargeByKey
use Rattle.brk_tables_reference.proofs.TaxRateById
use Rattle.brk_tables_reference.proofs.CustomerTaxByKey
use Rattle.brk_tables_reference.proofs.BandsFor
use Rattle.brk_tables_reference.proofs.CustomerTaxesOf

three_tests : (a b c : Bool) → (a && (b && c)) ≡ (a && b && c)
three_tests true b c = refl
three_tests false b c = refl

pub tells_permission : (old new : State) (account : ℕ) (tax_id : List ℕ) (rows : List Row)
    → Shown PermissionByKey.statement (natural_as_value account ∷ Words tax_id ∷ []) old new rows
    → TablesSatisfy desk_tables (λ t. rows ≡ map permission_cells (filter (λ r. (r.account == account) && bytes_eq r.tax_id tax_id) t.permissions)) old.now
tells_permission old new account tax_id rows shown =
    told_rising desk_tables Permissions PermissionByKey.statement PermissionByKey.ask PermissionByKey.paging PermissionByKey.is_asked (natural_as_value account ∷ Words tax_id ∷ [])
    (λ (r : Permission). (r.account == account) && bytes_eq r.tax_id tax_id) (λ tree x. rw (same_number x.account account, same_text x.tax_id tax_id) refl)
    permission_cells (λ x. refl) (ordering_by_primary_key Permissions) (key_total permission_key) (λ tree x y. refl) old new rows shown (λ x y. refl)

pub tells_security : (old new : State) (symbol : List ℕ) (rows : List Row) → Shown SecurityBySymbol.statement (Words symbol ∷ []) old new rows
    → TablesSatisfy desk_tables (λ t. rows ≡ map security_cells (filter (λ r. bytes_eq r.symbol symbol) t.securities)) old.now
tells_security old new symbol rows shown =
    told_rising desk_tables Securities SecurityBySymbol.statement SecurityBySymbol.ask SecurityBySymbol.paging SecurityBySymbol.is_asked (Words symbol ∷ [])
    (λ (r : SecurityRow). bytes_eq r.symbol symbol) (λ tree x. same_text x.symbol symbol)
    security_cells (λ x. refl) (ordering_by_primary_key Securities) (key_total security_key) (λ tree x y. refl) old new rows shown (λ x y. refl)

pub tells_charge : (old new : State) (kind : TradeType) (tier : ℕ) (rows : List Row)
    → Shown ChargeByKey.statement (Words (trade_type_code kind) ∷ natural_as_value tier ∷ []) old new rows
    → TablesSatisfy desk_tables (λ t. rows ≡ map charge_cells (filter (λ r. is_same_trade_type r.kind kind && (r.tier == tier)) t.charges)) old.now
tells_charge old new kind tier rows shown =
    told_rising desk_tables Charges ChargeByKey.statement ChargeByKey.ask ChargeByKey.paging ChargeByKey.is_asked (Words (trade_type_code kind) ∷ natural_as_value tier ∷ [])
    (λ (r : Charge). is_same_trade_type r.kind kind && (r.tier == tier)) (λ tree x. rw (same_code x.kind kind, same_number x.tier tier) refl)
    charge_cells (λ x. refl) (ordering_by_primary_key Charges) (key_total charge_key) (λ tree x y. refl) old new rows shown (λ x y. refl)

pub tells_tax_rate : (old new : State) (id : ℕ) (rows : List Row) → Shown TaxRateById.statement (natural_as_value id ∷ []) old new rows
    → TablesSatisfy desk_tables (λ t. rows ≡ map tax_rate_cells (filter (λ r. r.id == id) t.tax_rates)) old.now
tells_tax_rate old new id rows shown =
    told_rising desk_tables TaxRates TaxRateById.statement TaxRateById.ask TaxRateById.paging TaxRateById.is_asked (natural_as_value id ∷ [])
    (λ (r : TaxRate). r.id == id) (λ tree x. same_number x.id id)
    tax_rate_cells (λ x. refl) (ordering_by_primary_key TaxRates) (key_total tax_rate_key) (λ tree x y. refl) old new rows shown (λ x y. refl)

pub tells_customer_tax : (old new : State) (customer : ℕ) (tax : ℕ) (rows : List Row)
    → Shown CustomerTaxByKey.statement (natural_as_value customer ∷ natural_as_value tax ∷ []) old new rows
    → TablesSatisfy desk_tables (λ t. rows ≡ map customer_tax_cells (filter (λ r. (r.customer == customer) && (r.tax == tax)) t.customer_taxes)) old.now
tells_customer_tax old new customer tax rows shown =
    told_rising desk_tables CustomerTaxes CustomerTaxByKey.statement CustomerTaxByKey.ask CustomerTaxByKey.paging CustomerTaxByKey.is_asked (natural_as_value customer ∷ natural_as_value tax ∷ [])
    (λ (r : CustomerTax). (r.customer == customer) && (r.tax == tax)) (λ tree x. rw (same_number x.customer customer, same_number x.tax tax) refl)
    customer_tax_cells (λ x. refl) (ordering_by_primary_key CustomerTaxes) (key_total customer_tax_key) (λ tree x y. refl) old new rows shown (λ x y. refl)

pub tells_bands : (old new : State) (tier : ℕ) (kind : TradeType) (exchange : List ℕ) (rows : List Row)
    → Shown BandsFor.statement (natural_as_value tier ∷ Words (trade_type_code kind) ∷ Words exchange ∷ []) old new rows
    → TablesSatisfy desk_tables
    (λ t. rows ≡ map band_cells (filter (λ r. (r.tier == tier) && is_same_trade_type r.kind kind && bytes_eq r.exchange exchange) t.bands)) old.now
tells_bands old new tier kind exchange rows shown =
    told_rising desk_tables Bands BandsFor.statement BandsFor.ask BandsFor.paging BandsFor.is_asked (natural_as_value tier ∷ Words (trade_type_code kind) ∷ Words exchange ∷ [])
    (λ (r : Band). (r.tier == tier) && is_same_trade_type r.kind kind && bytes_eq r.exchange exchange) (λ tree x. rw (same_number x.tier tier, same_code x.kind kind, same_text x.exchange exchange) (three_tests (x.tier == tier) (is_same_trade_type x.kind kind) (bytes_eq x.exchange exchange)))
    band_cells (λ x. refl) (ordering_by_primary_key Bands) (key_total band_key) (λ tree x y. refl) old new rows shown (λ x y. refl)

pub tells_customer_taxes : (old new : State) (customer : ℕ) (rows : List Row) → Shown CustomerTaxesOf.statement (natural_as_value customer ∷ []) old new rows
    → TablesSatisfy desk_tables (λ t. rows ≡ map customer_tax_cells (filter (λ r. r.customer == customer) t.customer_taxes)) old.now
tells_customer_taxes old new customer rows shown =
    told_rising desk_tables CustomerTaxes CustomerTaxesOf.statement CustomerTaxesOf.ask CustomerTaxesOf.paging CustomerTaxesOf.is_asked (natural_as_value customer ∷ [])
    (λ (r : CustomerTax). r.customer == customer) (λ tree x. same_number x.customer customer)
    customer_tax_cells (λ x. refl) (ordering_by_primary_key CustomerTaxes) (key_total customer_tax_key) (λ tree x y. refl) old new rows shown (λ x y. refl)
