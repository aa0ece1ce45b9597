-- The effect of the insertions of permissions, securities, last trades, charges, bands and taxes.
use Rattle.std.proofs.Common.{pos, [], ◌∷◌, refl}
use Rattle.sqlite_value.specs.declared.value.Value.TheVariants.{Null, Text as Words}
use Rattle.sqlite.specs.State.{State}
use Rattle.brk_model.specs.Records.{Permission, Charge, Band, TaxRate, CustomerTax}
use Rattle.brk_model.specs.Tables.{SecurityRow, LastTradeRow}
use Rattle.brk_tables_sql.specs.Desk.{ChangesTablesBy}
use Rattle.brk_tables_sql.specs.Model.{ExecutesStatement}
use Rattle.brk_tables_sql.proofs.Texts.{read}
use Rattle.brk_tables_sql.proofs.Values.{cast_int, cast_null}
use Rattle.brk_tables_sql.proofs.Writes.{inserts_as}
use Rattle.brk_trade_rows.specs.Changes.{tables_with_permission, tables_with_security, tables_with_last_trade, tables_with_charge, tables_with_band, tables_with_tax_rate, tables_with_customer_tax}
use Rattle.brk_tables_schema.specs.Cells.{natural_as_value, permission_cells, security_cells, last_trade_cells, charge_cells, band_cells, tax_rate_cells, customer_tax_cells}
use Rattle.brk_tables_schema.specs.Desk.{Permissions, Securities, LastTrades, Charges, Bands, TaxRates, CustomerTaxes, desk_tables}
use Rattle.brk_tables_schema.proofs.Places.{permissions, securities, last_trades, charges, bands, tax_rates, customer_taxes}
use Rattle.brk_tables_schema.proofs.Steps.{added}
use Rattle.brk_tables_reference.proofs.AddPermission
use Rattle.brk_tables_reference.proofs.AddSecurity
use Rattle.brk_tables_reference.proofs.AddLastTrade
use Rattle.brk_tables_reference.proofs.AddCharge
use Rattle.brk_tables_reference.proofs.AddBand
use Rattle.brk_tables_reference.proofs.AddTaxRate
use Rattle.brk_tables_reference.proofs.AddCustomerTax

pub adds_permission : (old new : State) (x : Permission) → ExecutesStatement AddPermission.statement (permission_cells x) old new
    → ChangesTablesBy desk_tables (tables_with_permission x) old.now new.now
adds_permission old new x ran =
    added Permissions permissions x old.now new.now
    (inserts_as desk_tables Permissions permissions AddPermission.statement (permission_cells x) (read AddPermission.statement) AddPermission.terms 6
    (Null ∷ permission_cells x) x AddPermission.understood_as (λ tree. refl) (λ tree rows. rw (cast_null, cast_int (pos x.account)) refl) old new ran.0 ran.1)

pub adds_security : (old new : State) (x : SecurityRow) → ExecutesStatement AddSecurity.statement (security_cells x) old new → ChangesTablesBy desk_tables (tables_with_security x) old.now new.now
adds_security old new x ran =
    added Securities securities x old.now new.now
    (inserts_as desk_tables Securities securities AddSecurity.statement (security_cells x) (read AddSecurity.statement) AddSecurity.terms 5
    (Null ∷ security_cells x) x AddSecurity.understood_as (λ tree. refl) (λ tree rows. rw (cast_null) refl) old new ran.0 ran.1)

pub adds_last_trade : (old new : State) (x : LastTradeRow) → ExecutesStatement AddLastTrade.statement (last_trade_cells x) old new
    → ChangesTablesBy desk_tables (tables_with_last_trade x) old.now new.now
adds_last_trade old new x ran =
    added LastTrades last_trades x old.now new.now
    (inserts_as desk_tables LastTrades last_trades AddLastTrade.statement (last_trade_cells x) (read AddLastTrade.statement) AddLastTrade.terms 5
    (Null ∷ last_trade_cells x) x AddLastTrade.understood_as (λ tree. refl)
    (λ tree rows. rw (cast_null, cast_int (pos x.stamp), cast_int (pos x.price), cast_int (pos x.volume)) refl) old new ran.0 ran.1)

pub adds_charge : (old new : State) (x : Charge) → ExecutesStatement AddCharge.statement (charge_cells x) old new → ChangesTablesBy desk_tables (tables_with_charge x) old.now new.now
adds_charge old new x ran =
    added Charges charges x old.now new.now
    (inserts_as desk_tables Charges charges AddCharge.statement (charge_cells x) (read AddCharge.statement) AddCharge.terms 4
    (Null ∷ charge_cells x) x AddCharge.understood_as (λ tree. refl) (λ tree rows. rw (cast_null, cast_int (pos x.tier), cast_int (pos x.amount)) refl) old new ran.0 ran.1)

pub adds_band : (old new : State) (x : Band) → ExecutesStatement AddBand.statement (band_cells x) old new → ChangesTablesBy desk_tables (tables_with_band x) old.now new.now
adds_band old new x ran =
    added Bands bands x old.now new.now
    (inserts_as desk_tables Bands bands AddBand.statement (band_cells x) (read AddBand.statement) AddBand.terms 7
    (Null ∷ band_cells x) x AddBand.understood_as (λ tree. refl)
    (λ tree rows. rw (cast_null, cast_int (pos x.tier), cast_int (pos x.from_qty), cast_int (pos x.to_qty), cast_int (pos x.rate)) refl) old new ran.0
    ran.1)

pub adds_tax_rate : (old new : State) (x : TaxRate) → ExecutesStatement AddTaxRate.statement (tax_rate_cells x) old new → ChangesTablesBy desk_tables (tables_with_tax_rate x) old.now new.now
adds_tax_rate old new x ran =
    added TaxRates tax_rates x old.now new.now
    (inserts_as desk_tables TaxRates tax_rates AddTaxRate.statement (tax_rate_cells x) (read AddTaxRate.statement) AddTaxRate.terms 4
    (natural_as_value x.id ∷ Null ∷ Words x.name ∷ natural_as_value x.rate ∷ []) x AddTaxRate.understood_as (λ tree. refl)
    (λ tree rows. rw (cast_int (pos x.id), cast_int (pos x.rate)) refl) old new ran.0 ran.1)

pub adds_customer_tax : (old new : State) (x : CustomerTax) → ExecutesStatement AddCustomerTax.statement (customer_tax_cells x) old new
    → ChangesTablesBy desk_tables (tables_with_customer_tax x) old.now new.now
adds_customer_tax old new x ran =
    added CustomerTaxes customer_taxes x old.now new.now
    (inserts_as desk_tables CustomerTaxes customer_taxes AddCustomerTax.statement (customer_tax_cells x) (read AddCustomerTax.statement) AddCustomerTax.terms 3
    (Null ∷ customer_tax_cells x) x AddCustomerTax.understood_as (λ tree. refl) (λ tree rows. rw (cast_null, cast_int (pos x.customer), cast_int (pos x.tax)) refl) old new ran.0 ran.1)
