-- The premises of the statements, for each table that they write.
use Rattle.std.proofs.Common.{◌≡◌, ◌≢◌, pos, List, is_eq, refl, ap, inl, inr}
use Rattle.sqlite_value.specs.declared.value.Value.TheVariants.{Int}
use Rattle.sqlite_value.specs.Order.{column}
use Rattle.sqlite_value.proofs.OrderLemmas.{then-Equal}
use Rattle.brk_model.specs.Records.{Customer, Permission, Charge, Band, TaxRate, CustomerTax, Kept}
use Rattle.brk_model.specs.Tables.{Tables, BrokerRow, AccountRow, SecurityRow, LastTradeRow}
use Rattle.brk_model.specs.Keys.{kept_key, broker_key, customer_key, account_key, permission_key, security_key, last_trade_key, charge_key, band_key, tax_rate_key, customer_tax_key}
use Rattle.brk_tables_sql.proofs.Writes.{Place, IsRowidKey}
use Rattle.brk_tables_schema.specs.Shapes.{desk_row_table, broker_table, customer_table, account_table, tax_rate_table}
use Rattle.brk_tables_schema.specs.Cells.{DeskRow, desk_row_cells, broker_cells, customer_cells, account_cells, tax_rate_cells}
use Rattle.brk_tables_schema.specs.Desk.{DeskTable, TheDesk, KeptRows, Brokers, Customers, Accounts, Permissions, Securities, LastTrades, Charges, Bands}
use Rattle.brk_tables_schema.specs.Desk.{TaxRates, CustomerTaxes, ordering_by_primary_key, rows_of_table, desk_tables, desk_key}
use Rattle.brk_tables_schema.proofs.Order.{key_total}
use Rattle.brk_tables_schema.proofs.Which.{is_desk_row, is_kept, is_broker, is_customer, is_account, is_permission, is_security, is_last_trade, is_charge, is_band, is_tax_rate, is_customer_tax}
use Rattle.brk_tables_schema.proofs.Unique.{kept_keyed, permission_keyed, security_keyed, last_trade_keyed, charge_keyed, band_keyed, customer_tax_keyed}
use Rattle.brk_tables_schema.proofs.Wide.{Wide, wide, wide_list}

pub desk_keyed : IsRowidKey desk_row_table desk_row_cells (ordering_by_primary_key TheDesk)
desk_keyed tree r s x y e f = let a : column r 0 ≡ Int (pos x.id) = cc in let b : column s 0 ≡ Int (pos y.id) = cc in rw (a, b) (ap is_eq (then-Equal _))

pub broker_keyed : IsRowidKey broker_table broker_cells (ordering_by_primary_key Brokers)
broker_keyed tree r s x y e f = let a : column r 0 ≡ Int (pos x.id) = cc in let b : column s 0 ≡ Int (pos y.id) = cc in rw (a, b) (ap is_eq (then-Equal _))

pub customer_keyed : IsRowidKey customer_table customer_cells (ordering_by_primary_key Customers)
customer_keyed tree r s x y e f = let a : column r 0 ≡ Int (pos x.id) = cc in let b : column s 0 ≡ Int (pos y.id) = cc in rw (a, b) (ap is_eq (then-Equal _))

pub account_keyed : IsRowidKey account_table account_cells (ordering_by_primary_key Accounts)
account_keyed tree r s x y e f = let a : column r 0 ≡ Int (pos x.id) = cc in let b : column s 0 ≡ Int (pos y.id) = cc in rw (a, b) (ap is_eq (then-Equal _))

pub tax_rate_keyed : IsRowidKey tax_rate_table tax_rate_cells (ordering_by_primary_key TaxRates)
tax_rate_keyed tree r s x y e f = let a : column r 0 ≡ Int (pos x.id) = cc in let b : column s 0 ≡ Int (pos y.id) = cc in rw (a, b) (ap is_eq (then-Equal _))

pub desk_alone : (v : DeskTable) → v ≢ TheDesk → (xs : List DeskRow) (p : Wide) → wide_list v (record p { rows = xs }) ≡ wide_list v p
desk_alone TheDesk other xs p = absurd (other refl)
desk_alone v other xs p = refl

pub kept_alone : (v : DeskTable) → v ≢ KeptRows → (xs : List Kept) (t : Tables) → rows_of_table v (record t { kept = xs }) ≡ rows_of_table v t
kept_alone KeptRows other xs t = absurd (other refl)
kept_alone v other xs t = refl

pub brokers_alone : (v : DeskTable) → v ≢ Brokers → (xs : List BrokerRow) (t : Tables) → rows_of_table v (record t { brokers = xs }) ≡ rows_of_table v t
brokers_alone Brokers other xs t = absurd (other refl)
brokers_alone v other xs t = refl

pub customers_alone : (v : DeskTable) → v ≢ Customers → (xs : List Customer) (t : Tables) → rows_of_table v (record t { customers = xs }) ≡ rows_of_table v t
customers_alone Customers other xs t = absurd (other refl)
customers_alone v other xs t = refl

pub accounts_alone : (v : DeskTable) → v ≢ Accounts → (xs : List AccountRow) (t : Tables) → rows_of_table v (record t { accounts = xs }) ≡ rows_of_table v t
accounts_alone Accounts other xs t = absurd (other refl)
accounts_alone v other xs t = refl

pub permissions_alone : (v : DeskTable) → v ≢ Permissions → (xs : List Permission) (t : Tables) → rows_of_table v (record t { permissions = xs }) ≡ rows_of_table v t
permissions_alone Permissions other xs t = absurd (other refl)
permissions_alone v other xs t = refl

pub securities_alone : (v : DeskTable) → v ≢ Securities → (xs : List SecurityRow) (t : Tables) → rows_of_table v (record t { securities = xs }) ≡ rows_of_table v t
securities_alone Securities other xs t = absurd (other refl)
securities_alone v other xs t = refl

pub last_trades_alone : (v : DeskTable) → v ≢ LastTrades → (xs : List LastTradeRow) (t : Tables) → rows_of_table v (record t { last_trades = xs }) ≡ rows_of_table v t
last_trades_alone LastTrades other xs t = absurd (other refl)
last_trades_alone v other xs t = refl

pub charges_alone : (v : DeskTable) → v ≢ Charges → (xs : List Charge) (t : Tables) → rows_of_table v (record t { charges = xs }) ≡ rows_of_table v t
charges_alone Charges other xs t = absurd (other refl)
charges_alone v other xs t = refl

pub bands_alone : (v : DeskTable) → v ≢ Bands → (xs : List Band) (t : Tables) → rows_of_table v (record t { bands = xs }) ≡ rows_of_table v t
bands_alone Bands other xs t = absurd (other refl)
bands_alone v other xs t = refl

pub tax_rates_alone : (v : DeskTable) → v ≢ TaxRates → (xs : List TaxRate) (t : Tables) → rows_of_table v (record t { tax_rates = xs }) ≡ rows_of_table v t
tax_rates_alone TaxRates other xs t = absurd (other refl)
tax_rates_alone v other xs t = refl

pub customer_taxes_alone : (v : DeskTable) → v ≢ CustomerTaxes → (xs : List CustomerTax) (t : Tables) → rows_of_table v (record t { customer_taxes = xs }) ≡ rows_of_table v t
customer_taxes_alone CustomerTaxes other xs t = absurd (other refl)
customer_taxes_alone v other xs t = refl

abbrev pub the_desk : Place wide TheDesk
the_desk = record {
  split = is_desk_row;
  put = λ xs p. record p { rows = xs };
  put_this = λ xs p. refl;
  put_others = desk_alone;
  total =
      key_total desk_key;
  keyed = inl desk_keyed;
  uncounted = λ tree. refl;
}

abbrev pub kept_rows : Place desk_tables KeptRows
kept_rows = record {
  split = is_kept;
  put = λ xs t. record t { kept = xs };
  put_this = λ xs t. refl;
  put_others = kept_alone;
  total =
      key_total kept_key;
  keyed = inr kept_keyed;
  uncounted = λ tree. refl;
}

abbrev pub brokers : Place desk_tables Brokers
brokers = record {
  split = is_broker;
  put = λ xs t. record t { brokers = xs };
  put_this = λ xs t. refl;
  put_others = brokers_alone;
  total =
      key_total broker_key;
  keyed = inl broker_keyed;
  uncounted = λ tree. refl;
}

abbrev pub customers : Place desk_tables Customers
customers = record {
  split = is_customer;
  put = λ xs t. record t { customers = xs };
  put_this = λ xs t. refl;
  put_others = customers_alone;
  total =
      key_total customer_key;
  keyed = inl customer_keyed;
  uncounted = λ tree. refl;
}

abbrev pub accounts : Place desk_tables Accounts
accounts = record {
  split = is_account;
  put = λ xs t. record t { accounts = xs };
  put_this = λ xs t. refl;
  put_others = accounts_alone;
  total =
      key_total account_key;
  keyed = inl account_keyed;
  uncounted = λ tree. refl;
}

abbrev pub permissions : Place desk_tables Permissions
permissions = record {
  split = is_permission;
  put = λ xs t. record t { permissions = xs };
  put_this = λ xs t. refl;
  put_others = permissions_alone;
  total =
      key_total permission_key;
  keyed = inr permission_keyed;
  uncounted = λ tree. refl;
}

abbrev pub securities : Place desk_tables Securities
securities = record {
  split = is_security;
  put = λ xs t. record t { securities = xs };
  put_this = λ xs t. refl;
  put_others = securities_alone;
  total =
      key_total security_key;
  keyed = inr security_keyed;
  uncounted = λ tree. refl;
}

abbrev pub last_trades : Place desk_tables LastTrades
last_trades = record {
  split = is_last_trade;
  put = λ xs t. record t { last_trades = xs };
  put_this = λ xs t. refl;
  put_others = last_trades_alone;
  total =
      key_total last_trade_key;
  keyed = inr last_trade_keyed;
  uncounted = λ tree. refl;
}

abbrev pub charges : Place desk_tables Charges
charges = record {
  split = is_charge;
  put = λ xs t. record t { charges = xs };
  put_this = λ xs t. refl;
  put_others = charges_alone;
  total =
      key_total charge_key;
  keyed = inr charge_keyed;
  uncounted = λ tree. refl;
}

abbrev pub bands : Place desk_tables Bands
bands = record {
  split = is_band;
  put = λ xs t. record t { bands = xs };
  put_this = λ xs t. refl;
  put_others = bands_alone;
  total = key_total band_key;
  keyed =
      inr band_keyed;
  uncounted = λ tree. refl;
}

abbrev pub tax_rates : Place desk_tables TaxRates
tax_rates = record {
  split = is_tax_rate;
  put = λ xs t. record t { tax_rates = xs };
  put_this = λ xs t. refl;
  put_others = tax_rates_alone;
  total =
      key_total tax_rate_key;
  keyed = inl tax_rate_keyed;
  uncounted = λ tree. refl;
}

abbrev pub customer_taxes : Place desk_tables CustomerTaxes
customer_taxes = record {
  split = is_customer_tax;
  put = λ xs t. record t { customer_taxes = xs };
  put_this = λ xs t. refl;
  put_others =
      customer_taxes_alone;
  total = key_total customer_tax_key;
  keyed = inr customer_tax_keyed;
  uncounted = λ tree. refl;
}
