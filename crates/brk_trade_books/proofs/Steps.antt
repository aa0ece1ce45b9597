-- The empty base, and the rows after an accepted record.
use Rattle.std.proofs.Common.{◌≡◌, ℕ, ◌==◌, ◌&&◌, true, false, refl}
use Rattle.std.specs.Prelude.{nat_lt, nat_le, bytes_eq}
use Rattle.std.proofs.lemmas.Bool.{ltb-false, le-leb}
use Rattle.brk_money.specs.Kinds.{is_same_trade_type}
use Rattle.brk_model.specs.Records.{Broker, Customer, Account, Permission, Charge, Band, TaxRate, CustomerTax}
use Rattle.brk_model.specs.Base.{Base, empty_base}
use Rattle.brk_model.specs.Commands.{Listing, AddBroker, AddCustomer, AddAccount, AddPermission, AddSecurity, AddCharge, AddBand, AddTaxRate, AddCustomerTax}
use Rattle.brk_model.specs.Tests.{checks_of_command, stamp_of_next_command, bands_overlap}
use Rattle.brk_model.specs.Step.{security_of_listing}
use Rattle.brk_model.specs.Lists.{sort_by}
use Rattle.brk_model.specs.Derived.{shares_of_position, holding_summary_quantity, balance_of_account, trade_count_of_broker, commission_total_of_broker}
use Rattle.brk_model.specs.Tables.{tables_of_base_in_schema, tables_without_rows}
use Rattle.brk_model.specs.Sheets.{sheets, tables_sorted_by_key}
use Rattle.brk_trade_rows.specs.Changes.{tables_with_broker, tables_with_customer, tables_with_account, tables_with_permission, tables_with_charge}
use Rattle.brk_trade_rows.specs.Changes.{tables_with_band, tables_with_tax_rate, tables_with_customer_tax}
use Rattle.brk_trade_books.specs.Books.{BooksInvariant}
use Rattle.brk_trade_books.specs.Steps.{HasTableEffect, tables_with_listing}
use Rattle.brk_trade_books.proofs.Same.{any-none, find-none}
use Rattle.brk_trade_books.proofs.References.{broker_rows, customer_rows, account_rows, new_number}
use Rattle.brk_trade_books.proofs.NewKeys.{permission_new, security_new, charge_new, band_new, customer_tax_new, unused}
use Rattle.brk_trade_books.proofs.Terms.{permission_rows, security_rows, charge_rows, band_rows, tax_rate_rows, customer_tax_rows}
use Rattle.brk_trade_books.proofs.Tested.{passed}

pub empty_rows : sheets empty_base ≡ tables_without_rows
unfolding empty_base tables_of_base_in_schema tables_sorted_by_key sort_by shares_of_position holding_summary_quantity balance_of_account trade_count_of_broker commission_total_of_broker
empty_rows = refl

pub empty_books : BooksInvariant empty_base
unfolding empty_base
empty_books = record {
  parties = record { brokers = tt; customers = tt; owners = tt; permissions = tt };
  market = record { symbols = tt; volumes = tt; bands = tt; apart = tt };
  trades = record { accounts = tt; securities = tt; numbered = tt; ways = tt; completions = tt };
  times = record { early = tt; moments = tt; clock = tt };
  movements = record { holders = tt; early = tt; apart = tt };
}

pub step_broker : (base : Base) (now : ℕ) (b : Broker) → HasTableEffect base now (AddBroker b) (tables_with_broker b)
unfolding checks_of_command
step_broker base now b books e = let k = passed base now (AddBroker b) e in broker_rows base (stamp_of_next_command base now) b books k.0

pub step_customer : (base : Base) (now : ℕ) (c : Customer) → HasTableEffect base now (AddCustomer c) (tables_with_customer c)
unfolding checks_of_command
step_customer base now c books e =
    let k = passed base now (AddCustomer c) e in customer_rows base (stamp_of_next_command base now) c (any-none (λ d. d.id == c.id) base.customers k.0)

pub step_account : (base : Base) (now : ℕ) (a : Account) → HasTableEffect base now (AddAccount a) (tables_with_account a)
unfolding checks_of_command
step_account base now a books e = let k = passed base now (AddAccount a) e in account_rows base (stamp_of_next_command base now) a books k.1.1.0

pub step_permission : (base : Base) (now : ℕ) (p : Permission) → HasTableEffect base now (AddPermission p) (tables_with_permission p)
unfolding checks_of_command
step_permission base now p books e =
    let k = passed base now (AddPermission p) e in
    permission_rows base (stamp_of_next_command base now) p
    (permission_new p base.permissions (any-none (λ q. (q.account == p.account) && bytes_eq q.tax_id p.tax_id) base.permissions k.1.0))

pub step_security : (base : Base) (now : ℕ) (l : Listing) → HasTableEffect base now (AddSecurity l) (tables_with_listing (stamp_of_next_command base now) l)
unfolding checks_of_command
step_security base now l books e =
    let k = passed base now (AddSecurity l) e in
    security_rows base (stamp_of_next_command base now) l
    (security_new (security_of_listing (stamp_of_next_command base now) l) base.securities (find-none (λ s. bytes_eq s.symbol l.symbol) base.securities k.0))
    (unused base l.symbol base.trades k.0 books.securities)

pub step_charge : (base : Base) (now : ℕ) (c : Charge) → HasTableEffect base now (AddCharge c) (tables_with_charge c)
unfolding checks_of_command
step_charge base now c books e =
    let k = passed base now (AddCharge c) e in
    charge_rows base (stamp_of_next_command base now) c (charge_new c base.charges (find-none (λ d. is_same_trade_type d.kind c.kind && (d.tier == c.tier)) base.charges k.0))

-- a band that was accepted has its bounds in order
pub in_order : (m n : ℕ) → nat_lt n m ≡ false → nat_le m n ≡ true
in_order m n h = le-leb m n (ltb-false n m h)

pub step_band : (base : Base) (now : ℕ) (b : Band) → HasTableEffect base now (AddBand b) (tables_with_band b)
unfolding checks_of_command
step_band base now b books e =
    let k = passed base now (AddBand b) e in
    band_rows base (stamp_of_next_command base now) b (band_new b base.bands (in_order b.from_qty b.to_qty k.0) books.bands (any-none (bands_overlap b) base.bands k.1.0))

pub step_tax_rate : (base : Base) (now : ℕ) (r : TaxRate) → HasTableEffect base now (AddTaxRate r) (tables_with_tax_rate r)
unfolding checks_of_command
step_tax_rate base now r books e =
    let k = passed base now (AddTaxRate r) e in
    tax_rate_rows base (stamp_of_next_command base now) r (new_number (λ x. x.id) r base.tax_rates (find-none (λ x. x.id == r.id) base.tax_rates k.0))

pub step_customer_tax : (base : Base) (now : ℕ) (x : CustomerTax) → HasTableEffect base now (AddCustomerTax x) (tables_with_customer_tax x)
unfolding checks_of_command
step_customer_tax base now x books e =
    let k = passed base now (AddCustomerTax x) e in
    customer_tax_rows base (stamp_of_next_command base now) x
    (customer_tax_new x base.customer_taxes (any-none (λ y. (y.customer == x.customer) && (y.tax == x.tax)) base.customer_taxes k.1.1.0))
