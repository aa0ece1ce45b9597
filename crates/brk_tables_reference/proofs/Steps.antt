-- The effect of the insertions of brokers, customers and accounts, and the results of their reads.
use Rattle.std.proofs.Common.{◌≡◌, ◌∙◌, ℕ, pos, List, [], ◌∷◌, true, map, filter, ◌==◌, refl, ap}
use Rattle.std.specs.Prelude.{bytes_eq}
use Rattle.sqlite_value.specs.declared.value.Value.TheVariants.{Null, Int, Text as Words}
use Rattle.sqlite_value.specs.Order.{Row}
use Rattle.sqlite.specs.State.{State, Shown}
use Rattle.brk_money.specs.Kinds.{tax_status_number}
use Rattle.brk_model.specs.Records.{Broker, Customer, Account}
use Rattle.brk_model.specs.Tables.{BrokerRow, AccountRow}
use Rattle.brk_model.specs.Keys.{broker_key, customer_key, account_key}
use Rattle.brk_tables_sql.specs.Desk.{ChangesTablesBy, TablesSatisfy}
use Rattle.brk_tables_sql.specs.Model.{ExecutesStatement}
use Rattle.brk_tables_sql.proofs.Texts.{read}
use Rattle.brk_tables_sql.proofs.Values.{cast_int}
use Rattle.brk_tables_sql.proofs.Writes.{inserts_as}
use Rattle.brk_tables_sql.proofs.Decode.{filter_true}
use Rattle.brk_tables_sql.proofs.Told.{told_rising}
use Rattle.brk_tables_schema.specs.Cells.{natural_as_value, broker_cells, customer_cells, account_cells}
use Rattle.brk_tables_schema.specs.Desk.{Brokers, Customers, Accounts, desk_tables, ordering_by_primary_key}
use Rattle.brk_trade_rows.specs.Changes.{tables_with_broker, tables_with_customer, tables_with_account}
use Rattle.brk_tables_schema.proofs.Order.{key_total}
use Rattle.brk_tables_schema.proofs.Tests.{same_number, same_text}
use Rattle.brk_tables_schema.proofs.Places.{brokers, customers, accounts}
use Rattle.brk_tables_reference.proofs.AddBroker
use Rattle.brk_tables_reference.proofs.AddCustomer
use Rattle.brk_tables_reference.proofs.AddAccount
use Rattle.brk_tables_reference.proofs.BrokerById
use Rattle.brk_tables_reference.proofs.CustomerById
use Rattle.brk_tables_reference.proofs.CustomerByTaxId
use Rattle.brk_tables_reference.proofs.AccountById
use Rattle.brk_tables_reference.proofs.AccountsById
use Rattle.brk_tables_reference.proofs.AccountsOfCustomer
use Rattle.brk_tables_schema.proofs.Steps.{added}

-- ---- changes

pub adds_broker : (old new : State) (b : Broker) → ExecutesStatement AddBroker.statement (natural_as_value b.id ∷ Words b.name ∷ []) old new
    → ChangesTablesBy desk_tables (tables_with_broker b) old.now new.now
adds_broker old new b ran =
    let x : BrokerRow = record { id = b.id; name = b.name; trades = pos 0; commissions = 0 } in
    added Brokers brokers x old.now new.now
    (inserts_as desk_tables Brokers brokers AddBroker.statement (natural_as_value b.id ∷ Words b.name ∷ []) (read AddBroker.statement) AddBroker.terms 5
    (natural_as_value b.id ∷ Null ∷ Words b.name ∷ Int (pos 0) ∷ Int (pos 0) ∷ []) x AddBroker.understood_as (λ tree. refl)
    (λ tree rows. rw (cast_int (pos b.id), cast_int (pos 0)) refl) old new ran.0 ran.1)

pub adds_customer : (old new : State) (c : Customer)
    → ExecutesStatement AddCustomer.statement (natural_as_value c.id ∷ natural_as_value c.tier ∷ Words c.tax_id ∷ Words c.last_name ∷ Words c.first_name ∷ [])
    old new → ChangesTablesBy desk_tables (tables_with_customer c) old.now new.now
adds_customer old new c ran =
    added Customers customers c old.now new.now
    (inserts_as desk_tables Customers customers AddCustomer.statement
    (natural_as_value c.id ∷ natural_as_value c.tier ∷ Words c.tax_id ∷ Words c.last_name ∷ Words c.first_name ∷ []) (read AddCustomer.statement)
    AddCustomer.terms 6
    (natural_as_value c.id ∷ Null ∷ natural_as_value c.tier ∷ Words c.tax_id ∷ Words c.last_name ∷ Words c.first_name ∷ []) c AddCustomer.understood_as
    (λ tree. refl) (λ tree rows. rw (cast_int (pos c.id), cast_int (pos c.tier)) refl) old new ran.0 ran.1)

abbrev pub account_values : Account → Row
account_values a = natural_as_value a.id ∷ natural_as_value a.customer ∷ natural_as_value a.broker ∷ Words a.name ∷ natural_as_value (tax_status_number a.tax_status) ∷ Int a.opening ∷ []

pub adds_account : (old new : State) (a : Account) → ExecutesStatement AddAccount.statement (account_values a) old new → ChangesTablesBy desk_tables (tables_with_account a) old.now new.now
adds_account old new a ran =
    let x : AccountRow = record { id = a.id; customer = a.customer; broker = a.broker; name = a.name; tax_status = a.tax_status; opening = a.opening; balance = a.opening } in
    added Accounts accounts x old.now new.now
    (inserts_as desk_tables Accounts accounts AddAccount.statement (account_values a) (read AddAccount.statement) AddAccount.terms 8
    (natural_as_value a.id ∷ Null ∷ natural_as_value a.customer ∷ natural_as_value a.broker ∷ Words a.name ∷ natural_as_value (tax_status_number a.tax_status)
    ∷ Int a.opening ∷ Int a.opening ∷ []) x AddAccount.understood_as (λ tree. refl)
    (λ tree rows. rw (cast_int (pos a.id), cast_int (pos a.customer), cast_int (pos a.broker), cast_int (pos (tax_status_number a.tax_status)), cast_int a.opening) refl) old new ran.0 ran.1)

-- ---- reads

pub tells_broker : (old new : State) (id : ℕ) (rows : List Row) → Shown BrokerById.statement (natural_as_value id ∷ []) old new rows
    → TablesSatisfy desk_tables (λ t. rows ≡ map broker_cells (filter (λ r. r.id == id) t.brokers)) old.now
tells_broker old new id rows shown =
    told_rising desk_tables Brokers BrokerById.statement BrokerById.ask BrokerById.paging BrokerById.is_asked (natural_as_value id ∷ [])
    (λ (r : BrokerRow). r.id == id) (λ tree x. same_number x.id id)
    broker_cells (λ x. refl) (ordering_by_primary_key Brokers) (key_total broker_key) (λ tree x y. refl) old new rows shown (λ x y. refl)

pub tells_customer : (old new : State) (id : ℕ) (rows : List Row) → Shown CustomerById.statement (natural_as_value id ∷ []) old new rows
    → TablesSatisfy desk_tables (λ t. rows ≡ map customer_cells (filter (λ r. r.id == id) t.customers)) old.now
tells_customer old new id rows shown =
    told_rising desk_tables Customers CustomerById.statement CustomerById.ask CustomerById.paging CustomerById.is_asked (natural_as_value id ∷ [])
    (λ (r : Customer). r.id == id) (λ tree x. same_number x.id id)
    customer_cells (λ x. refl) (ordering_by_primary_key Customers) (key_total customer_key) (λ tree x y. refl) old new rows shown (λ x y. refl)

pub tells_tax_id : (old new : State) (tax_id : List ℕ) (rows : List Row) → Shown CustomerByTaxId.statement (Words tax_id ∷ []) old new rows
    → TablesSatisfy desk_tables (λ t. rows ≡ map customer_cells (filter (λ r. bytes_eq r.tax_id tax_id) t.customers)) old.now
tells_tax_id old new tax_id rows shown =
    told_rising desk_tables Customers CustomerByTaxId.statement CustomerByTaxId.ask CustomerByTaxId.paging CustomerByTaxId.is_asked (Words tax_id ∷ [])
    (λ (r : Customer). bytes_eq r.tax_id tax_id) (λ tree x. same_text x.tax_id tax_id)
    customer_cells (λ x. refl) (ordering_by_primary_key Customers) (key_total customer_key) (λ tree x y. refl) old new rows shown (λ x y. refl)

pub tells_account : (old new : State) (id : ℕ) (rows : List Row) → Shown AccountById.statement (natural_as_value id ∷ []) old new rows
    → TablesSatisfy desk_tables (λ t. rows ≡ map account_cells (filter (λ r. r.id == id) t.accounts)) old.now
tells_account old new id rows shown =
    told_rising desk_tables Accounts AccountById.statement AccountById.ask AccountById.paging AccountById.is_asked (natural_as_value id ∷ [])
    (λ (r : AccountRow). r.id == id) (λ tree x. same_number x.id id)
    account_cells (λ x. refl) (ordering_by_primary_key Accounts) (key_total account_key) (λ tree x y. refl) old new rows shown (λ x y. refl)

pub tells_all_accounts : (old new : State) (rows : List Row) → Shown AccountsById.statement [] old new rows → TablesSatisfy desk_tables (λ t. rows ≡ map account_cells t.accounts) old.now
tells_all_accounts old new rows shown = λ t tree h.
    told_rising desk_tables Accounts AccountsById.statement AccountsById.ask AccountsById.paging AccountsById.is_asked []
    (λ _. true) (λ tree x. refl)
    account_cells (λ x. refl) (ordering_by_primary_key Accounts) (key_total account_key) (λ tree x y. refl) old new rows shown (λ x y. refl) t tree h
    ∙ ap (map account_cells) (filter_true t.accounts)

pub tells_accounts : (old new : State) (customer : ℕ) (rows : List Row) → Shown AccountsOfCustomer.statement (natural_as_value customer ∷ []) old new rows
    → TablesSatisfy desk_tables (λ t. rows ≡ map account_cells (filter (λ r. r.customer == customer) t.accounts)) old.now
tells_accounts old new customer rows shown =
    told_rising desk_tables Accounts AccountsOfCustomer.statement AccountsOfCustomer.ask AccountsOfCustomer.paging AccountsOfCustomer.is_asked (natural_as_value customer ∷ [])
    (λ (r : AccountRow). r.customer == customer) (λ tree x. same_number x.customer customer)
    account_cells (λ x. refl) (ordering_by_primary_key Accounts) (key_total account_key) (λ tree x y. refl) old new rows shown (λ x y. refl)
