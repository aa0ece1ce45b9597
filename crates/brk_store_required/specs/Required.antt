-- Rows that must exist, because another row contains their key.
use Rattle.std.specs.Prelude.{◌≡◌, ℕ, ◌==◌, find, Some}
use Rattle.brk_model.specs.Joins.{account_row_with_id, security_row_with_symbol}
use Rattle.brk_model.specs.Tables.{Tables}
use Rattle.brk_money.specs.Spelling.{Text}
use Rattle.brk_ref.specs.Records.{abstract_account_row, abstract_broker_row, abstract_customer, abstract_security_row}
use Rattle.brk_ref.specs.declared.account.AccountRow as ref
use Rattle.brk_ref.specs.declared.broker.BrokerRow.{BrokerRow}
use Rattle.brk_ref.specs.declared.customer.Customer.{Customer}
use Rattle.brk_ref.specs.declared.security.Security.{Security}

-- The first row of the customer with the id `id` in the tables `t` is `customer`.
abbrev pub IsCustomerWithId : Tables → ℕ → Customer → Type 0
IsCustomerWithId t id customer = find (λ r. r.id == id) t.customers ≡ Some (abstract_customer customer)

-- The first row of the account with the id `id` in the tables `t` is `account`.
abbrev pub IsAccountWithId : Tables → ℕ → ref.AccountRow → Type 0
IsAccountWithId t id account = account_row_with_id t id ≡ Some (abstract_account_row account)

-- The first row of the security with the symbol `symbol` in the tables `t` is `security`.
abbrev pub IsSecurityWithSymbol : Tables → Text → Security → Type 0
IsSecurityWithSymbol t symbol security = security_row_with_symbol t symbol ≡ Some (abstract_security_row security)

-- The first row of the broker with the id `id` in the tables `t` is `broker`.
abbrev pub IsBrokerWithId : Tables → ℕ → BrokerRow → Type 0
IsBrokerWithId t id broker = find (λ r. r.id == id) t.brokers ≡ Some (abstract_broker_row broker)
