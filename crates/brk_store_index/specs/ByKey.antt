-- The customers by id and the securities by symbol that an index has.
use Rattle.std.specs.Prelude.{◌≡◌, ◌==◌, ℕ, List, Option, Some, None, bytes_eq, find, if◌then◌else◌, nat_eq, option_map}
use Rattle.std.specs.HashMap.{get, get_by_text}
use Rattle.brk_money.specs.Spelling.{Text}
use Rattle.brk_model.specs.Records.{Customer}
use Rattle.brk_model.specs.Tables.{SecurityRow}
use Rattle.brk_ref.specs.Records.{abstract_customer, abstract_security_row}
use Rattle.brk_store_index.specs.declared.by_key.CustomersById.{CustomersById}
use Rattle.brk_store_index.specs.declared.by_key.SecuritiesBySymbol.{SecuritiesBySymbol}

-- The customer that is kept under the id.
abbrev pub customer_with_id : CustomersById → ℕ → Option Customer
customer_with_id customers id = option_map abstract_customer (get nat_eq customers.customers id)

-- The customer with each id is the first row of CUSTOMER with it; without a row there is none.
abbrev pub AreCustomersOf : CustomersById → List Customer → Type 0
AreCustomersOf customers rows = (id : ℕ) → customer_with_id customers id ≡ find (λ (r : Customer). r.id == id) rows

-- `new` is `old` with the customer `c`, whose id had none.
pub record AddsCustomer (old : CustomersById) (c : Customer) (new : CustomersById) : Type 0 where
  pub fresh : customer_with_id old c.id ≡ None
  pub customers : (id : ℕ) → customer_with_id new id ≡ (if c.id == id then Some c else customer_with_id old id)

-- The security that is kept under the symbol.
abbrev pub security_with_symbol : SecuritiesBySymbol → Text → Option SecurityRow
security_with_symbol securities symbol = option_map abstract_security_row (get_by_text securities.securities symbol)

-- The security with each symbol is the first row of SECURITY with it; without a row there is none.
abbrev pub AreSecuritiesOf : SecuritiesBySymbol → List SecurityRow → Type 0
AreSecuritiesOf securities rows = (symbol : Text) → security_with_symbol securities symbol ≡ find (λ (r : SecurityRow). bytes_eq r.symbol symbol) rows

-- `new` is `old` with the security `s`, whose symbol had none.
pub record AddsSecurity (old : SecuritiesBySymbol) (s : SecurityRow) (new : SecuritiesBySymbol) : Type 0 where
  pub fresh : security_with_symbol old s.symbol ≡ None
  pub securities : (symbol : Text) → security_with_symbol new symbol ≡ (if bytes_eq s.symbol symbol then Some s else security_with_symbol old symbol)
