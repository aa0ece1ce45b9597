-- The text of the statements of several accounts, one after the other.
use Rattle.std.specs.Prelude.{ℕ, ◌==◌, nat_lt, if◌then◌else◌, List, [], filter, find, flat_map, map, Option, Some, None, is_some, Result, Ok, Err}
use Rattle.brk_money.specs.Spelling.{Text}
use Rattle.brk_money.specs.declared.refusal.Refusal.{Refusal}
use Rattle.brk_money.specs.declared.refusal.Refusal.TheVariants.{BadText, NoCustomer}
use Rattle.brk_model.specs.Statement.{statement}
use Rattle.brk_model.specs.Tables.{Tables}

-- The ids of the accounts of all customers, or of the customer `customer` alone, in the order of the
-- table CUSTOMER_ACCOUNT, which is sorted by id; refused with `NoCustomer` if there is no customer.
abbrev pub accounts_or_refusal : Tables → Option ℕ → Result (List ℕ) Refusal
accounts_or_refusal tables None = Ok (map (λ a. a.id) tables.accounts)
accounts_or_refusal tables (Some customer) =
    if is_some (find (λ c. c.id == customer) tables.customers)
    then Ok (map (λ a. a.id) (filter (λ a. a.customer == customer) tables.accounts)) else Err NoCustomer

-- The text, or no text if it is refused.
abbrev pub text_or_none : Result Text Refusal → Text
text_or_none (Ok text) = text
text_or_none (Err refusal) = []

-- The statements of these accounts (`statement`) over the UTC days `from` to `to`, in this order.
abbrev pub statements_of_accounts : Tables → ℕ → ℕ → Result (List ℕ) Refusal → Result Text Refusal
statements_of_accounts tables from to (Ok accounts) = Ok (flat_map (λ account. text_or_none (statement tables account from to)) accounts)
statements_of_accounts tables from to (Err refusal) = Err refusal

-- The statements of all accounts, or of those of the customer `customer`, one after the other, over
-- the UTC days `from` to `to`, both included; refused with `BadText` if `to` is before `from`,
-- otherwise with `NoCustomer` if there is no customer.
unfoldable pub statements : Tables → Option ℕ → ℕ → ℕ → Result Text Refusal
statements tables customer from to =
    if nat_lt to from then Err BadText else statements_of_accounts tables from to (accounts_or_refusal tables customer)
