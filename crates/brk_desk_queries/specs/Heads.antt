-- The figures of a statement that are not rows, and the accounts of several statements.
use Rattle.std.specs.Prelude.{◌≡◌, ℕ, Option, Some, None, Result, Ok, Err}
use Rattle.std.specs.Global.{Vec}
use Rattle.brk_desk_queries.specs.declared.statement_head.Head.{Head}
use Rattle.brk_model.specs.Joins.{account_row_with_id}
use Rattle.brk_model.specs.PositionView.{market_value_of_account_row}
use Rattle.brk_model.specs.Statements.{accounts_or_refusal}
use Rattle.brk_model.specs.Tables.{AccountRow, Tables}
use Rattle.brk_money.specs.declared.refusal.Refusal.{Refusal}

-- `Some head`: `head` has the account's name, opening balance and market value of holdings at last
-- prices, in cents, from the tables `t`. `None`: the account does not exist.
abbrev pub IsStatementHeadOfAccount : ℕ → Option Head → Tables → Type 0
IsStatementHeadOfAccount account None t = account_row_with_id t account ≡ None
IsStatementHeadOfAccount account (Some head) t =
    (a : AccountRow) × (account_row_with_id t account ≡ Some a) × (head.name ≡ a.name) × (head.opening ≡ a.opening)
    × (head.holdings ≡ market_value_of_account_row t a)

-- `Ok ids`: the ids of the accounts of all customers, or of the customer `customer` alone, in the
-- order of the table (`accounts_or_refusal`). `Err`: the refusal of an unknown customer.
abbrev pub AreAccountsOfStatements : Option ℕ → Result (Vec ℕ) Refusal → Tables → Type 0
AreAccountsOfStatements customer (Ok ids) t = accounts_or_refusal t customer ≡ Ok ids.items
AreAccountsOfStatements customer (Err refusal) t = accounts_or_refusal t customer ≡ Err refusal
