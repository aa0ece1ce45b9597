use Rattle.std.proofs.Common.{◌≡◌, ◌==◌, Ok, filter, map, take}
use Rattle.brk_money.specs.declared.fault.CallFault.{CallFault}
use Rattle.brk_ref.specs.Records.{abstract_account_row}
use Rattle.brk_store_transactions.specs.Holds.{ReadPost}
use Rattle.brk_view_rows.specs.Worths.{worth_of_account}
use Rattle.brk_desk_queries.proofs.accounts.read_worths.Given as goal

abbrev pub invariant-loop-row : goal.invariant-loop-row
invariant-loop-row g l = ReadPost {V = Unit {0}} {E = CallFault} g.S.Store l.fn.store l.store (Ok tt)
    (λ _ t. (map abstract_account_row l.row-items ≡ filter (λ a. a.customer == l.fn.customer) t.accounts)
    × (l.worths.items ≡ map (λ r. worth_of_account t (abstract_account_row r)) (take l.row-index l.row-items)))
