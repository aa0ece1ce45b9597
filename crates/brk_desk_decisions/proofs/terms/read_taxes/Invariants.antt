use Rattle.std.proofs.Common.{◌≡◌, ◌==◌, Ok, Some, filter, map, take}
use Rattle.brk_money.specs.declared.fault.CallFault.{CallFault}
use Rattle.brk_ref.specs.Records.{abstract_customer_tax, abstract_tax_rate}
use Rattle.brk_trade_books.specs.Reads.{tax_rate_with_id}
use Rattle.brk_store_transactions.specs.Holds.{ReadPost}
use Rattle.brk_desk_decisions.proofs.terms.read_taxes.Given as goal

abbrev pub invariant-loop-row : goal.invariant-loop-row
invariant-loop-row g l = ReadPost {V = Unit {0}} {E = CallFault} g.S.Store l.fn.store l.store (Ok tt)
    (λ _ t. (map abstract_customer_tax l.row-items ≡ filter (λ r. r.customer == l.fn.customer) t.customer_taxes)
    × (map (λ tax. Some (abstract_tax_rate tax)) l.taxes.items ≡ map (λ r. tax_rate_with_id t r.tax) (take l.row-index l.row-items)))
