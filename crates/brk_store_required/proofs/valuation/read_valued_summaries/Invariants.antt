use Rattle.std.proofs.Common.{◌≡◌, ◌==◌, Ok, filter, map, take}
use Rattle.brk_money.specs.declared.fault.CallFault.{CallFault}
use Rattle.brk_model.specs.Lists.{total_by}
use Rattle.brk_ref.specs.Rows.{abstract_summary_row}
use Rattle.brk_store_transactions.specs.Holds.{ReadPost}
use Rattle.brk_store_index.specs.Prices.{market_value_of_summary}
use Rattle.brk_store_required.proofs.valuation.read_valued_summaries.Given as goal

abbrev pub invariant-loop-row : goal.invariant-loop-row
invariant-loop-row g l = ReadPost {V = Unit {0}} {E = CallFault} g.S.Store l.fn.store l.store (Ok tt)
    (λ _ t. (map abstract_summary_row l.row-items ≡ filter (λ r. r.account == l.fn.account) t.summaries)
    × (l.total ≡ total_by (market_value_of_summary t) (map abstract_summary_row (take l.row-index l.row-items))))
