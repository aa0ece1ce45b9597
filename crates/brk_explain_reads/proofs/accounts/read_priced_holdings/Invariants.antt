use Rattle.std.proofs.Common.{◌≡◌, ◌++◌, Ok, length, map, reverse}
use Rattle.brk_money.specs.declared.fault.CallFault.{CallFault}
use Rattle.brk_ref.specs.Rows.{abstract_summary_row}
use Rattle.brk_store_transactions.specs.Holds.{ReadPost}
use Rattle.brk_model_explain.specs.AccountLines.{priced_holding, priced_holdings_of_account}
use Rattle.brk_explain_rows.specs.Details.{abstract_priced_holding}
use Rattle.brk_explain_reads.proofs.accounts.read_priced_holdings.Given as goal

abbrev pub invariant-loop-summary : goal.invariant-loop-summary
invariant-loop-summary g l = ReadPost {V = Unit {0}} {E = CallFault} g.S.Store l.fn.store l.store (Ok tt)
    (λ _ t. map (λ r. priced_holding t (abstract_summary_row r)) l.rest.items ++ map abstract_priced_holding (reverse l.held.items) ≡ priced_holdings_of_account t l.fn.account)

abbrev pub decreases-loop-summary : goal.decreases-loop-summary
decreases-loop-summary g l = length l.rest.items
