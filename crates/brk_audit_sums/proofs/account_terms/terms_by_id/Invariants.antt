use Rattle.std.proofs.Common.{◌≡◌, ℕ, ◌==◌, take}
use Rattle.std.specs.Prelude.{find, option_map}
use Rattle.std.specs.Ordering.{nat_cmp}
use Rattle.std.specs.BTreeMap.{get}
use Rattle.brk_audit_sums.specs.AccountTerms.{terms_of_account_row}
use Rattle.brk_audit_sums.proofs.account_terms.terms_by_id.Given as goal

abbrev pub invariant-loop-row : goal.invariant-loop-row
invariant-loop-row l = (id : ℕ) → get nat_cmp l.terms id ≡ option_map terms_of_account_row (find (λ a. a.account.id == id) (take l.row-index l.accounts))
