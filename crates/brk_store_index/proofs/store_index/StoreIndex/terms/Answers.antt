use Rattle.std.proofs.Common.{subst, sym}
use Rattle.brk_store_index.specs.Index.{IsIndexOf}
use Rattle.brk_store_index.specs.Terms.{AreTermsOf}
use Rattle.brk_store_index.proofs.store_index.StoreIndex.terms.Goals as goal

pub returns-in-Made : goal.returns-in-Made
returns-in-Made c t is =
    let made : IsIndexOf c.in-Made.index t = rw c.in-Made.is at is in
    subst (λ terms. AreTermsOf terms t) (sym c.terms.ensures) made.terms
