use Rattle.brk_store_index.specs.Terms.{AreTermsOf}
use Rattle.brk_store_index.proofs.store_index.StoreIndex.taxes_of_customer.Goals as goal

pub returns-in-Ok : goal.returns-in-Ok
returns-in-Ok c t is =
    let are : AreTermsOf c.in-Some.terms.now t = c.in-Some.ensures t is in
    (c.in-Some.terms.now.customer_taxes, are.customer_tax_rows, c.in-Ok.ensures)
