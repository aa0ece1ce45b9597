use Rattle.std.proofs.Common.{◌∙◌, map}
use Rattle.brk_ref.specs.Records.{abstract_customer_tax}
use Rattle.brk_store_index.specs.IfMade.{AreTaxesByAge}
use Rattle.brk_store_index.proofs.Termed.{customer_taxes_found}
use Rattle.brk_store.proofs.KnownTerms.{known_of_tables}
use Rattle.brk_store.proofs.WalkedLists.{customer_taxes_climb}
use Rattle.brk_store.proofs.store.Store.taxes_of_customer.Goals as goal

pub returns-in-Some : goal.returns-in-Some
returns-in-Some g c =
    record {
      read = known_of_tables g.S.Store c.self.inside.conn c.known_rows_if_open.new.conn c.args.self.now c.self.inside.index c.in-Some.all c.self.view_is c.self.invariant.1
          (λ t has made.
          let by_age : AreTaxesByAge c.args.customer t.customer_taxes (map abstract_customer_tax c.in-Some.all.items) = c.in-Some.ensures t made in
          by_age.2 ∙ customer_taxes_found c.args.customer t.customer_taxes (customer_taxes_climb c.args.customer t _ has) by_age.0 by_age.1)
          c.known_rows_if_open.ensures.read;
    }
