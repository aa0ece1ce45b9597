use Rattle.std.proofs.Common.{◌≡◌, IfOk, [], map, refl, rules, subst}
use Rattle.brk_ref.specs.Records.{abstract_customer_tax}
use Rattle.brk_store_index.specs.Groups.{ages_of_number}
use Rattle.brk_store_index.specs.Terms.{customer_tax_of_age}
use Rattle.brk_store_index.proofs.terms.Terms.taxes_of_customer.Goals as goal

pub returns-in-Some : goal.returns-in-Some
returns-in-Some c =
    let whole : c.in-Some.ages.now.items ≡ ages_of_number c.args.self.now.customer_taxes c.args.customer = search rules in
    subst (λ l. IfOk c.taxes_of_ages.result (λ all. map abstract_customer_tax all.items ≡ map (customer_tax_of_age c.args.customer) l)) whole c.taxes_of_ages.ensures

pub returns-in-None : goal.returns-in-None
returns-in-None c =
    let none : ages_of_number c.args.self.now.customer_taxes c.args.customer ≡ [] = search rules in
    rw (c.new.ensures.items, none) refl
