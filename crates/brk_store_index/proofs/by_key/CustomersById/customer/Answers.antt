use Rattle.std.proofs.Common.{◌≡◌, ◌∙◌, Some, None, ap, nat_eq, option_map, rules, sym}
use Rattle.std.specs.HashMap.{get}
use Rattle.brk_ref.specs.Records.{abstract_customer}
use Rattle.brk_store_index.proofs.by_key.CustomersById.customer.Goals as goal

pub returns : goal.returns
returns c =
    let found : get nat_eq c.args.self.now.customers c.args.id ≡ Some c.in-Some.customer.now = search rules in
    ap Some c.in_ok-copy.ensures ∙ sym (ap (option_map abstract_customer) found)

pub returns-in_default : goal.returns-in_default
returns-in_default c =
    let none : get nat_eq c.args.self.now.customers c.args.id ≡ None = search rules in
    sym (ap (option_map abstract_customer) none)
