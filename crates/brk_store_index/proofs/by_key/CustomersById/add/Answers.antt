use Rattle.std.proofs.Common.{◌≡◌, ◌∙◌, ◌==◌, ℕ, Some, None, ap, cond, nat_eq, option_map, rules}
use Rattle.std.specs.HashMap.{get}
use Rattle.brk_ref.specs.Records.{abstract_customer}
use Rattle.brk_store_index.proofs.ByKeys.{mapped_put, not_mapped}
use Rattle.brk_store_index.proofs.by_key.CustomersById.add.Goals as goal

pub returns : goal.returns
returns c =
    let old = get nat_eq c.args.self.now.customers in
    let customer = abstract_customer c.args.customer.now in
    let none : old customer.id ≡ None = search rules in
    let put : (id : ℕ) → get nat_eq c.insert.new.self id ≡ cond (customer.id == id) (Some c.in_ok-copy.copy) (old id) = search rules in
    record {
      fresh = not_mapped abstract_customer (old customer.id) none;
      customers = λ id. ap (option_map abstract_customer) (put id) ∙ mapped_put abstract_customer (customer.id == id) c.in_ok-copy.copy customer (old id) c.in_ok-copy.ensures;
    }
