use Rattle.std.proofs.Common.{◌≡◌, ◌==◌, Some, find, option_map, sym}
use Rattle.brk_model.specs.Records.{Customer}
use Rattle.brk_model.specs.Tables.{Tables}
use Rattle.brk_ref.specs.Records.{abstract_customer}
use Rattle.brk_store_required.specs.Required.{IsCustomerWithId}
use Rattle.brk_store_reads.proofs.Retelling.{retold}
use Rattle.brk_store_required.proofs.required.require_customer.Goals as goal

pub returns-in-Some : goal.returns-in-Some
returns-in-Some g c =
    record {
      read = retold g.S.Store c.args.store.now c.customer.new.self (Some c.in-Some.customer) c.in-Some.customer
          (λ o (t : Tables). option_map abstract_customer o ≡ find (λ (r : Customer). r.id == c.args.id) t.customers) (λ customer (t : Tables). IsCustomerWithId t c.args.id customer)
          (λ t e. sym e)
          (rw c.in-Some.is at c.in_ok-customer.ensures.read);
    }
