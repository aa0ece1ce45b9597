use Rattle.std.proofs.Common.{◌≡◌, ◌≤◌, length, map, take}
use Rattle.brk_ref.specs.Records.{abstract_customer_tax}
use Rattle.brk_store_index.specs.Terms.{customer_tax_of_age}
use Rattle.brk_store_index.proofs.terms.taxes_of_ages.Given as goal

abbrev pub invariant-loop-place : goal.invariant-loop-place
invariant-loop-place l = record {
  all : map abstract_customer_tax l.all.items ≡ map (customer_tax_of_age l.customer) (take l.place l.ages.items);
  within : l.place ≤ length l.ages.items;
}
