use Rattle.std.proofs.Common.{◌≡◌, true, ℕ, List, Bor, take, nat_cmp}
use Rattle.std.specs.Prelude.{bytes_eq}
use Rattle.std.specs.List.{list_any}
use Rattle.std.specs.Cmp.Lexicographic.{slice_cmp}
use Rattle.std.specs.BTreeSet.{contains}
use Rattle.brk_audit_form.proofs.OwnTaxIds.{are_own}
use Rattle.brk_audit_form.proofs.tax_ids.have_distinct_tax_ids.Given as goal

abbrev pub invariant-loop-customer : goal.invariant-loop-customer
invariant-loop-customer l = record {
  seen : (q : Bor (List ℕ)) → contains (λ x y. slice_cmp nat_cmp x.now y.now) l.seen q ≡ list_any (λ d. bytes_eq q.now d.tax_id) (take l.customer-index l.customers);
  own : are_own (take l.customer-index l.customers) ≡ true;
}
