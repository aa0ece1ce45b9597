-- Sums of amounts by key.
use Rattle.std.specs.Prelude.{List, filter, ℤ, pos, unwrap_or}
use Rattle.std.specs.declared.cmp.Ordering.{Ordering}
use Rattle.std.specs.Ordering.{is_eq}
use Rattle.std.specs.BTreeMap.{BTreeMap, get}
use Rattle.brk_model.specs.Lists.{total_by}
use Rattle.brk_audit_sums.specs.declared.tally.KeyedAmount.{KeyedAmount}

-- The sum at the key `q` in `sums`, whose keys are ordered by `cmp`, or 0 if the key is missing.
abbrev pub sum_at_key : {K : Type 0} → (K → K → Ordering) → BTreeMap K ℤ → K → ℤ
sum_at_key cmp sums q = unwrap_or (get cmp sums q) (pos 0)

-- The sum of the amounts of those postings whose key is equal to `q` by the order `cmp`.
abbrev pub total_amount_at_key : {K : Type 0} → (K → K → Ordering) → List (KeyedAmount K) → K → ℤ
total_amount_at_key cmp postings q = total_by (λ p. p.amount) (filter (λ p. is_eq (cmp p.key q)) postings)
