-- The sums that the limits of a customer apply to.
use Rattle.std.specs.Prelude.{ℕ, unwrap_or}
use Rattle.std.specs.Ordering.{nat_cmp}
use Rattle.std.specs.BTreeMap.{BTreeMap, get}
use Rattle.std.specs.Option.{option_map_or}
use Rattle.brk_model.specs.Base.{tax_rate_sum_in_lists, tax_rate_with_id_in_list}
use Rattle.brk_model.specs.Tables.{Tables}

-- The sum at the customer id `q` in the map `sums`, or 0 if the map does not contain the id.
abbrev pub sum_at_customer_id : BTreeMap ℕ ℕ → ℕ → ℕ
sum_at_customer_id sums q = unwrap_or (get nat_cmp sums q) 0

-- The rate, in hundred-thousandths, of the first row of TAXRATE with the id `tax`, or 0 if none.
abbrev pub rate_of_tax_rate_or_zero : Tables → ℕ → ℕ
rate_of_tax_rate_or_zero t tax = option_map_or (λ r. r.rate) (tax_rate_with_id_in_list t.tax_rates tax) 0

-- The sum of the tax rates of `customer`, in hundred-thousandths; a missing rate counts as 0.
abbrev pub tax_rate_sum_of_payer : Tables → ℕ → ℕ
tax_rate_sum_of_payer t customer = tax_rate_sum_in_lists t.tax_rates t.customer_taxes customer
