-- The market value of an account's holdings at last prices.
use Rattle.std.specs.Prelude.{◌≡◌, ℕ, ◌==◌, ℤ, filter, map}
use Rattle.brk_model.specs.Lists.{total_by}
use Rattle.brk_model.specs.Tables.{Tables}
use Rattle.brk_ref.specs.Rows.{abstract_summary_row}
use Rattle.brk_store_index.specs.Prices.{market_value_of_summary}
use Rattle.brk_store_required.specs.declared.valuation.ValuedSummaries.{ValuedSummaries}

-- The market value of the account's holding summaries, at last prices, in cents; below 0 if short.
abbrev pub market_value_of_account : Tables → ℕ → ℤ
market_value_of_account t account = total_by (market_value_of_summary t) (filter (λ row. row.account == account) t.summaries)

-- The rows of `held` equal the account's holding summaries in the tables `t`, in table order, and
-- `held.value` is their market value at last prices, in cents.
pub record AreValuedSummariesOfAccount (t : Tables) (account : ℕ) (held : ValuedSummaries) : Type 0 where
  pub rows : map abstract_summary_row held.rows.items ≡ filter (λ r. r.account == account) t.summaries
  pub value : held.value ≡ market_value_of_account t account
