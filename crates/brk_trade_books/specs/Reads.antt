-- Lookups in tables before a record is added.
use Rattle.std.specs.Prelude.{ℕ, ◌==◌, ◌&&◌, Bool, List, length, filter, find, sum_by, is_some, Option, option_map, unwrap_or, bytes_eq}
use Rattle.std.specs.List.{list_any}
use Rattle.brk_money.specs.Spelling.{Text}
use Rattle.brk_money.specs.Kinds.{is_same_trade_type}
use Rattle.brk_money.specs.declared.trade_type.TradeType.{TradeType}
use Rattle.brk_model.specs.Records.{Band, TaxRate}
use Rattle.brk_model.specs.Base.{tax_rate_with_id_in_list}
use Rattle.brk_model.specs.Tables.{Tables}
use Rattle.brk_model.specs.Tests.{bands_overlap}

-- True if the tables contain a customer with the tax id `tax_id`.
abbrev pub contains_customer_with_tax_id : Tables → Text → Bool
contains_customer_with_tax_id t tax_id = is_some (find (λ r. bytes_eq r.tax_id tax_id) t.customers)

-- The number of accounts of the customer with the id `customer`.
abbrev pub account_count_of_customer : Tables → ℕ → ℕ
account_count_of_customer t customer = length (filter (λ r. r.customer == customer) t.accounts)

-- True if the tables contain a permission of the account `account` for the tax id `tax_id`.
abbrev pub contains_permission : Tables → ℕ → Text → Bool
contains_permission t account tax_id = is_some (find (λ r. (r.account == account) && bytes_eq r.tax_id tax_id) t.permissions)

-- True if the tables contain a charge for the trade type `kind` and the customer tier `tier`.
abbrev pub contains_charge : Tables → TradeType → ℕ → Bool
contains_charge t kind tier = is_some (find (λ r. is_same_trade_type r.kind kind && (r.tier == tier)) t.charges)

-- The bands of the tier `tier`, the type `kind` and the exchange `exchange`, in the table's order.
abbrev pub commission_bands_of_tier_type_and_exchange : Tables → ℕ → TradeType → Text → List Band
commission_bands_of_tier_type_and_exchange t tier kind exchange =
    filter (λ r. (r.tier == tier) && is_same_trade_type r.kind kind && bytes_eq r.exchange exchange) t.bands

-- True if a band in the tables overlaps the band `b` (`bands_overlap`).
abbrev pub overlaps_some_band : Tables → Band → Bool
overlaps_some_band t b = list_any (bands_overlap b) (commission_bands_of_tier_type_and_exchange t b.tier b.kind b.exchange)

-- The first tax rate, in the order of the table, with the id `id`, or `None` if there is none.
abbrev pub tax_rate_with_id : Tables → ℕ → Option TaxRate
tax_rate_with_id t id = tax_rate_with_id_in_list t.tax_rates id

-- True if the tables contain a tax rate with the id `id`.
abbrev pub contains_tax_rate : Tables → ℕ → Bool
contains_tax_rate t id = is_some (tax_rate_with_id t id)

-- The rate of the first tax rate with the id `tax`, in hundred-thousandths, or `None`.
abbrev pub rate_of_tax_rate_with_id : Tables → ℕ → Option ℕ
rate_of_tax_rate_with_id t tax = option_map (λ r. r.rate) (tax_rate_with_id t tax)

-- True if CUSTOMER_TAXRATE has a row with the customer `customer` and the tax rate `tax`.
abbrev pub contains_customer_tax : Tables → ℕ → ℕ → Bool
contains_customer_tax t customer tax = is_some (find (λ r. (r.customer == customer) && (r.tax == tax)) t.customer_taxes)

-- The sum of the customer's tax rates, in hundred-thousandths; a missing tax rate counts as 0.
abbrev pub customer_tax_rate_sum : Tables → ℕ → ℕ
customer_tax_rate_sum t customer = sum_by (λ r. unwrap_or (rate_of_tax_rate_with_id t r.tax) 0) (filter (λ r. r.customer == customer) t.customer_taxes)
