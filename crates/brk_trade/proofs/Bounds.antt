-- Commissions and taxes of trades within their limits.
use Rattle.std.proofs.Common.{ℕ, ◌*◌, ◌≤◌, ℤ, pos, negsuc, ◌-ℤ◌, ◌≤ℤ◌, arith, mul-le-mul}
use Rattle.std.proofs.lemmas.Int.{ints}
use Rattle.brk_trade.specs.Estimates.{tax_on_gain_at_status}
use Rattle.brk_trade.specs.Outcomes.{greatest_trade_value}
use Rattle.brk_model.specs.Limits.{greatest_price, greatest_qty, greatest_commission_rate, greatest_tax_rate}
use Rattle.brk_lots.specs.declared.closed_values.Values.{Values}
use Rattle.brk_money.specs.Amounts.{commission, half_up, tax}
use Rattle.brk_money.specs.declared.tax_status.TaxStatus.{TaxStatus}
use Rattle.brk_money.specs.declared.tax_status.TaxStatus.TheVariants.{Untaxed, Withheld, Reported}

halved : (n : ℕ) → n ≤ 10000 * greatest_trade_value → half_up n 10000 ≤ greatest_trade_value
halved n h = omega arith

-- a commission is not above the greatest value of a trade
pub commission_high : (rate qty price : ℕ) → rate ≤ greatest_commission_rate → qty ≤ greatest_qty → price ≤ greatest_price → commission rate qty price ≤ greatest_trade_value
commission_high rate qty price r q p =
    let shares : rate * qty ≤ greatest_commission_rate * greatest_qty = mul-le-mul r q in
    let all : rate * qty * price ≤ greatest_commission_rate * greatest_qty * greatest_price = mul-le-mul shares p in
    halved (rate * qty * price) (omega (arith, all))

taxed : (n : ℕ) → n ≤ 100000 * greatest_trade_value → half_up n 100000 ≤ greatest_trade_value
taxed n h = omega arith

tax_high : (gain : ℤ) (rates : ℕ) → gain ≤ℤ pos greatest_trade_value → rates ≤ greatest_tax_rate → tax gain rates ≤ greatest_trade_value
tax_high (pos gain) rates g r =
    let most : gain ≤ greatest_trade_value = omega (arith, ints, g) in
    let all : gain * rates ≤ greatest_trade_value * greatest_tax_rate = mul-le-mul most r in
    taxed (gain * rates) (omega (arith, all))
tax_high (negsuc n) rates g r = omega arith

less_paid : (sold bought : ℕ) → sold ≤ greatest_trade_value → (pos sold -ℤ pos bought) ≤ℤ pos greatest_trade_value
less_paid sold bought s = omega (arith, ints)

-- a tax is not above the greatest value of a trade
pub tax_at_high : (status : TaxStatus) (rates : ℕ) (values : Values) → rates ≤ greatest_tax_rate → values.sell_value ≤ greatest_trade_value
    → tax_on_gain_at_status status rates values ≤ greatest_trade_value
tax_at_high Untaxed rates values r s = omega arith
tax_at_high Withheld rates values r s = tax_high (pos values.sell_value -ℤ pos values.buy_value) rates (less_paid values.sell_value values.buy_value s) r
tax_at_high Reported rates values r s = tax_high (pos values.sell_value -ℤ pos values.buy_value) rates (less_paid values.sell_value values.buy_value s) r
