-- The limits of quantities, prices, amounts and ids.
use Rattle.std.specs.Prelude.{ℕ, Bool, ◌&&◌, nat_le}
use Rattle.brk_money.specs.declared.qty.TheConstants.Qty
use Rattle.brk_money.specs.declared.price.TheConstants.Price
use Rattle.brk_money.specs.declared.rate.TheConstants.Rate
use Rattle.brk_money.specs.declared.tax_rate.TheConstants.TaxRate
use Rattle.brk_money.specs.declared.cents.TheConstants.Cents
use Rattle.brk_money.specs.declared.id.TheConstants.Id
use Rattle.brk_money.specs.declared.move_id.TheConstants.MoveId

-- True if the number `n` is from `least` to `greatest`, both included.
abbrev pub is_in_range : ℕ → ℕ → ℕ → Bool
is_in_range least greatest n = nat_le least n && nat_le n greatest

-- The greatest quantity of an order, a commission band or a tick, in shares.
abbrev pub greatest_qty : ℕ
greatest_qty = Qty.GREATEST

-- The greatest price of a share, in cents.
abbrev pub greatest_price : ℕ
greatest_price = Price.GREATEST

-- The greatest charge, in cents.
abbrev pub greatest_charge : ℕ
greatest_charge = 1000000

-- The greatest commission rate, in hundredths of a percent.
abbrev pub greatest_commission_rate : ℕ
greatest_commission_rate = Rate.GREATEST

-- The greatest tax rate, and the greatest sum of a customer's tax rates, in hundred-thousandths.
abbrev pub greatest_tax_rate : ℕ
greatest_tax_rate = TaxRate.GREATEST

-- The greatest absolute value, in cents, of balances, movements, settlements and cash rows
-- (CA_OPEN, CA_BAL, SE_AMT, CT_AMT, CM_AMT), commissions and taxes of trades (T_COMM, T_TAX) and
-- commission totals of brokers (B_COMM_TOTAL); also the greatest volume, in shares (LT_VOL).
abbrev pub greatest_amount : ℕ
greatest_amount = Cents.GREATEST

-- The greatest absolute value of a holding summary, in shares.
abbrev pub greatest_summary_quantity : ℕ
greatest_summary_quantity = 9999999999

-- The greatest id and row number in a key; also the greatest number of trades, and of movements.
abbrev pub greatest_id : ℕ
greatest_id = Id.GREATEST

-- The greatest number of a cash row (CM_ID): the most trades plus the most movements.
abbrev pub greatest_cash_row_number : ℕ
greatest_cash_row_number = MoveId.GREATEST

-- The greatest number of accounts of one customer.
abbrev pub most_accounts_per_customer : ℕ
most_accounts_per_customer = 10
