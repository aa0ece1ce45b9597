-- Bases at their limits.
use Rattle.std.specs.Prelude.{ℕ, pos, false, Some, [], ◌∷◌, map, codes}
use Rattle.std.specs.List.{range_with_len}
use Rattle.brk_money.specs.Moments.{greatest_stamp}
use Rattle.brk_money.specs.declared.trade_type.TradeType.TheVariants.{MarketBuy}
use Rattle.brk_money.specs.declared.status.Status.TheVariants.{Submitted, Completed}
use Rattle.brk_money.specs.declared.tax_status.TaxStatus.TheVariants.{Untaxed}
use Rattle.brk_model.specs.Records.{Account, Trade}
use Rattle.brk_model.specs.Base.{Base}
use Rattle.brk_model_examples.specs.Setting.{setting_base}

-- The base `setting_base` with the greatest stamp as its last stamp.
unfoldable pub base_at_greatest_stamp : Base
base_at_greatest_stamp = record setting_base { last = Some greatest_stamp }

-- The base `setting_base` with ten accounts of its customer in place of its account; they are
-- numbered from 100, untaxed, and have the opening balance 0.
unfoldable pub setting_with_ten_accounts : Base
setting_with_ten_accounts = record setting_base {
  accounts =
      map {B = Account} (λ id. record { id = id; customer = 10; broker = 1; name = codes "Main"; tax_status = Untaxed; opening = pos 0 })
      (range_with_len 100 10);
}

-- The base `setting_base`, in which the volume of the security is one hundred shares below its
-- limit.
unfoldable pub setting_with_volume_near_limit : Base
setting_with_volume_near_limit = record setting_base {
  securities =
      record {
        symbol = codes "ABC";
        name = codes "Acme";
        exchange = codes "NYSE";
        sector = codes "Tech";
        last_price = 1000;
        volume = 99999999999999900;
        moment = 1709251200003;
      } ∷ [];
}

-- A completed margin trade of a security that `setting_base` does not have, with the commission
-- `commission`, in cents.
abbrev pub trade_with_commission : ℕ → Trade
trade_with_commission commission = record {
  id = 1;
  account = 100;
  kind = MarketBuy;
  symbol = codes "XYZ";
  qty = 1;
  bid = 1000;
  is_cash = false;
  is_lifo = false;
  executor = codes "Ann Lee";
  charge = 500;
  commission = commission;
  tax = 0;
  price = Some 1000;
  marks = record { stamp = 1709251200004; status = Submitted } ∷ record { stamp = 1709251200005; status = Completed } ∷ [];
  cash_type = codes "Margin";
  cash_name = [];
}

-- The base `setting_base` with one completed trade, whose commission, `commission` cents, is also
-- the commission total of the broker of its account.
abbrev pub setting_with_commission_total : ℕ → Base
setting_with_commission_total commission = record setting_base { trades = trade_with_commission commission ∷ [] }
