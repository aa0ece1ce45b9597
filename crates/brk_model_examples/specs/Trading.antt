-- Six completed trades, of which the third has two variants, and the bases after them.
use Rattle.std.specs.Prelude.{ℕ, true, false, Some, List, [], ◌∷◌, codes}
use Rattle.brk_money.specs.declared.trade_type.TradeType.TheVariants.{MarketBuy, MarketSell}
use Rattle.brk_money.specs.declared.status.Status.TheVariants.{Completed, Submitted}
use Rattle.brk_model.specs.Records.{Trade}
use Rattle.brk_model.specs.Base.{Base}
use Rattle.brk_model_examples.specs.Setting.{setting_base}

-- Trade 1, completed: a cash purchase of 100 shares at 10.10.
abbrev pub first_purchase : Trade
first_purchase = record {
  id = 1;
  account = 100;
  kind = MarketBuy;
  symbol = codes "ABC";
  qty = 100;
  bid = 1000;
  is_cash = true;
  is_lifo = false;
  executor = codes "Ann Lee";
  charge = 500;
  commission = 1010;
  tax = 0;
  price = Some 1010;
  marks = record { stamp = 1709251200016; status = Submitted } ∷ record { stamp = 1709251200017; status = Completed } ∷ [];
  cash_type = codes "Cash Account";
  cash_name = codes "Market-Buy 100 shares of Acme";
}

-- Trade 2, completed: a cash purchase of 200 shares at 12.00.
abbrev pub second_purchase : Trade
second_purchase = record {
  id = 2;
  account = 100;
  kind = MarketBuy;
  symbol = codes "ABC";
  qty = 200;
  bid = 1000;
  is_cash = true;
  is_lifo = false;
  executor = codes "Ann Lee";
  charge = 500;
  commission = 2400;
  tax = 0;
  price = Some 1200;
  marks = record { stamp = 1709251200018; status = Submitted } ∷ record { stamp = 1709251200019; status = Completed } ∷ [];
  cash_type = codes "Cash Account";
  cash_name = codes "Market-Buy 200 shares of Acme";
}

-- Trade 3, completed: a cash sale of 150 shares at 13.00, first in first out.
abbrev pub sale_first_in_first_out : Trade
sale_first_in_first_out = record {
  id = 3;
  account = 100;
  kind = MarketSell;
  symbol = codes "ABC";
  qty = 150;
  bid = 1000;
  is_cash = true;
  is_lifo = false;
  executor = codes "Ann Lee";
  charge = 500;
  commission = 1950;
  tax = 6800;
  price = Some 1300;
  marks = record { stamp = 1709251200020; status = Submitted } ∷ record { stamp = 1709251200021; status = Completed } ∷ [];
  cash_type = codes "Cash Account";
  cash_name = codes "Market-Sell 150 shares of Acme";
}

-- Trade 3, completed: a cash sale of 150 shares at 13.00, last in first out.
abbrev pub sale_last_in_first_out : Trade
sale_last_in_first_out = record {
  id = 3;
  account = 100;
  kind = MarketSell;
  symbol = codes "ABC";
  qty = 150;
  bid = 1000;
  is_cash = true;
  is_lifo = true;
  executor = codes "Ann Lee";
  charge = 500;
  commission = 1950;
  tax = 3000;
  price = Some 1300;
  marks = record { stamp = 1709251200020; status = Submitted } ∷ record { stamp = 1709251200021; status = Completed } ∷ [];
  cash_type = codes "Cash Account";
  cash_name = codes "Market-Sell 150 shares of Acme";
}

-- Trade 4, completed: a cash sale of 400 shares at 13.00, which closes a long position of 150
-- shares and opens a short one of 250.
abbrev pub short_sale : Trade
short_sale = record {
  id = 4;
  account = 100;
  kind = MarketSell;
  symbol = codes "ABC";
  qty = 400;
  bid = 1000;
  is_cash = true;
  is_lifo = false;
  executor = codes "Ann Lee";
  charge = 500;
  commission = 5200;
  tax = 3000;
  price = Some 1300;
  marks = record { stamp = 1709251200022; status = Submitted } ∷ record { stamp = 1709251200023; status = Completed } ∷ [];
  cash_type = codes "Cash Account";
  cash_name = codes "Market-Sell 400 shares of Acme";
}

-- Trade 5, completed: a cash purchase of 300 shares at 11.00, which closes the short position of
-- 250 shares and opens a long one of 50.
abbrev pub short_covering_purchase : Trade
short_covering_purchase = record {
  id = 5;
  account = 100;
  kind = MarketBuy;
  symbol = codes "ABC";
  qty = 300;
  bid = 1000;
  is_cash = true;
  is_lifo = false;
  executor = codes "Ann Lee";
  charge = 500;
  commission = 3300;
  tax = 10000;
  price = Some 1100;
  marks = record { stamp = 1709251200024; status = Submitted } ∷ record { stamp = 1709251200025; status = Completed } ∷ [];
  cash_type = codes "Cash Account";
  cash_name = codes "Market-Buy 300 shares of Acme";
}

-- Trade 6, completed: a cash sale of 50 shares at 11.00, which closes the whole position.
abbrev pub sale_of_all_shares : Trade
sale_of_all_shares = record {
  id = 6;
  account = 100;
  kind = MarketSell;
  symbol = codes "ABC";
  qty = 50;
  bid = 1000;
  is_cash = true;
  is_lifo = false;
  executor = codes "Ann Lee";
  charge = 500;
  commission = 550;
  tax = 0;
  price = Some 1100;
  marks = record { stamp = 1709251200026; status = Submitted } ∷ record { stamp = 1709251200027; status = Completed } ∷ [];
  cash_type = codes "Cash Account";
  cash_name = codes "Market-Sell 50 shares of Acme";
}

-- The base `setting_base` with the trades `trades` and the last stamp `last`.
abbrev pub setting_with_trades : List Trade → ℕ → Base
setting_with_trades trades last = record setting_base { trades = trades; last = Some last }

-- The base `setting_base` after the trade `first_purchase`, without stored rows and replies.
unfoldable pub base_after_first_purchase : Base
base_after_first_purchase = setting_with_trades (first_purchase ∷ []) 1709251200017

-- The base `setting_base` after the trades `first_purchase` and `second_purchase`, without stored
-- rows and replies.
unfoldable pub base_after_two_purchases : Base
base_after_two_purchases = setting_with_trades (first_purchase ∷ second_purchase ∷ []) 1709251200019

-- The base `setting_base` after the trades `first_purchase`, `second_purchase` and
-- `sale_first_in_first_out`, without stored rows and replies.
unfoldable pub base_after_fifo_sale : Base
base_after_fifo_sale = setting_with_trades (first_purchase ∷ second_purchase ∷ sale_first_in_first_out ∷ []) 1709251200021

-- The base `setting_base` after the trades `first_purchase`, `second_purchase` and
-- `sale_last_in_first_out`, without stored rows and replies.
unfoldable pub base_after_lifo_sale : Base
base_after_lifo_sale = setting_with_trades (first_purchase ∷ second_purchase ∷ sale_last_in_first_out ∷ []) 1709251200021

-- The base `base_after_fifo_sale` after the trade `short_sale`, without stored rows and replies.
unfoldable pub base_after_short_sale : Base
base_after_short_sale = setting_with_trades (first_purchase ∷ second_purchase ∷ sale_first_in_first_out ∷ short_sale ∷ []) 1709251200023

-- The base `base_after_short_sale` after the trade `short_covering_purchase`, without stored rows
-- and replies.
unfoldable pub base_after_covering_purchase : Base
base_after_covering_purchase =
    setting_with_trades (first_purchase ∷ second_purchase ∷ sale_first_in_first_out ∷ short_sale ∷ short_covering_purchase ∷ []) 1709251200025

-- The base `base_after_covering_purchase` after the trade `sale_of_all_shares`, without stored rows
-- and replies.
unfoldable pub base_after_sale_of_all : Base
base_after_sale_of_all =
    setting_with_trades
    (first_purchase ∷ second_purchase ∷ sale_first_in_first_out ∷ short_sale ∷ short_covering_purchase ∷ sale_of_all_shares ∷ []) 1709251200027
