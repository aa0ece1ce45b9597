-- The tables after the first purchase, and variants of them that another program changed.
use Rattle.std.specs.Prelude.{ℕ, ℤ, ◌+ℤ◌, ◌++◌, map, pos, negsuc, true, false, Some, None, [], ◌∷◌, codes}
use Rattle.brk_money.specs.Spelling.{Text}
use Rattle.brk_money.specs.declared.trade_type.TradeType.TheVariants.{MarketBuy, MarketSell, StopLoss, LimitSell, LimitBuy}
use Rattle.brk_money.specs.declared.status.Status.TheVariants.{Completed, Submitted}
use Rattle.brk_money.specs.declared.tax_status.TaxStatus.TheVariants.{Withheld}
use Rattle.brk_model.specs.Tables.{Tables, AccountRow, TradeRow, HoldingRow, SettlementRow, CashRow}
use Rattle.brk_model_examples.specs.Setting.{setting_base}

-- The tables of the base `base_after_first_purchase` in the third schema, each sorted by key,
-- ascending: those after a completed purchase of 100 shares at 10.10.
unfoldable pub tables_after_first_purchase : Tables
tables_after_first_purchase = record {
  last = Some 1709251200017;
  kept = [];
  brokers = record { id = 1; name = codes "Bo"; trades = pos 1; commissions = 1010 } ∷ [];
  customers = setting_base.customers;
  accounts = record { id = 100; customer = 10; broker = 1; name = codes "Main"; tax_status = Withheld; opening = pos 1000000; balance = pos 897490 } ∷ [];
  permissions = [];
  securities = record { symbol = codes "ABC"; name = codes "Acme"; exchange = codes "NYSE"; sector = codes "Tech" } ∷ [];
  last_trades = record { symbol = codes "ABC"; stamp = 1709251200003; price = 1000; volume = 0 } ∷ [];
  charges =
      record { kind = LimitBuy; tier = 1; amount = 500 }
      ∷ record { kind = LimitSell; tier = 1; amount = 500 }
      ∷ record { kind = MarketBuy; tier = 1; amount = 500 }
      ∷ record { kind = MarketSell; tier = 1; amount = 500 }
      ∷ record { kind = StopLoss; tier = 1; amount = 500 } ∷ [];
  bands =
      record { tier = 1; kind = LimitBuy; exchange = codes "NYSE"; from_qty = 1; to_qty = 999999; rate = 100 }
      ∷ record { tier = 1; kind = LimitSell; exchange = codes "NYSE"; from_qty = 1; to_qty = 999999; rate = 100 }
      ∷ record { tier = 1; kind = MarketBuy; exchange = codes "NYSE"; from_qty = 1; to_qty = 999999; rate = 100 }
      ∷ record { tier = 1; kind = MarketSell; exchange = codes "NYSE"; from_qty = 1; to_qty = 999999; rate = 100 }
      ∷ record { tier = 1; kind = StopLoss; exchange = codes "NYSE"; from_qty = 1; to_qty = 999999; rate = 100 } ∷ [];
  tax_rates = setting_base.tax_rates;
  customer_taxes = setting_base.customer_taxes;
  trades = record {
    id = 1;
    stamp = 1709251200017;
    status = Completed;
    kind = MarketBuy;
    is_cash = true;
    symbol = codes "ABC";
    qty = 100;
    bid = 1000;
    account = 100;
    executor = codes "Ann Lee";
    price = Some 1010;
    charge = 500;
    commission = 1010;
    tax = 0;
    is_lifo = false;
  } ∷ [];
  history = record { trade = 1; status = Completed; stamp = 1709251200017 } ∷ record { trade = 1; status = Submitted; stamp = 1709251200016 } ∷ [];
  requests = [];
  holdings = record { trade = 1; account = 100; symbol = codes "ABC"; stamp = 1709251200017; price = 1010; qty = pos 100 } ∷ [];
  summaries = record { account = 100; symbol = codes "ABC"; qty = pos 100 } ∷ [];
  holding_history = record { lot = 1; trade = 1; before = pos 0; after = pos 100 } ∷ [];
  settlements = record { trade = 1; cash_type = codes "Cash Account"; due_day = 19785; amount = negsuc 102509 } ∷ [];
  cash = [];
  moves = record { id = 1; account = 100; trade = Some 1; stamp = 1709251200017; amount = negsuc 102509; name = codes "Market-Buy 100 shares of Acme" } ∷ [];
  rule = None;
}

-- The tables after the first purchase in the first schema, each sorted by key, ascending: the cash
-- row is in CASH_TRANSACTION, not in CASH_MOVE.
unfoldable pub first_schema_tables_after_purchase : Tables
first_schema_tables_after_purchase = record tables_after_first_purchase {
  cash = record { trade = 1; stamp = 1709251200017; amount = negsuc 102509; name = codes "Market-Buy 100 shares of Acme" } ∷ [];
  moves = [];
}

-- ---- tables that another program changed

-- The tables after the first purchase, in which the trade has the quantity 0.
unfoldable pub tables_with_zero_trade_quantity : Tables
tables_with_zero_trade_quantity =
    record tables_after_first_purchase { trades = map {B = TradeRow} (λ t. record t { qty = 0 }) tables_after_first_purchase.trades }

-- The tables after the first purchase, in which the security has no LAST_TRADE row.
unfoldable pub tables_without_last_trade : Tables
tables_without_last_trade = record tables_after_first_purchase { last_trades = [] }

-- The tables after the first purchase, in which TRADE_HISTORY lacks the row of the submission.
unfoldable pub tables_without_submission : Tables
tables_without_submission = record tables_after_first_purchase { history = record { trade = 1; status = Completed; stamp = 1709251200017 } ∷ [] }

-- The tables after the first purchase, in which the TRADE row has the status `Submitted`, although
-- the last status in the history of the trade is `Completed`.
unfoldable pub tables_with_changed_trade_status : Tables
tables_with_changed_trade_status =
    record tables_after_first_purchase { trades = map {B = TradeRow} (λ t. record t { status = Submitted }) tables_after_first_purchase.trades }

-- The tables after the first purchase, in which the completed trade has a TRADE_REQUEST row.
unfoldable pub tables_with_request_of_completed_trade : Tables
tables_with_request_of_completed_trade =
    record tables_after_first_purchase { requests = record { trade = 1; kind = MarketBuy; symbol = codes "ABC"; qty = 100; bid = 1000; broker = 1 } ∷ [] }

-- The tables after the first purchase, in which the lot has 99 shares instead of 100.
unfoldable pub tables_with_changed_lot_quantity : Tables
tables_with_changed_lot_quantity =
    record tables_after_first_purchase { holdings = map {B = HoldingRow} (λ h. record h { qty = pos 99 }) tables_after_first_purchase.holdings }

-- The tables after the first purchase, in which the lot has the price 10.11 instead of 10.10.
unfoldable pub tables_with_changed_lot_price : Tables
tables_with_changed_lot_price =
    record tables_after_first_purchase { holdings = map {B = HoldingRow} (λ h. record h { price = 1011 }) tables_after_first_purchase.holdings }

-- The tables after the first purchase, in which the trade has the completion price 10.11 instead of
-- 10.10.
unfoldable pub tables_with_changed_trade_price : Tables
tables_with_changed_trade_price =
    record tables_after_first_purchase { trades = map {B = TradeRow} (λ t. record t { price = Some 1011 }) tables_after_first_purchase.trades }

-- The tables after the first purchase, in which the HOLDING_HISTORY row has the quantity 99 after
-- the trade instead of 100.
unfoldable pub tables_with_changed_holding_history : Tables
tables_with_changed_holding_history =
    record tables_after_first_purchase { holding_history = record { lot = 1; trade = 1; before = pos 0; after = pos 99 } ∷ [] }

-- The tables after the first purchase, in which the holding summary has 101 shares instead of 100.
unfoldable pub tables_with_changed_summary : Tables
tables_with_changed_summary = record tables_after_first_purchase { summaries = record { account = 100; symbol = codes "ABC"; qty = pos 101 } ∷ [] }

-- The tables after the first purchase, in which the broker has a trade count of 2 instead of 1.
unfoldable pub tables_with_changed_trade_count : Tables
tables_with_changed_trade_count = record tables_after_first_purchase { brokers = record { id = 1; name = codes "Bo"; trades = pos 2; commissions = 1010 } ∷ [] }

-- The tables after the first purchase, in which the commission total of the broker is 10.11 instead
-- of 10.10.
unfoldable pub tables_with_changed_commission_total : Tables
tables_with_changed_commission_total =
    record tables_after_first_purchase { brokers = record { id = 1; name = codes "Bo"; trades = pos 1; commissions = 1011 } ∷ [] }

-- The tables after the first purchase, in which the commission of the trade is 10.11 instead of
-- 10.10.
unfoldable pub tables_with_changed_trade_commission : Tables
tables_with_changed_trade_commission =
    record tables_after_first_purchase { trades = map {B = TradeRow} (λ t. record t { commission = 1011 }) tables_after_first_purchase.trades }

-- The tables after the first purchase, in which the settlement amount is -1025.09 instead of
-- -1025.10.
unfoldable pub tables_with_changed_settlement : Tables
tables_with_changed_settlement =
    record tables_after_first_purchase {
      settlements = map {B = SettlementRow} (λ s. record s { amount = negsuc 102508 }) tables_after_first_purchase.settlements;
    }

-- The tables after the first purchase, in which the amount of the cash row is -1025.09 instead of
-- -1025.10.
unfoldable pub tables_with_changed_cash_amount : Tables
tables_with_changed_cash_amount =
    record tables_after_first_purchase { moves = map {B = CashRow} (λ r. record r { amount = negsuc 102508 }) tables_after_first_purchase.moves }

-- The tables after the first purchase, in which the cash row has the number 2 instead of 1.
unfoldable pub tables_with_changed_cash_row_number : Tables
tables_with_changed_cash_row_number =
    record tables_after_first_purchase { moves = map {B = CashRow} (λ r. record r { id = 2 }) tables_after_first_purchase.moves }

-- The tables after the first purchase, in which the trade has a second cash row, with the number 2.
unfoldable pub tables_with_second_cash_row_of_trade : Tables
tables_with_second_cash_row_of_trade =
    record tables_after_first_purchase {
      moves = tables_after_first_purchase.moves
          ++ map {B = CashRow} (λ r. record r { id = 2 }) tables_after_first_purchase.moves;
    }

-- The tables after the first purchase, in which CASH_TRANSACTION, the cash table of the first
-- schema, has a cash row of the trade in addition to the one in CASH_MOVE.
unfoldable pub tables_with_cash_row_of_older_schema : Tables
tables_with_cash_row_of_older_schema = record tables_after_first_purchase { cash = first_schema_tables_after_purchase.cash }

-- The tables after the first purchase, in which the trade has 1,000,000 shares, above the limit of
-- the schemas before the third.
unfoldable pub tables_with_trade_above_older_limit : Tables
tables_with_trade_above_older_limit =
    record tables_after_first_purchase { trades = map {B = TradeRow} (λ t. record t { qty = 1000000 }) tables_after_first_purchase.trades }

-- The tables after the first purchase with only one commission band, whose greatest quantity of
-- 9,999,999 shares is above the limit of the schemas before the third.
unfoldable pub tables_with_band_above_older_limit : Tables
tables_with_band_above_older_limit =
    record tables_after_first_purchase {
      bands = record { tier = 1; kind = MarketBuy; exchange = codes "NYSE"; from_qty = 1; to_qty = 9999999; rate = 100 }
          ∷ [];
    }

-- The tables after the first purchase, with 2024-03-02, the day after the completion, as the first
-- day of one-day settlement.
unfoldable pub tables_with_one_day_settlement_after_completion : Tables
tables_with_one_day_settlement_after_completion = record tables_after_first_purchase { rule = Some 19784 }

-- The tables after the first purchase, with 2024-03-01, the day of the completion, as the first day
-- of one-day settlement.
unfoldable pub tables_with_one_day_settlement_at_completion : Tables
tables_with_one_day_settlement_at_completion = record tables_after_first_purchase { rule = Some 19783 }

-- The tables after the first purchase, with a second cash row that has no trade, at `stamp`, of
-- `amount` cents, with the name `name`. The balance includes the amount, and the last stamp is one
-- millisecond after the completion.
abbrev pub tables_with_movement : ℕ → ℤ → Text → Tables
tables_with_movement stamp amount name = record tables_after_first_purchase {
  last = Some 1709251200018;
  moves = tables_after_first_purchase.moves ++ record { id = 2; account = 100; trade = None; stamp = stamp; amount = amount; name = name } ∷ [];
  accounts = map {B = AccountRow} (λ a. record a { balance = a.balance +ℤ amount }) tables_after_first_purchase.accounts;
}

-- The tables after the first purchase, in which the balance of the account is 8974.91 instead of
-- 8974.90.
unfoldable pub tables_with_changed_account_balance : Tables
tables_with_changed_account_balance =
    record tables_after_first_purchase {
      accounts = record { id = 100; customer = 10; broker = 1; name = codes "Main"; tax_status = Withheld; opening = pos 1000000; balance = pos 897491 }
          ∷ [];
    }

-- The tables after the first purchase without lots and holding summaries, which fail two
-- conditions, `Lots` and `Summary`.
unfoldable pub tables_without_lots_and_summaries : Tables
tables_without_lots_and_summaries = record tables_after_first_purchase { holdings = []; summaries = [] }
