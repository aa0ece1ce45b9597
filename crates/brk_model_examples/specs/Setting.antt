-- The setting of most examples: a broker, a customer, an account, a security, and the trade costs.
use Rattle.std.specs.Prelude.{pos, Some, None, List, [], ◌∷◌, codes}
use Rattle.brk_money.specs.Spelling.{Text}
use Rattle.brk_money.specs.declared.trade_type.TradeType.TheVariants.{MarketBuy, MarketSell, StopLoss, LimitSell, LimitBuy}
use Rattle.brk_money.specs.declared.tax_status.TaxStatus.TheVariants.{Withheld}
use Rattle.brk_model.specs.Base.{Base}

-- The sixteen rows after which most examples begin: a broker, a customer, an account, a security,
-- five charges, five commission bands, a tax rate and a tax of the customer.
abbrev pub setting_rows : List Text
setting_rows =
    codes "broker,1,Bo"
    ∷ codes "customer,10,1,T10,Lee,Ann"
    ∷ codes "account,100,10,1,Main,1,10000.00"
    ∷ codes "security,ABC,Acme,NYSE,Tech,10.00"
    ∷ codes "charge,TMB,1,5.00"
    ∷ codes "charge,TMS,1,5.00"
    ∷ codes "charge,TSL,1,5.00"
    ∷ codes "charge,TLS,1,5.00"
    ∷ codes "charge,TLB,1,5.00"
    ∷ codes "band,1,TMB,NYSE,1,999999,100"
    ∷ codes "band,1,TMS,NYSE,1,999999,100"
    ∷ codes "band,1,TSL,NYSE,1,999999,100"
    ∷ codes "band,1,TLS,NYSE,1,999999,100"
    ∷ codes "band,1,TLB,NYSE,1,999999,100"
    ∷ codes "taxrate,1,State,20000"
    ∷ codes "custtax,10,1" ∷ []

-- The base with which most examples begin: the base after the rows `setting_rows`, executed from
-- the empty base on with `twenty_clock_readings`, without its stored rows and replies.
unfoldable pub setting_base : Base
setting_base = record {
  brokers = record { id = 1; name = codes "Bo" } ∷ [];
  customers = record { id = 10; tier = 1; tax_id = codes "T10"; last_name = codes "Lee"; first_name = codes "Ann" } ∷ [];
  accounts = record { id = 100; customer = 10; broker = 1; name = codes "Main"; tax_status = Withheld; opening = pos 1000000 } ∷ [];
  permissions = [];
  securities =
      record {
        symbol = codes "ABC";
        name = codes "Acme";
        exchange = codes "NYSE";
        sector = codes "Tech";
        last_price = 1000;
        volume = 0;
        moment = 1709251200003;
      } ∷ [];
  charges =
      record { kind = MarketBuy; tier = 1; amount = 500 }
      ∷ record { kind = MarketSell; tier = 1; amount = 500 }
      ∷ record { kind = StopLoss; tier = 1; amount = 500 }
      ∷ record { kind = LimitSell; tier = 1; amount = 500 }
      ∷ record { kind = LimitBuy; tier = 1; amount = 500 } ∷ [];
  bands =
      record { tier = 1; kind = MarketBuy; exchange = codes "NYSE"; from_qty = 1; to_qty = 999999; rate = 100 }
      ∷ record { tier = 1; kind = MarketSell; exchange = codes "NYSE"; from_qty = 1; to_qty = 999999; rate = 100 }
      ∷ record { tier = 1; kind = StopLoss; exchange = codes "NYSE"; from_qty = 1; to_qty = 999999; rate = 100 }
      ∷ record { tier = 1; kind = LimitSell; exchange = codes "NYSE"; from_qty = 1; to_qty = 999999; rate = 100 }
      ∷ record { tier = 1; kind = LimitBuy; exchange = codes "NYSE"; from_qty = 1; to_qty = 999999; rate = 100 } ∷ [];
  tax_rates = record { id = 1; name = codes "State"; rate = 20000 } ∷ [];
  customer_taxes = record { customer = 10; tax = 1 } ∷ [];
  trades = [];
  movements = [];
  rule = None;
  kept = [];
  last = Some 1709251200015;
}
