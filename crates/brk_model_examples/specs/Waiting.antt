-- Three pending orders.
use Rattle.std.specs.Prelude.{true, false, Some, None, List, [], ◌∷◌, codes}
use Rattle.brk_money.specs.Spelling.{Text}
use Rattle.brk_money.specs.declared.trade_type.TradeType.TheVariants.{StopLoss, LimitSell, LimitBuy}
use Rattle.brk_money.specs.declared.status.Status.TheVariants.{Pending}
use Rattle.brk_model.specs.Base.{Base}
use Rattle.brk_model_examples.specs.Setting.{setting_base}

-- The rows of three orders that are pending once accepted: a stop-loss, a limit buy and a limit
-- sell.
abbrev pub pending_order_rows : List Text
pending_order_rows =
    codes "order,100,TSL,ABC,10,9.50,cash,fifo,Ann,Lee,T10"
    ∷ codes "order,100,TLB,ABC,10,10.00,cash,fifo,Ann,Lee,T10"
    ∷ codes "order,100,TLS,ABC,10,10.50,cash,fifo,Ann,Lee,T10" ∷ []

-- The base after the rows `pending_order_rows`, executed from `setting_base` on with
-- `twenty_clock_readings`, without its stored rows and replies.
unfoldable pub base_with_pending_orders : Base
base_with_pending_orders = record setting_base {
  trades =
      record {
        id = 1;
        account = 100;
        kind = StopLoss;
        symbol = codes "ABC";
        qty = 10;
        bid = 950;
        is_cash = true;
        is_lifo = false;
        executor = codes "Ann Lee";
        charge = 500;
        commission = 95;
        tax = 0;
        price = None;
        marks = record { stamp = 1709251200016; status = Pending } ∷ [];
        cash_type = [];
        cash_name = [];
      }
      ∷ record {
        id = 2;
        account = 100;
        kind = LimitBuy;
        symbol = codes "ABC";
        qty = 10;
        bid = 1000;
        is_cash = true;
        is_lifo = false;
        executor = codes "Ann Lee";
        charge = 500;
        commission = 100;
        tax = 0;
        price = None;
        marks = record { stamp = 1709251200017; status = Pending } ∷ [];
        cash_type = [];
        cash_name = [];
      }
      ∷ record {
        id = 3;
        account = 100;
        kind = LimitSell;
        symbol = codes "ABC";
        qty = 10;
        bid = 1050;
        is_cash = true;
        is_lifo = false;
        executor = codes "Ann Lee";
        charge = 500;
        commission = 105;
        tax = 0;
        price = None;
        marks = record { stamp = 1709251200018; status = Pending } ∷ [];
        cash_type = [];
        cash_name = [];
      } ∷ [];
  last = Some 1709251200018;
}
