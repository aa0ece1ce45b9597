-- More trades than a view shows, and a security whose name contains ` shares of `, as cash rows do.
use Rattle.std.specs.Prelude.{ℕ, ◌+◌, ◌*◌, true, false, Some, None, List, [], ◌∷◌, map, flat_map, Result, Ok, Err, bytes_eq, codes, if◌then◌else◌}
use Rattle.std.specs.List.{range_with_len}
use Rattle.brk_money.specs.Spelling.{Text}
use Rattle.brk_money.specs.declared.refusal.Refusal.{Refusal}
use Rattle.brk_money.specs.declared.trade_type.TradeType.TheVariants.{LimitSell, MarketBuy}
use Rattle.brk_money.specs.declared.status.Status.TheVariants.{Completed, Pending, Submitted}
use Rattle.brk_model.specs.Records.{Trade}
use Rattle.brk_model.specs.Base.{Base}
use Rattle.brk_model.specs.Queries.{View}
use Rattle.brk_model_examples.specs.Setting.{setting_base}

-- A pending trade with the id `n`: a limit sell of 10 shares at 10.50, which was accepted `n`
-- milliseconds after the last stamp of `setting_base`.
abbrev pub pending_limit_sale : ℕ → Trade
pending_limit_sale n = record {
  id = n;
  account = 100;
  kind = LimitSell;
  symbol = codes "ABC";
  qty = 10;
  bid = 1050;
  is_cash = true;
  is_lifo = false;
  executor = codes "Ann Lee";
  charge = 500;
  commission = 105;
  tax = 0;
  price = None;
  marks = record { stamp = 1709251200015 + n; status = Pending } ∷ [];
  cash_type = [];
  cash_name = [];
}

-- The base `setting_base` with fifty-one pending limit sells, numbered from 1; its last stamp is
-- the stamp of the last of them.
unfoldable pub setting_with_fifty_one_pending_trades : Base
setting_with_fifty_one_pending_trades = record setting_base { trades = map pending_limit_sale (range_with_len 1 51); last = Some 1709251200066 }

-- A completed trade with the id `n`: a purchase of one share on margin at 10.00. It was submitted
-- `2 * n - 1` and completed `2 * n` milliseconds after the last stamp of `setting_base`.
abbrev pub margin_purchase : ℕ → Trade
margin_purchase n = record {
  id = n;
  account = 100;
  kind = MarketBuy;
  symbol = codes "ABC";
  qty = 1;
  bid = 1000;
  is_cash = false;
  is_lifo = false;
  executor = codes "Ann Lee";
  charge = 500;
  commission = 10;
  tax = 0;
  price = Some 1000;
  marks = record { stamp = 1709251200014 + 2 * n; status = Submitted } ∷ record { stamp = 1709251200015 + 2 * n; status = Completed } ∷ [];
  cash_type = codes "Margin";
  cash_name = [];
}

-- The base `setting_base` with twenty-one completed purchases of one share on margin, numbered from
-- 1; its last stamp is the completion stamp of the last of them.
unfoldable pub setting_with_twenty_one_margin_purchases : Base
setting_with_twenty_one_margin_purchases = record setting_base { trades = map margin_purchase (range_with_len 1 21); last = Some 1709251200057 }

-- The base `setting_base`, in which the name of the security contains ` shares of `.
unfoldable pub setting_with_misleading_security_name : Base
setting_with_misleading_security_name = record setting_base {
  securities =
      record {
        symbol = codes "ABC";
        name = codes "Big shares of Small";
        exchange = codes "NYSE";
        sector = codes "Tech";
        last_price = 1000;
        volume = 0;
        moment = 1709251200003;
      } ∷ [];
}

-- The second field of a record of a view, as a list of one element, if the first field is the word
-- `trade`; otherwise, or without a second field, the empty list.
abbrev pub trade_ids_of_record : List Text → List Text
trade_ids_of_record (word ∷ id ∷ fields) = if bytes_eq word (codes "trade") then id ∷ [] else []
trade_ids_of_record _ = []

-- The second fields of those records of a view whose first field is the word `trade`, in sequence;
-- the empty list if the query is refused.
abbrev pub trade_ids_of_view : Result View Refusal → List Text
trade_ids_of_view (Ok view) = flat_map trade_ids_of_record view
trade_ids_of_view (Err refusal) = []

-- The first field of a record; empty if it has no field.
abbrev pub first_field_of_record : List Text → Text
first_field_of_record [] = []
first_field_of_record (field ∷ fields) = field

-- The first field of each record of a view, in sequence, empty for a record without fields; the
-- empty list if the query is refused.
abbrev pub first_fields_of_view : Result View Refusal → List Text
first_fields_of_view (Ok view) = map first_field_of_record view
first_fields_of_view (Err refusal) = []
