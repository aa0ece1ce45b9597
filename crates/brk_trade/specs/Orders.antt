-- Orders: their checks, their estimates, and the plan of an accepted one.
use Rattle.std.specs.Prelude.{◌≡◌, ℕ, ◌+◌, not, nat_le, is_none, unwrap_or, if◌then◌else◌, pos}
use Rattle.std.specs.Prelude.{List, [], ◌∷◌, ◌++◌, map, Option, Some, None, option_to_list}
use Rattle.std.specs.Option.{option_map_or}
use Rattle.brk_trade.specs.Estimates.{AreOrderTermsInBase, commission_from_terms}
use Rattle.brk_trade_plans.specs.Replies.{estimate_from_model}
use Rattle.brk_trade_plans.specs.declared.estimate.Estimate.{Estimate}
use Rattle.brk_trade.specs.declared.estimate.Terms.{Terms}
use Rattle.brk_lots.specs.Lots.{shares_of_lots}
use Rattle.brk_lots.specs.Books.{lot_quantity_sum}
use Rattle.brk_lots.specs.Sources.{YieldsPosition}
use Rattle.brk_lots.specs.declared.lot.Lot.{Lot}
use Rattle.brk_model.specs.Base.{Base, completed_trades}
use Rattle.brk_model.specs.Commands as model
use Rattle.brk_model.specs.Derived.{shares_of_position}
use Rattle.brk_model.specs.Orders as model_orders
use Rattle.brk_model.specs.Limits.{greatest_id}
use Rattle.brk_model.specs.Tables as tables
use Rattle.brk_model.specs.Tests.{RefusalCheck, first_refusal}
use Rattle.brk_money.specs.OrderTypes.{trade_type_of_order_type, price_of_order_type}
use Rattle.brk_money.specs.Kinds.{side_of_trade_type, is_market_type}
use Rattle.brk_money.specs.Moments.{stamp_after}
use Rattle.brk_money.specs.Spelling.{Text}
use Rattle.brk_money.specs.declared.refusal.Limit.TheVariants as limit
use Rattle.brk_money.specs.declared.refusal.Refusal.TheVariants.{NoAccount, NoSecurity, NotPermitted, NoCharge, NoRate, Range}
use Rattle.brk_money.specs.declared.tax_status.TaxStatus.TheVariants.{Untaxed}
use Rattle.brk_ref_orders.specs.declared.order.Order.{Order}
use Rattle.brk_ref.specs.Records.{abstract_executor}
use Rattle.brk_trade_plans.specs.Reference.{later_stamp_check}
use Rattle.brk_ref.specs.Rows.{abstract_trade_row}
use Rattle.brk_trade_rows.specs.declared.change.Change.{Change}
use Rattle.brk_trade_rows.specs.declared.change.Change.TheVariants as change
use Rattle.brk_trade.specs.declared.order.Placement.{Placement}
use Rattle.brk_trade.specs.declared.order.OrderPlanFacts.{OrderPlanFacts}
use Rattle.brk_trade_plans.specs.declared.plan.Plan.{Plan}
use Rattle.brk_trade_plans.specs.declared.reply.Reply.{Reply}
use Rattle.brk_trade_plans.specs.declared.reply.Reply.TheVariants.{Ordered, Estimated}
use Rattle.brk_ref.specs.declared.request_row.RequestRow.{RequestRow}
use Rattle.brk_ref.specs.declared.trade_row.TradeRow.{TradeRow}

-- The checks of an order, in this order: account and security exist (`NoAccount`, `NoSecurity`),
-- the executor is permitted (`NotPermitted`), a charge and a rate apply (`NoCharge`, `NoRate`).
abbrev pub order_checks : OrderPlanFacts → List RefusalCheck
order_checks found =
    (is_none found.account, NoAccount) ∷ (is_none found.last_price, NoSecurity) ∷ (not found.is_permitted, NotPermitted)
    ∷ (is_none found.charge, NoCharge) ∷ (is_none found.rate, NoRate) ∷ []

-- The price that `order` asks for, or `last` if it asks for none, both in cents.
abbrev pub requested_or_last_price : Order → ℕ → ℕ
requested_or_last_price order last = unwrap_or (price_of_order_type order.order_type) last

-- The terms of `order` from the facts `found`; a missing number counts as 0, an account as untaxed.
abbrev pub terms_of_order : Order → OrderPlanFacts → Terms
terms_of_order order found = record {
  side = side_of_trade_type (trade_type_of_order_type order.order_type);
  qty = order.qty;
  price = requested_or_last_price order (unwrap_or found.last_price 0);
  tax_status = option_map_or (λ a. a.tax_status) found.account Untaxed;
  rates = found.rates;
  rate = unwrap_or found.rate 0;
  charge = unwrap_or found.charge 0;
  assets = found.assets;
  held = unwrap_or found.summary (pos 0);
}

-- `order` passes its checks, and `placement` has its terms and the broker of its account.
pub record IsCheckedPlacement (order : Order) (found : OrderPlanFacts) (placement : Placement) : Type 0 where
  pub tested : first_refusal (order_checks found) ≡ None
  pub terms : placement.terms ≡ terms_of_order order found
  pub broker : placement.broker ≡ option_map_or (λ a. a.broker) found.account 0

-- For every base and order with the terms `terms` in it, `estimate` equals the model's, if the lots
-- `ls` of a position have the open shares of its account and symbol, the source may return them
-- (`given`) from the end that the order closes first, and they sum to `terms.held`.
abbrev pub MatchesModelEstimate : Terms → (List Lot → Type 0) → Estimate → Type 0
MatchesModelEstimate terms given estimate =
    (base : Base) (o : model.Order) (ls : List Lot) → AreOrderTermsInBase base o terms
    → shares_of_position (completed_trades base) o.account o.symbol ≡ shares_of_lots ls
    → YieldsPosition given o.is_lifo ls → terms.held ≡ lot_quantity_sum ls → estimate ≡ estimate_from_model (model_orders.estimate base o)

-- `order` passes its checks against the facts `found`, and `estimate` is the model's estimate for
-- its terms and the lots that the source may return (`MatchesModelEstimate`).
pub record EstimatesCheckedOrder (order : Order) (found : OrderPlanFacts) (given : List Lot → Type 0) (estimate : Estimate) : Type 0 where
  pub accepted : first_refusal (order_checks found) ≡ None
  pub estimated : MatchesModelEstimate (terms_of_order order found) given estimate

-- `reply` has an estimate of `order` by the checked facts `found` (`EstimatesCheckedOrder`).
pub record RepliesWithEstimate (order : Order) (found : OrderPlanFacts) (given : List Lot → Type 0) (reply : Reply) : Type 0 where
  pub estimate : Estimate
  pub replied : reply ≡ Estimated estimate
  pub checked : EstimatesCheckedOrder order found given estimate

-- The check that a free id exists for a new trade (`Range(Trades)`): `last`, the greatest id of a
-- trade, if there is one, is below the limit (`greatest_id`).
abbrev pub free_trade_id_check : Option ℕ → RefusalCheck
free_trade_id_check last = (nat_le greatest_id (unwrap_or last 0), Range limit.Trades)

-- The id of the next trade: the greatest id of a trade plus 1, or 1 if there are no trades.
abbrev pub next_trade_id : Option ℕ → ℕ
next_trade_id last = unwrap_or last 0 + 1

-- The TRADE row of `order` with the terms `terms`, the id `trade`, the stamp `stamp`, and these
-- texts. It has the first status of its type, the price of the terms as its bid price, their charge
-- and commission, no completion price, and tax 0.
abbrev pub trade_row_with_texts : Order → Terms → (trade stamp : ℕ) → (symbol executor : Text) → tables.TradeRow
trade_row_with_texts order terms trade stamp symbol executor = record {
  id = trade;
  stamp = stamp;
  status = model_orders.first_status (trade_type_of_order_type order.order_type);
  kind = trade_type_of_order_type order.order_type;
  is_cash = order.is_cash;
  symbol = symbol;
  qty = order.qty;
  bid = terms.price;
  account = order.account;
  executor = executor;
  price = None;
  charge = terms.charge;
  commission = commission_from_terms terms;
  tax = 0;
  is_lifo = order.is_lifo;
}

-- The TRADE row of `order`, with its symbol and the name of its executor (`trade_row_with_texts`).
abbrev pub trade_row_of_order : Order → Terms → (trade stamp : ℕ) → tables.TradeRow
trade_row_of_order order terms trade stamp =
    trade_row_with_texts order terms trade stamp order.symbol (model_orders.executor_name (abstract_executor order.executor))

-- The TRADE_REQUEST row of `trade`, which `order` placed with the terms `terms`, or none if the
-- order is a market order. `broker` is the broker of the order's account.
abbrev pub request_row_of_order : Order → Terms → (broker trade : ℕ) → Option RequestRow
request_row_of_order order terms broker trade =
    if is_market_type (trade_type_of_order_type order.order_type) then None
    else Some (record {
      trade = trade;
      kind = trade_type_of_order_type order.order_type;
      symbol = order.symbol;
      qty = order.qty;
      bid = terms.price;
      broker = broker;
    })

-- The row changes that add a trade: TRADE, first TRADE_HISTORY, request, if any, last stamp.
abbrev pub row_changes_of_order : TradeRow → Option RequestRow → List Change
row_changes_of_order row request =
    change.AddTrade row ∷ change.AddHistory (record { trade = row.id; status = row.status; stamp = row.stamp })
    ∷ map change.AddRequest (option_to_list request) ++ change.SetLastStamp row.stamp ∷ []

-- `changes` are the row changes that add `trade`, which `order` placed with `terms` at `stamp`.
pub record AreOrderChanges (order : Order) (terms : Terms) (broker trade stamp : ℕ) (changes : List Change) : Type 0 where
  pub row : TradeRow
  pub added : abstract_trade_row row ≡ trade_row_of_order order terms trade stamp
  pub changed : changes ≡ row_changes_of_order row (request_row_of_order order terms broker trade)

-- `plan` adds the trade of `order` at the stamp of the command, with the next id. `found` are the
-- facts in the tables, `given` is true of the lots that the source may return, `last` is the last
-- stamp, `now` the clock reading. The order passes its checks, a free id and a later stamp exist,
-- and the reply has the stamp, the id, the first status and the estimate (`MatchesModelEstimate`).
pub record IsOrderPlan (order : Order) (found : OrderPlanFacts) (given : List Lot → Type 0) (last : Option ℕ) (now : ℕ) (plan : Plan) : Type 0 where
  pub stamp : ℕ
  pub estimate : Estimate
  pub accepted : first_refusal (order_checks found ++ free_trade_id_check found.last_trade ∷ later_stamp_check last now ∷ []) ≡ None
  pub stamped : stamp_after last now ≡ Some stamp
  pub estimated : MatchesModelEstimate (terms_of_order order found) given estimate
  pub replied : plan.reply
      ≡ Ordered (record {
        stamp = stamp;
        trade = next_trade_id found.last_trade;
        status = model_orders.first_status (trade_type_of_order_type order.order_type);
        estimate = estimate;
      })
  pub changes : AreOrderChanges order (terms_of_order order found) (option_map_or (λ a. a.broker) found.account 0)
      (next_trade_id found.last_trade) stamp plan.changes.items
