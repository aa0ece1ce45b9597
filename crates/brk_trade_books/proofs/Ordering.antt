-- The tables after an order.
use Rattle.std.proofs.Common.{◌≡◌, ℕ, ◌+◌, Bool, true, false, not, cond, [], ◌∷◌, ◌++◌, refl, sym, subst, ◌∙◌, ap, map, filter, length, arith}
use Rattle.std.specs.Prelude.{flat_map}
use Rattle.brk_money.specs.OrderTypes.{trade_type_of_order_type}
use Rattle.brk_money.specs.Kinds.{is_same_trade_status, is_market_type}
use Rattle.brk_money.specs.declared.status.Status.TheVariants.{Completed, Submitted, Pending}
use Rattle.brk_money.specs.declared.trade_type.TradeType.{TradeType}
use Rattle.brk_money.specs.declared.trade_type.TradeType.TheVariants.{MarketBuy, MarketSell, StopLoss, LimitSell, LimitBuy}
use Rattle.brk_model.specs.Records.{Trade}
use Rattle.brk_model.specs.Base.{Base, broker_id_of_account, completed_trades, has_last_status, is_completed}
use Rattle.brk_model.specs.Derived.{pending_trades, shares_of_position, holding_summary_quantity, balance_of_account, trade_count_of_broker, commission_total_of_broker}
use Rattle.brk_model.specs.Schemas.{third_schema}
use Rattle.brk_model.specs.Tables.{HistoryRow, Tables, tables_of_base_in_schema, tables_from_completed_trades, trade_row, history_rows, request_row}
use Rattle.brk_model.specs.Keys.{rows_sorted_by_key, insert_row_by_key, trade_key, history_key, request_key}
use Rattle.brk_model.specs.Sheets.{sheets, tables_sorted_by_key}
use Rattle.brk_model.specs.Commands.{Order}
use Rattle.brk_model.specs.Orders.{trade_of_order, first_status, base_after_order}
use Rattle.brk_model.specs.Names.{TradesAreNumberedFrom}
use Rattle.brk_trade_books.specs.Trading.{tables_after_order, history_row_of_status}
use Rattle.brk_trade_books.proofs.Order.{by_key-append}
use Rattle.brk_trade_books.proofs.Same.{All-mapped, All-filter, flat_map-append}
use Rattle.brk_trade_books.proofs.Places.{filter-one, filter-not_one}
use Rattle.brk_trade_books.proofs.References.{append_nil, new_number, row_last}
use Rattle.brk_trade_books.proofs.Numbering.{ids_other, numbered_below}
use Rattle.brk_trade_books.proofs.Moving.{history_of_others}

pub first_not_completed : (kind : TradeType) → is_same_trade_status (first_status kind) Completed ≡ false
first_not_completed MarketBuy = refl
first_not_completed MarketSell = refl
first_not_completed StopLoss = refl
first_not_completed LimitSell = refl
first_not_completed LimitBuy = refl

-- the rows of an order
abbrev pub rows_ordered : Base → ℕ → Order → Bool → Tables
rows_ordered base stamp o waits = tables_after_order (trade_row (trade_of_order base stamp o)) waits (broker_id_of_account base o.account) (sheets base)

-- an order completes nothing
pub ordered_done : (base : Base) (stamp : ℕ) (o : Order) → completed_trades (base_after_order base stamp o) ≡ completed_trades base
ordered_done base stamp o =
    filter-not_one is_completed base.trades (trade_of_order base stamp o) [] (first_not_completed (trade_type_of_order_type o.order_type))
    ∙ append_nil (filter is_completed base.trades)

pub ordered_rows : (base : Base) (stamp : ℕ) (o : Order) → TradesAreNumberedFrom 1 base.trades
    → sheets (base_after_order base stamp o) ≡ rows_ordered base stamp o (not (is_market_type (trade_type_of_order_type o.order_type)))
unfolding tables_of_base_in_schema tables_sorted_by_key shares_of_position holding_summary_quantity balance_of_account trade_count_of_broker commission_total_of_broker
ordered_rows base stamp o n = by_market (is_market_type (trade_type_of_order_type o.order_type)) refl
  where
    t : Trade
    t = trade_of_order base stamp o

    row : HistoryRow
    row = history_row_of_status (length base.trades + 1) (first_status (trade_type_of_order_type o.order_type)) stamp

    Rows : Bool → Type 0
    Rows b = sheets (base_after_order base stamp o) ≡ rows_ordered base stamp o (not b)

    others : ids_other (length base.trades + 1) base.trades
    others = let e : 1 + length base.trades ≡ length base.trades + 1 = omega arith in subst (λ m. ids_other m base.trades) e (numbered_below 1 base.trades n)

    done : completed_trades (base_after_order base stamp o) ≡ completed_trades base
    done = ordered_done base stamp o

    trades : rows_sorted_by_key trade_key (map trade_row (base.trades ++ t ∷ [])) ≡ insert_row_by_key trade_key (trade_row t) (rows_sorted_by_key trade_key (map trade_row base.trades))
    trades = row_last trade_key trade_row base.trades t (All-mapped _ trade_row base.trades (new_number (λ u. u.id) t base.trades others))

    history : rows_sorted_by_key history_key (flat_map history_rows (base.trades ++ t ∷ [])) ≡ insert_row_by_key history_key row (rows_sorted_by_key history_key (flat_map history_rows base.trades))
    history = ap (rows_sorted_by_key history_key) (flat_map-append history_rows base.trades (t ∷ []))
        ∙ by_key-append history_key (flat_map history_rows base.trades) row (history_of_others row base.trades others)

    by_market : (b : Bool) → is_market_type (trade_type_of_order_type o.order_type) ≡ b → Rows (is_market_type (trade_type_of_order_type o.order_type))
    by_market true e =
        let waits : has_last_status Pending t ≡ false = ap (λ b. is_same_trade_status (cond b Submitted Pending) Pending) e in
        let left = filter-not_one (has_last_status Pending) base.trades t [] waits ∙ append_nil (pending_trades base.trades) in
        let rows : Rows true = λ i. record (tables_sorted_by_key (tables_from_completed_trades third_schema base (done i))) {
          trades = trades i;
          history = history i;
          requests = rows_sorted_by_key request_key (map (request_row base.accounts) (left i));
        } in
        subst Rows (sym e) rows
    by_market false e =
        let waits : has_last_status Pending t ≡ true = ap (λ b. is_same_trade_status (cond b Submitted Pending) Pending) e in
        let requests = ap (λ ts. rows_sorted_by_key request_key (map (request_row base.accounts) ts)) (filter-one (has_last_status Pending) base.trades t [] waits)
        ∙ row_last request_key (request_row base.accounts) (pending_trades base.trades) t
        (All-mapped _ (request_row base.accounts) (pending_trades base.trades)
        (new_number (λ u. u.id) t (pending_trades base.trades) (All-filter _ (has_last_status Pending) base.trades others))) in
        let rows : Rows false = λ i. record (tables_sorted_by_key (tables_from_completed_trades third_schema base (done i))) {
          trades = trades i;
          history = history i;
          requests = requests i;
        } in
        subst Rows (sym e) rows
