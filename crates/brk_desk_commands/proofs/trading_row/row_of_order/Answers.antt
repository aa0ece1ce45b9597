use Rattle.brk_money.specs.OrderTypes.{price_of_order_type}
use Rattle.std.proofs.Common.{[], ◌∷◌, codes}
use Rattle.std.specs.Prelude.{drop, take}
use Rattle.std.specs.Option.{option_map_or}
use Rattle.brk_model.specs.Rows.{order_fields, nonnegative_cents_text, row_fields}
use Rattle.brk_ref_orders.specs.Records.{abstract_order}
use Rattle.brk_desk_commands.proofs.Joined.{added}
use Rattle.brk_desk_commands.proofs.trading_row.row_of_order.Goals as goal

pub returns : goal.returns
unfolding row_fields
returns c =
    let o = abstract_order c.args.order.now in
    added 31 (codes "order") (take 5 (order_fields o)) (drop 5 (order_fields o)) _ _
    (added 31 (codes "order") (take 4 (order_fields o)) (option_map_or nonnegative_cents_text (price_of_order_type o.order_type) [] ∷ []) _ _ c.in_ok-row.ensures c.in_ok-append_price.ensures)
    c.in_ok-append_order_after_price.ensures
