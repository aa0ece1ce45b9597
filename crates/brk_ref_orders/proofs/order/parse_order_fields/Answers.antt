use Rattle.std.proofs.Common.{sym, ap, ◌∙◌}
use Rattle.std.specs.Prelude.{option_map}
use Rattle.std.specs.Option.{ok_or}
use Rattle.brk_money.specs.declared.refusal.Refusal.TheVariants.{BadText}
use Rattle.brk_ref.specs.Records.{abstract_executor}
use Rattle.brk_model.specs.Forms.{order_type_with_price, trade_type_with_code}
use Rattle.brk_ref_orders.proofs.Refused.{type_found}
use Rattle.brk_ref_orders.proofs.OrderFields.{account_refused, symbol_refused, cash_refused, end_refused, executor_refused, qty_refused, type_refused, all_read}
use Rattle.brk_ref_orders.proofs.order.parse_order_fields.Goals as goal

pub returns-in_default : goal.returns-in_default
returns-in_default c = account_refused c.args.told (sym c.in_default.ensures)

pub returns-in_default-2 : goal.returns-in_default-2
returns-in_default-2 c = symbol_refused c.args.told (sym c.in_ok-symbol.ensures.read ∙ ap (λ o. ok_or o BadText) c.in_default-2.is)

pub returns-in_default-parse_flag : goal.returns-in_default-parse_flag
returns-in_default-parse_flag c = cash_refused c.args.told (sym c.in_default-parse_flag.ensures)

pub returns-in_default-parse_flag-2 : goal.returns-in_default-parse_flag-2
returns-in_default-parse_flag-2 c = end_refused c.args.told (sym c.in_default-parse_flag-2.ensures)

pub returns-in_default-3 : goal.returns-in_default-3
returns-in_default-3 c =
    executor_refused c.args.told (sym c.in_ok-executor.ensures.read ∙ ap (λ o. ok_or (option_map abstract_executor o) BadText) c.in_default-3.is)

pub returns-in_default-parse_qty : goal.returns-in_default-parse_qty
returns-in_default-parse_qty c =
    qty_refused c.args.told c.in-Some.account c.in-Some-2.symbol c.in-Some-parse_flag.is_cash c.in-Some-parse_flag-2.is_lifo (abstract_executor c.in-Some-3.executor)
    (sym c.in-Some.ensures) (sym c.in_ok-symbol.ensures.read ∙ ap (λ o. ok_or o BadText) c.in-Some-2.is) (sym c.in-Some-parse_flag.ensures) (sym c.in-Some-parse_flag-2.ensures)
    (sym c.in_ok-executor.ensures.read ∙ ap (λ o. ok_or (option_map abstract_executor o) BadText) c.in-Some-3.is) (sym c.in_default-parse_qty.ensures)

pub returns-in-Err : goal.returns-in-Err
returns-in-Err c =
    type_refused c.args.told c.in-Some.account c.in-Some-2.symbol c.in-Some-parse_flag.is_cash c.in-Some-parse_flag-2.is_lifo
    (abstract_executor c.in-Some-3.executor) c.in-Some-parse_qty.qty
    c.in-Err.refusal
    (sym c.in-Some.ensures) (sym c.in_ok-symbol.ensures.read ∙ ap (λ o. ok_or o BadText) c.in-Some-2.is) (sym c.in-Some-parse_flag.ensures) (sym c.in-Some-parse_flag-2.ensures)
    (sym c.in_ok-executor.ensures.read ∙ ap (λ o. ok_or (option_map abstract_executor o) BadText) c.in-Some-3.is) (sym c.in-Some-parse_qty.ensures)
    (ap (λ k. order_type_with_price k c.args.told.price.now) (sym (type_found _ (trade_type_with_code c.args.told.kind.now) c.parse_type.ensures)) ∙ sym c.in-Err.ensures)

pub returns : goal.returns
returns c =
    all_read c.args.told c.in-Some.account c.in-Some-2.symbol c.in-Some-parse_flag.is_cash c.in-Some-parse_flag-2.is_lifo
    (abstract_executor c.in-Some-3.executor) c.in-Some-parse_qty.qty
    c.in-Ok.order_type
    (sym c.in-Some.ensures) (sym c.in_ok-symbol.ensures.read ∙ ap (λ o. ok_or o BadText) c.in-Some-2.is) (sym c.in-Some-parse_flag.ensures) (sym c.in-Some-parse_flag-2.ensures)
    (sym c.in_ok-executor.ensures.read ∙ ap (λ o. ok_or (option_map abstract_executor o) BadText) c.in-Some-3.is) (sym c.in-Some-parse_qty.ensures)
    (ap (λ k. order_type_with_price k c.args.told.price.now) (sym (type_found _ (trade_type_with_code c.args.told.kind.now) c.parse_type.ensures)) ∙ sym c.in-Ok.ensures)
