use Rattle.std.proofs.Common.{arith, List, subst}
use Rattle.std.specs.Prelude.{IfOk}
use Rattle.std.proofs.lemmas.Bool.{ltb-true, ltb-false}
use Rattle.brk_ref_orders.proofs.Counts.{not_order, ten_texts}
use Rattle.brk_model.specs.Parse.{read_order}
use Rattle.brk_money.specs.Spelling.{Text}
use Rattle.brk_ref.specs.Fields.{ParsesAs}
use Rattle.brk_ref_orders.specs.Records.{abstract_order}
use Rattle.brk_ref_orders.proofs.order.parse_trade_order.Goals as goal
use Rattle.brk_ref_orders.proofs.order.parse_trade_order.Goals.{in_default-via-then-fields-lt10, in_default-via-else-fields-lt10+else-fields-lt11}

pub returns-in_default : goal.returns-in_default
returns-in_default c =
    elim c.in_default.branch [
      | in_default-via-then-fields-lt10 w ↦ not_order c.args.fields.now (λ e. omega (arith, ltb-true, ltb-false))
      | in_default-via-else-fields-lt10+else-fields-lt11 w ↦ not_order c.args.fields.now (λ e. omega (arith, ltb-true, ltb-false))
    ]

pub returns : goal.returns
returns c =
    subst (λ (told : List Text). IfOk c.parse_order_fields.result (λ read. ParsesAs abstract_order read (read_order told)))
    (ten_texts c.args.fields.now _ (omega (arith, c.in-len10.len_at_least, c.in-len10.len_below))) c.parse_order_fields.ensures
