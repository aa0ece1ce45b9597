use Rattle.std.proofs.Common.{◌++◌, ◌∙◌, ap, map}
use Rattle.std.proofs.lemmas.List.{take_all}
use Rattle.brk_audit.specs.Positions.{holding_row_in_position_of_trade}
use Rattle.brk_ref.specs.Rows.{abstract_holding_row, abstract_trade_row}
use Rattle.brk_lots.specs.Lots.{abstract_lot}
use Rattle.brk_audit.proofs.holding_lots.append_lots.Goals as goal

pub returns : goal.returns
returns c =
    c.loop-lot.invariant
    ∙ ap (λ lots. map abstract_holding_row c.args.held.now.items ++ map (holding_row_in_position_of_trade (abstract_trade_row c.args.trade.now)) (map abstract_lot lots))
    (take_all c.loop-lot.lot-index c.args.lots.now c.loop-lot-test.false)
