use Rattle.std.proofs.Common.{◌∷◌, ◌++◌, ◌∙◌, ap}
use Rattle.std.proofs.lemmas.List.{take_all}
use Rattle.std.specs.Prelude.{decimal, flat_map}
use Rattle.brk_desk_commands.proofs.Joined.{next_text, trades_line}
use Rattle.brk_desk_commands.proofs.line.ticked_line.Goals as goal

pub loop-trade-preserved : goal.loop-trade-preserved
loop-trade-preserved c =
    next_text (λ trade. 44 ∷ decimal trade) (decimal c.args.stamp) _ _ c.args.triggered.now c.loop-trade.trade-index c.trade-item.result
    c.loop-trade-test.true c.trade-item.is c.loop-trade.invariant c.in_ok-append_trade_id.ensures

pub returns : goal.returns
returns c =
    c.loop-trade.invariant
    ∙ ap (λ trades. decimal c.args.stamp ++ flat_map (λ trade. 44 ∷ decimal trade) trades) (take_all c.loop-trade.trade-index c.args.triggered.now c.loop-trade-test.false)
    ∙ trades_line c.args.stamp c.args.triggered.now
