use Rattle.std.proofs.Common.{◌∷◌, ◌++◌, ◌∙◌, ap, codes}
use Rattle.std.proofs.lemmas.List.{take_all}
use Rattle.std.specs.Prelude.{decimal, flat_map}
use Rattle.brk_desk_commands.proofs.Joined.{next_text, trades_row}
use Rattle.brk_desk_commands.proofs.update_row.row_of_executor_update.Goals as goal

pub loop-trade-preserved : goal.loop-trade-preserved
loop-trade-preserved c =
    next_text (λ trade. 31 ∷ decimal trade) (codes "upname") _ _ c.args.trades.now c.loop-trade.trade-index c.trade-item.result
    c.loop-trade-test.true c.trade-item.is c.loop-trade.invariant c.in_ok-append_updated_trade.ensures

pub returns : goal.returns
returns c =
    c.loop-trade.invariant
    ∙ ap (λ trades. codes "upname" ++ flat_map (λ trade. 31 ∷ decimal trade) trades) (take_all c.loop-trade.trade-index c.args.trades.now c.loop-trade-test.false)
    ∙ trades_row c.args.trades.now
