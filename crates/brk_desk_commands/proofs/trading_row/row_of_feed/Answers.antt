use Rattle.std.proofs.Common.{codes, ap, ◌∙◌, ◌++◌}
use Rattle.std.proofs.lemmas.List.{take_all}
use Rattle.std.specs.Prelude.{flat_map}
use Rattle.brk_model.specs.Rows.{tick_fields}
use Rattle.brk_ref_orders.specs.Records.{abstract_tick}
use Rattle.brk_desk_commands.specs.Fields.{fields_after_separators}
use Rattle.brk_desk_commands.proofs.Joined.{next_text, tick_row}
use Rattle.brk_desk_commands.proofs.trading_row.row_of_feed.Goals as goal

pub loop-tick-preserved : goal.loop-tick-preserved
loop-tick-preserved c =
    next_text (λ tick. fields_after_separators 31 (tick_fields (abstract_tick tick))) (codes "feed") _ _ c.args.ticks.now c.loop-tick.tick-index c.tick-item.result
    c.loop-tick-test.true c.tick-item.is c.loop-tick.invariant c.in_ok-append_one_tick.ensures

pub returns : goal.returns
returns c =
    c.loop-tick.invariant
    ∙ ap (λ ticks. codes "feed" ++ flat_map (λ tick. fields_after_separators 31 (tick_fields (abstract_tick tick))) ticks) (take_all c.loop-tick.tick-index c.args.ticks.now c.loop-tick-test.false)
    ∙ tick_row c.args.ticks.now
