use Rattle.std.proofs.Common.{◌≡◌, ◌++◌, codes, take}
use Rattle.std.specs.Prelude.{flat_map, string_bytes}
use Rattle.brk_model.specs.Rows.{tick_fields}
use Rattle.brk_ref_orders.specs.Records.{abstract_tick}
use Rattle.brk_desk_commands.specs.Fields.{fields_after_separators}
use Rattle.brk_desk_commands.proofs.trading_row.row_of_feed.Given as goal

abbrev pub invariant-loop-tick : goal.invariant-loop-tick
invariant-loop-tick l =
    string_bytes l.row ≡ codes "feed" ++ flat_map (λ tick. fields_after_separators 31 (tick_fields (abstract_tick tick))) (take l.tick-index l.ticks)
