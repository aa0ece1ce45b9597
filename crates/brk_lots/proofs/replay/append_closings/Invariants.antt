use Rattle.std.proofs.Common.{◌≡◌, ◌++◌, map, take}
use Rattle.brk_model.specs.Tables.{holding_history_row}
use Rattle.brk_lots.specs.Chains.{abstract_deal_touch}
use Rattle.brk_lots.specs.Lots.{abstract_touch}
use Rattle.brk_lots.proofs.replay.append_closings.Given as goal

abbrev pub invariant-loop-touch : goal.invariant-loop-touch
invariant-loop-touch l = map abstract_deal_touch l.rows.items ≡ map abstract_deal_touch l.fn.rows.items ++ map (holding_history_row l.trade) (map abstract_touch (take l.touch-index l.touched))
