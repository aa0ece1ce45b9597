use Rattle.std.proofs.Common.{◌≡◌, drop}
use Rattle.brk_model.specs.Lists.{all_distinct}
use Rattle.brk_ref_orders.proofs.trade_ids.has_distinct_ids.Given as goal

abbrev pub invariant-loop-i : goal.invariant-loop-i
invariant-loop-i l = all_distinct l.ids ≡ all_distinct (drop l.i l.ids)
