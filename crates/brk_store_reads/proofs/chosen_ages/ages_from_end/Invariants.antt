use Rattle.std.proofs.Common.{◌≡◌, ◌≤◌, drop, take}
use Rattle.brk_store_index.specs.Ages.{in_order}
use Rattle.brk_store_reads.proofs.chosen_ages.ages_from_end.Given as goal

abbrev pub invariant-loop-place : goal.invariant-loop-place
invariant-loop-place l = record {
  chosen : l.chosen.items ≡ take l.place (drop l.skipped (in_order l.newest_first l.ages.items));
  within : l.place ≤ l.fn.most;
}
