use Rattle.std.proofs.Common.{◌≡◌, ℕ, true, ◌++◌, take, map}
use Rattle.std.specs.Ordering.{nat_cmp}
use Rattle.std.specs.BTreeSet.{contains}
use Rattle.brk_model.specs.Lists.{all_distinct, contains_number}
use Rattle.brk_ref.specs.Rows.{abstract_history_row, abstract_cash_row}
use Rattle.brk_audit.specs.Statuses.{movement_stamps_of_cash_rows, completion_stamps_of_history}
use Rattle.brk_audit.proofs.status.stamps_distinct.Given as goal

abbrev pub invariant-loop-row : goal.invariant-loop-row
invariant-loop-row l = record {
  seen : (q : ℕ) → contains nat_cmp l.seen q ≡ contains_number q (completion_stamps_of_history (map abstract_history_row (take l.row-index l.history)));
  apart : all_distinct (completion_stamps_of_history (map abstract_history_row (take l.row-index l.history))) ≡ true;
}

abbrev pub invariant-loop-movement : goal.invariant-loop-movement
invariant-loop-movement l = record {
  seen : (q : ℕ) → contains nat_cmp l.seen q
      ≡ contains_number q (completion_stamps_of_history (map abstract_history_row l.history)
      ++ movement_stamps_of_cash_rows (map abstract_cash_row (take l.movement-index l.moves)));
  apart : all_distinct (completion_stamps_of_history (map abstract_history_row l.history) ++ movement_stamps_of_cash_rows (map abstract_cash_row (take l.movement-index l.moves))) ≡ true;
}
