use Rattle.std.proofs.Common.{◌≡◌, ℕ, true, take}
use Rattle.std.specs.Ordering.{nat_cmp}
use Rattle.std.specs.BTreeSet.{contains}
use Rattle.brk_model.specs.Lists.{all_distinct, contains_number}
use Rattle.brk_audit_form.proofs.OwnRows.{trades}
use Rattle.brk_audit_form.proofs.cash_trades.have_distinct_trades.Given as goal

abbrev pub invariant-loop-row : goal.invariant-loop-row
invariant-loop-row l = record {
  seen : (q : ℕ) → contains nat_cmp l.seen q ≡ contains_number q (trades (take l.row-index l.moves));
  own : all_distinct (trades (take l.row-index l.moves)) ≡ true;
}
