use Rattle.std.proofs.Common.{◌≡◌, ℕ, ◌+◌, ◌<◌, get_or}
use Rattle.brk_ref.specs.declared.trade_row.TradeRow.{TradeRow}
use Rattle.brk_audit_form.proofs.numbers.are_numbered.Given as goal

abbrev pub invariant-loop-place : goal.invariant-loop-place
invariant-loop-place l = (k : ℕ) (d : TradeRow) → k < l.place → (get_or l.trades k d).id ≡ 1 + k
