use Rattle.std.proofs.Common.{ap, sym, arith}
use Rattle.brk_audit_form.proofs.Numbered.{numbered_all, numbered_not}
use Rattle.brk_audit_form.proofs.numbers.are_numbered.Goals as goal

pub returns-then-get-place : goal.returns-then-get-place
returns-then-get-place c =
    let item = c.index-trades-place.result in
    sym (numbered_not (λ r. r.id) c.args.trades.now 1 c.loop-place.place item c.loop-place-test.true (λ e.
    let is = ap (λ r. r.id) c.index-trades-place.is in
    let off = c.if-get-place.true in
    let value = c.get.ensures.value in
    omega arith))

pub returns : goal.returns
returns c = sym (numbered_all (λ r. r.id) c.args.trades.now 1 (λ k d h.
    let end = c.loop-place-test.false in
    c.loop-place.invariant k d (omega arith)))
