use Rattle.std.proofs.Common.{arith, ap, ◌+◌, ◌-◌, ◌*◌, ◌<◌, drop, get_or, length}
use Rattle.std.proofs.lemmas.List.{drop_more}
use Rattle.brk_money.specs.Spelling.{number_with_more_digits}
use Rattle.brk_money.proofs.Digits.{read_on_le}
use Rattle.brk_money.proofs.whole.parse_numeral.Goals as goal

-- the digits so far are above the limit, and more never make them less
pub returns-then-value-limit-clause-none : goal.returns-then-value-limit-clause-none
returns-then-value-limit-clause-none c =
    let inside : c.loop-b.b-index < length c.args.bytes.now = omega arith in
    let here = ap (number_with_more_digits c.loop-b.value) (drop_more c.args.bytes.now c.loop-b.b-index 0 inside) in
    λ p. omega (arith, here, read_on_le (c.loop-b.value * 10 + (get_or c.args.bytes.now c.loop-b.b-index 0 - 48)) (drop (c.loop-b.b-index + 1) c.args.bytes.now))
