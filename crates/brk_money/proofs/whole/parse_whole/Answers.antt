use Rattle.std.proofs.Common.{arith}
use Rattle.std.proofs.lemmas.Grind.{common_steps}
use Rattle.brk_money.proofs.Digits.{whole_only}
use Rattle.brk_money.proofs.whole.parse_whole.Goals as goal

pub returns-then-is_empty-clause-none : goal.returns-then-is_empty-clause-none
returns-then-is_empty-clause-none c = λ n h e. let w = whole_only c.args.bytes.now n (omega (arith, h)) e in grind (arith, common_steps, w.some)

pub returns-then-bytes-gt1-clause-none : goal.returns-then-bytes-gt1-clause-none
returns-then-bytes-gt1-clause-none c = λ n h e. let w = whole_only c.args.bytes.now n (omega (arith, h)) e in grind (arith, common_steps, w.first)
