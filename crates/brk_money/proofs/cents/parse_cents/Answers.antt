use Rattle.std.proofs.Common.{arith, sym, ◌∙◌}
use Rattle.brk_money.proofs.Plain.{minus_only, plain_injective}
use Rattle.brk_money.proofs.cents.parse_cents.Goals as goal

pub returns-in_default-parse_unsigned-clause-none : goal.returns-in_default-parse_unsigned-clause-none
returns-in_default-parse_unsigned-clause-none c = λ z h e.
    let m = minus_only c.args.bytes.now z h e (omega arith) in c.in_default-parse_unsigned.ensures.none m.0 m.1 m.3

pub returns-then-n-eq0-clause-none : goal.returns-then-n-eq0-clause-none
returns-then-n-eq0-clause-none c = λ z h e.
    let m = minus_only c.args.bytes.now z h e (omega arith) in
    let found = c.in-Some.ensures.found in
    let same = plain_injective m.0 c.in-Some.n m.1 found.0 (sym m.3 ∙ found.1) in
    omega (arith, same)
