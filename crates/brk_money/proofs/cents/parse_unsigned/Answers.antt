use Rattle.std.proofs.Common.{arith, refl, sym, ◌∙◌, ◌-◌, length}
use Rattle.brk_money.proofs.Plain.{plain_reads, plain_split}
use Rattle.brk_money.proofs.cents.parse_unsigned.Goals as goal

pub returns-then-n-gt-GREATEST-clause-none : goal.returns-then-n-gt-GREATEST-clause-none
returns-then-n-gt-GREATEST-clause-none c = λ n h e.
    let w = plain_split c.args.bytes.now n e in
    let found = c.in-Some.ensures.found in
    let reads = plain_reads c.args.bytes.now (length c.args.bytes.now - 3) n c.in-Some.units h (omega arith) w refl (sym c.split_at.ensures.front ∙ found.1) in
    let told = rw (← c.split_at.ensures.back) at reads in
    omega (arith, told)
