use Rattle.std.proofs.Common.{arith, to_z, of_z, w64, ◌≡◌}
use Rattle.std.proofs.lemmas.Int.{ints}
use Rattle.brk_money.specs.Spelling.{cents_of_text}
use Rattle.brk_money.proofs.Spellings.{cents_of-text}
use Rattle.brk_ref.proofs.Limits.{below_zero, from_zero_on}
use Rattle.brk_ref.proofs.numbers.parse_unsigned_cents.Goals as goal

pub returns-then-cents-lt0 : goal.returns-then-cents-lt0
returns-then-cents-lt0 c =
    let found = c.in-Some.ensures.found in
    below_zero (cents_of_text c.args.bytes.now) c.in-Some.cents c.get-cents.result (cents_of-text c.args.bytes.now c.in-Some.cents found.0 found.1)
    c.get-cents.ensures.value (omega (arith, ints))

pub returns : goal.returns
returns c =
    let found = c.in-Some.ensures.found in
    let same : to_z w64 (of_z w64 c.get-cents.result) ≡ c.in-Some.cents = omega (arith, ints) in
    from_zero_on (cents_of_text c.args.bytes.now) c.in-Some.cents _ (cents_of-text c.args.bytes.now c.in-Some.cents found.0 found.1)
    same (omega (arith, ints)) found.0
