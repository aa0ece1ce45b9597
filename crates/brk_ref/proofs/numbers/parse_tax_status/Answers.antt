use Rattle.std.proofs.Common.{lit≤}
use Rattle.std.specs.Prelude.{Some}
use Rattle.brk_money.specs.Spelling.{decimal_number_of_text}
use Rattle.brk_money.proofs.Spellings.{at_most_found}
use Rattle.brk_ref.proofs.Limits.{status_read}
use Rattle.brk_ref.proofs.numbers.parse_tax_status.Goals as goal

pub returns : goal.returns
returns c =
    let found = c.in-Some.ensures.found in
    status_read (decimal_number_of_text c.args.bytes.now) (Some c.in-Some.number) c.from_number.result
    (at_most_found c.args.bytes.now c.in-Some.number 2 (lit≤ tt) found.0 found.1) c.from_number.ensures
