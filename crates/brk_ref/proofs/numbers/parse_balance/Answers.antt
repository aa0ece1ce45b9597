use Rattle.brk_money.proofs.Spellings.{cents_read}
use Rattle.brk_ref.proofs.Limits.{opening_read}
use Rattle.brk_ref.proofs.numbers.parse_balance.Goals as goal

pub returns : goal.returns
returns c =
    let ensured = c.parse_cents.ensures in
    opening_read c.args.bytes.now c.parse_cents.result (cents_read c.args.bytes.now c.parse_cents.result ensured.found ensured.none)
