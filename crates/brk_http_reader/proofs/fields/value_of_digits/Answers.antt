use Rattle.brk_http_reader.proofs.FieldLemmas.{number_more}
use Rattle.brk_http_reader.proofs.fields.value_of_digits.Goals as goal

pub loop-byte-preserved : goal.loop-byte-preserved
loop-byte-preserved c =
    rw c.from.ensures (number_more c.args.value.now c.loop-byte.byte-index c.loop-byte.number c.requires.digits c.loop-byte-test.true c.loop-byte.invariant.0
    c.loop-byte.invariant.1)
