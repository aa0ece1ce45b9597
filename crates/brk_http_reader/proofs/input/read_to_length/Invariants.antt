use Rattle.std.proofs.Common.{◌-◌, vec_len}
use Rattle.brk_http_reader.specs.Moves.{ReadsIntoBuffer}
use Rattle.brk_http_reader.proofs.input.read_to_length.Given as goal

abbrev pub invariant-filling : goal.invariant-filling
invariant-filling g l = ReadsIntoBuffer (g.R.Read.remaining l.fn.reader) (g.R.Read.remaining l.reader) l.fn.buffer.items l.buffer.items

abbrev pub decreases-filling : goal.decreases-filling
decreases-filling g l = l.len - vec_len l.buffer
