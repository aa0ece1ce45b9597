use Rattle.std.proofs.Common.{◌≡◌, drop}
use Rattle.brk_model_http.specs.Heads.{head_length}
use Rattle.brk_http_reader.proofs.FrontLemmas.{option_plus}
use Rattle.brk_http_reader.proofs.input.length_of_head.Given as goal

abbrev pub invariant-loop-i : goal.invariant-loop-i
invariant-loop-i l = option_plus l.i (head_length (drop l.i l.bytes)) ≡ head_length l.bytes
