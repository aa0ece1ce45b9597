use Rattle.std.proofs.Common.{◌≡◌, take}
use Rattle.brk_http_engine.specs.Codes.{bytes_of_texts}
use Rattle.brk_ref.specs.Fields.{texts_of_fields}
use Rattle.brk_http_engine.proofs.pieces.copy_texts.Given as goal

abbrev pub invariant-loop-part : goal.invariant-loop-part
invariant-loop-part l = bytes_of_texts l.all ≡ texts_of_fields (take l.part-index l.parts)
