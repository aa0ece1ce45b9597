use Rattle.std.proofs.Common.{◌≡◌, map, take, string_bytes}
use Rattle.brk_ref.specs.Fields.{texts_of_fields}
use Rattle.brk_ref.proofs.borrowed.borrow_texts.Given as goal

abbrev pub invariant-loop-text : goal.invariant-loop-text
invariant-loop-text l = texts_of_fields l.all.items ≡ map string_bytes (take l.text-index l.texts)
