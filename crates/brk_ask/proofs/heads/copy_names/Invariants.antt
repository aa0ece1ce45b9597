use Rattle.std.proofs.Common.{◌≡◌, take}
use Rattle.brk_ref.specs.Fields.{texts_of_fields}
use Rattle.brk_view_rows.specs.Views.{texts_of_record}
use Rattle.brk_ask.proofs.heads.copy_names.Given as goal

abbrev pub invariant-loop-name : goal.invariant-loop-name
invariant-loop-name l = texts_of_record l.owned ≡ texts_of_fields (take l.name-index l.names)
