-- Well-formed commands.
use Rattle.std.specs.Prelude.{◌≡◌, Ok}
use Rattle.brk_model.specs.Commands.{Command}
use Rattle.brk_model.specs.Rows.{row_fields}
use Rattle.brk_model.specs.Parse.{parse_row}

-- The command is well-formed: the fields of its row parse as the command itself.
abbrev pub IsWellFormedCommand : Command → Type 0
IsWellFormedCommand command = parse_row (row_fields command) ≡ Ok command
