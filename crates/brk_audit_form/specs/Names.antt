-- The name of a security, from the rows.
use Rattle.std.specs.Prelude.{[]}
use Rattle.std.specs.Option.{option_map_or}
use Rattle.brk_money.specs.Spelling.{Text}
use Rattle.brk_model.specs.Tables.{Tables}
use Rattle.brk_model.specs.Joins.{security_row_with_symbol}

-- The name in the first row of SECURITY with the symbol `symbol`, or the empty text if none.
abbrev pub security_name_or_empty : Tables → Text → Text
security_name_or_empty t symbol = option_map_or (λ s. s.name) (security_row_with_symbol t symbol) []
