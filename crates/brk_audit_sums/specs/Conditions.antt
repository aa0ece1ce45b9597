-- The conditions that the later checks of an audit assume.
use Rattle.std.specs.Prelude.{IsTrue}
use Rattle.brk_model.specs.Form.{satisfies_form_condition}
use Rattle.brk_model.specs.Schemas.{Schema}
use Rattle.brk_model.specs.Tables.{Tables}
use Rattle.brk_model.specs.Ways.{satisfies_status_condition}
use Rattle.brk_trade_rows.specs.Sheets.{abstract_sheets}
use Rattle.brk_trade_rows.specs.declared.sheets.Sheets.{Sheets}

-- The tables `t` satisfy the condition `Form` of some schema.
pub record IsWellFormedBySomeSchema (t : Tables) : Type 0 where
  pub schema : Schema
  pub form : IsTrue (satisfies_form_condition schema t)

-- The tables of the typed rows `s` satisfy the condition `Form` of some schema.
abbrev pub HasWellFormedRows : Sheets → Type 0
HasWellFormedRows s = IsWellFormedBySomeSchema (abstract_sheets s)

-- The tables of the typed rows `s` satisfy the condition `Status`: each trade's history is a valid
-- status sequence with strictly ascending stamps, the trade's row has the status and the stamp of
-- the last status change, and no two completions or movements have the same stamp.
abbrev pub HasValidStatuses : Sheets → Type 0
HasValidStatuses s = IsTrue (satisfies_status_condition (abstract_sheets s))
