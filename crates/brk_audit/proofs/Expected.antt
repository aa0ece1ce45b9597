-- The tables of a base that do not depend on the schema.
use Rattle.std.proofs.Common.{◌≡◌, refl}
use Rattle.brk_model.specs.Base.{Base}
use Rattle.brk_model.specs.Schemas.{Schema}
use Rattle.brk_model.specs.Tables.{tables_of_base_in_schema}
use Rattle.brk_model.specs.Sheets.{sheets, sheets_in_schema, tables_sorted_by_key}

pub same_holdings : (schema : Schema) (base : Base) → (sheets_in_schema schema base).holdings ≡ (sheets base).holdings
unfolding tables_of_base_in_schema tables_sorted_by_key
same_holdings schema base = refl

pub same_history : (schema : Schema) (base : Base) → (sheets_in_schema schema base).holding_history ≡ (sheets base).holding_history
unfolding tables_of_base_in_schema tables_sorted_by_key
same_history schema base = refl
