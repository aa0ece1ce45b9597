-- The premises that `Form` and `Status` give to the conditions after them.
use Rattle.brk_money.specs.declared.fault.Condition.TheVariants.{Form, Status}
use Rattle.std.proofs.Common.{◌≡◌, Bool, true, false, sym, ◌∙◌}
use Rattle.std.specs.Prelude.{◌↔◌, IsTrue}
use Rattle.brk_model.specs.Form.{satisfies_form_condition}
use Rattle.brk_model.specs.Audit.{ConditionHolds}
use Rattle.brk_model.specs.Schemas.{Schema}
use Rattle.brk_trade_rows.specs.Sheets.{abstract_sheets}
use Rattle.brk_trade_rows.specs.declared.sheets.Sheets.{Sheets}
use Rattle.brk_audit_sums.specs.Conditions.{HasWellFormedRows, HasValidStatuses}

pub form_held : (schema : Schema) (s : Sheets) → ConditionHolds schema Form (abstract_sheets s) → HasWellFormedRows s
unfolding ConditionHolds
form_held schema s h = record { schema = schema; form = h }

pub statuses_held : (schema : Schema) (s : Sheets) → ConditionHolds schema Status (abstract_sheets s) → HasValidStatuses s
unfolding ConditionHolds
statuses_held schema s h = h

pub form_told : (schema : Schema) (s : Sheets) → ConditionHolds schema Form (abstract_sheets s) → satisfies_form_condition schema (abstract_sheets s) ≡ true
unfolding ConditionHolds
form_told schema s h = h

-- a check that is true tells that its condition holds
pub holds : {b : Bool} {P : Type 0} → IsTrue b ↔ P → b ≡ true → P
holds law e = law.0 e

-- a check that is false tells that its condition does not hold
pub fails : {b : Bool} {P : Type 0} → IsTrue b ↔ P → b ≡ false → P → ⊥
fails law e p = let same : false ≡ true = sym e ∙ law.1 p in absurd (cc)
