-- Runs of well-formed calls.
use Rattle.std.specs.Prelude.{⊤, ℕ, IfSome}
use Rattle.brk_model.specs.Formed.{IsWellFormedCommand}
use Rattle.brk_model.specs.Run.{Call, Do, Ask}
use Rattle.brk_audit_theorems.specs.InForm.{MeetsAuditFormats, IsWellFormedKey}

-- The call's command meets the formats that an audit checks (`MeetsAuditFormats`), and its key, if
-- any, is well-formed. The clock reading is not checked. Vacuous for a query.
abbrev pub CallMeetsAuditFormats : ℕ × Call → Type 0
CallMeetsAuditFormats (now, Do command key) = MeetsAuditFormats command × IfSome key IsWellFormedKey
CallMeetsAuditFormats (now, Ask query) = ⊤

-- The call's command and its key, if any, are well-formed (`IsWellFormedCommand`). The clock
-- reading is not checked. Vacuous for a query.
abbrev pub IsWellFormedCall : ℕ × Call → Type 0
IsWellFormedCall (now, Do command key) = IsWellFormedCommand command × IfSome key IsWellFormedKey
IsWellFormedCall (now, Ask query) = ⊤
