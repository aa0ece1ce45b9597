-- The outcome of a visit of rows that were read.
use Rattle.std.specs.Prelude.{◌≡◌, ◌∷◌, ◌++◌, List, Result, Ok, Err}
use Rattle.std.specs.Global.{Vec}
use Rattle.std.specs.List.{FoldsTo}
use Rattle.brk_money.specs.declared.fault.CallFault.{CallFault}
use Rattle.brk_tables_views.specs.declared.walking.WalkError.{WalkError}
use Rattle.brk_tables_views.specs.declared.walking.WalkError.TheVariants.{Failed, Cause}

-- The visitor, from `before` to `after`, took the first of the rows and stopped at the next, with the error `e`.
abbrev pub StopsWithinRows : {X V E : Type 0} → (V → X → V → Type 0) → (V → X → E → V → Type 0) → List X → V → E → V → Type 0
StopsWithinRows {X} {V} takes stops rows before e after =
    (taken : List X) × (next : X) × (rest : List X) × (at : V) × (rows ≡ taken ++ next ∷ rest) × FoldsTo takes before taken at × stops at next e after

-- If the rows were read, the visitor took all of them, in order, or stopped at one of them; otherwise it
-- took none, and the result is the fault.
abbrev pub VisitsReadRows : {X V E : Type 0} → (V → X → V → Type 0) → (V → X → E → V → Type 0) → Result (Vec X) CallFault → V → V → Result (Unit {0}) (WalkError E) → Type 0
VisitsReadRows takes stops (Err fault) before after result = (result ≡ Err (Failed fault)) × (after ≡ before)
VisitsReadRows takes stops (Ok rows) before after (Ok u) = FoldsTo takes before rows.items after
VisitsReadRows takes stops (Ok rows) before after (Err (Failed fault)) = ⊥
VisitsReadRows takes stops (Ok rows) before after (Err (Cause e)) = StopsWithinRows takes stops rows.items before e after
