-- A statement that is compiled changes nothing, or ends the transaction.
use Rattle.std.proofs.Common.{◌⊎◌, inl, inr, ℕ, List, [], Result, Ok, Err}
use Rattle.std.specs.Prelude.{◌≡◌, IfOk, IfErr}
use Rattle.sqlite_value.specs.Order.{Row}
use Rattle.sqlite.specs.State.{State, HasCleanDisk, IsNotRun, IsRolledBack, IsUnchanged}
use Rattle.sqlite.specs.declared.error.Error.{Error}
use Rattle.sqlite.specs.declared.statement.Statement.{Statement}

not_run : (sql : List ℕ) (params : Row) (old new : State) (e : Error) → IsNotRun old new sql params e → IsUnchanged old new ⊎ IsRolledBack old new
unfolding IsNotRun
not_run sql params old new e (inl h) = inl h.1
not_run sql params old new e (inr h) = inr h.3

pub unchanged_or_undone : (out : Result Statement Error) (sql : List ℕ) (old new : State) → (HasCleanDisk new → IfOk out (λ s. (s.text ≡ sql) × IsUnchanged old new))
    → (HasCleanDisk new → IfErr out (λ e. (params : Row) → IsNotRun old new sql params e)) → HasCleanDisk new → IsUnchanged old new ⊎ IsRolledBack old new
unchanged_or_undone (Ok s) sql old new ok err clean = inl (ok clean).1
unchanged_or_undone (Err e) sql old new ok err clean = not_run sql [] old new e (err clean [])
