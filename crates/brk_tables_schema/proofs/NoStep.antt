-- A step of a transaction that does nothing.
use Rattle.std.proofs.Common.{Ok, refl, inl}
use Rattle.std.proofs.Math.Nat.{le_refl}
use Rattle.sqlite.specs.State.{State}
use Rattle.brk_tables_sql.specs.Model.{IsTransactionStep}

pub nothing_done : {E : Type 0} (s : State) (made : State → State → Type 0) → made s s → IsTransactionStep {V = Unit {0}} {E = E} s s (Ok tt) (λ _ a b. made a b)
nothing_done s made is = record {
  commits_nothing = λ clean. record { was_open = λ o. o; committed = λ _. refl };
  relates_states = λ clean on. (on, is);
  survives = record { clean = le_refl _; shield = λ h. h; counts = le_refl _; limit = refl; closes = λ clean o. inl o; crash = λ clean db h. inl h };
}
