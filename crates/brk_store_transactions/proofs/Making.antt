-- Changes that are applied one after another.
use Rattle.std.proofs.Common.{◌≡◌, Result, Ok, inl, refl, sym, subst, arith}
use Rattle.sqlite.specs.State.{State}
use Rattle.brk_tables_sql.specs.Desk.{ChangesTablesBy}
use Rattle.brk_tables_sql.specs.Model.{IsTransactionStep}
use Rattle.brk_tables_sql.proofs.Strangers.{spares_itself}
use Rattle.brk_tables_schema.specs.Desk.{desk_tables}
use Rattle.brk_trade_rows.specs.Changes.{tables_after_change}
use Rattle.brk_trade_rows.specs.declared.change.Change.{Change}

-- the statement of a change makes that change
pub made : {V E : Type 0} (old new : State) (result : Result V E) (asked change : Change) → asked ≡ change
    → IsTransactionStep old new result (λ _ a b. ChangesTablesBy desk_tables (tables_after_change change) a.now b.now)
    → IsTransactionStep old new result (λ _ a b. ChangesTablesBy desk_tables (tables_after_change asked) a.now b.now)
made {V} {E} old new result asked change same step =
    subst (λ (c : Change). IsTransactionStep {V = V} {E = E} old new result (λ _ a b. ChangesTablesBy desk_tables (tables_after_change c) a.now b.now))
    (sym same) step

-- before the first one nothing is made
pub none_made : {E : Type 0} (s : State) → IsTransactionStep {V = Unit {0}} {E = E} s s (Ok tt) (λ _ a b. ChangesTablesBy desk_tables (λ t. t) a.now b.now)
none_made s = record {
  commits_nothing = λ clean. record { was_open = λ o. o; committed = λ _. refl };
  relates_states = λ clean on. (on, λ t tree h. (h, spares_itself tree s.now));
  survives = record {
    clean = omega arith;
    shield = λ h. h;
    counts = omega arith;
    limit = refl;
    closes = λ clean o. inl o;
    crash = λ clean db may. inl may;
  };
}
