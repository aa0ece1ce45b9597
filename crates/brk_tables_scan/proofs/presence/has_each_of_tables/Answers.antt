use Rattle.std.proofs.Common.{◌≡◌, ◌∙◌, Bool, true, false, Ok, ap, refl, sym, get_or, take}
use Rattle.std.proofs.lemmas.List.{take_all}
use Rattle.std.specs.List.{list_all}
use Rattle.std.specs.Prelude.{IsTrue}
use Rattle.sqlite.specs.Effect.{Database}
use Rattle.sqlite.specs.Held.{state}
use Rattle.sqlite.specs.State.{State}
use Rattle.brk_tables_sql.proofs.Inside.{step_then, step_read}
use Rattle.brk_tables_scan.specs.Present.{has_table_named}
use Rattle.brk_tables_schema.specs.Texts.{abstract_table}
use Rattle.brk_tables_schema.specs.declared.table.Table.{Table}
use Rattle.brk_tables_schema.specs.declared.table.Table.TheVariants.{TheDesk}
use Rattle.brk_tables_scan.proofs.Looking.{missing_at, all_at}
use Rattle.brk_tables_schema.proofs.NoStep.{nothing_done}
use Rattle.brk_tables_scan.proofs.presence.has_each_of_tables.Goals as goal

abbrev test : Database → Table → Bool
test db table = has_table_named db.schema (abstract_table table)

pub loop-table-init : goal.loop-table-init
loop-table-init g c = record { same = refl; step = nothing_done (state g.S.Store c.args.tx.now.conn.now) (λ a b. (b.now ≡ a.now) × (true ≡ true)) (refl, refl) }

pub returns-then-not-branch-clause-step : goal.returns-then-not-branch-clause-step
returns-then-not-branch-clause-step g c =
    let tables = c.args.tables.now in
    let i = c.loop-table.table-index in
    let d = TheDesk in
    let old = state g.S.Store c.args.tx.now.conn.now in
    let mid = state g.S.Store c.loop-table.tx.conn.now in
    let new = state g.S.Store c.table_exists.new.tx.conn.now in
    let made : Bool → State → State → Type 0 = λ has a b. (b.now ≡ a.now) × (list_all (test a.now) (take i tables) ≡ true) × (has ≡ test a.now (get_or tables i d)) in
    step_read old new c.in_ok-table_exists.field-0 (Ok false) made (λ has a b. (b.now ≡ a.now) × (has ≡ list_all (test a.now) tables))
    (λ w e p. let f : false ≡ w = cc in (p.0, sym f ∙ sym (missing_at (test old.now) d tables i c.loop-table-test.true (sym p.2 ∙ c.if-not-branch.true))))
    (step_then old mid new tt (Ok c.in_ok-table_exists.field-0) (λ _ a b. (b.now ≡ a.now) × (list_all (test a.now) (take i tables) ≡ true))
    (λ has a b. IsTrue a.is_open × (b.now ≡ a.now) × (has ≡ test a.now (get_or tables i d))) made
    (λ v p q. (q.1 ∙ p.0, p.1, q.2 ∙ ap (λ db. test db (get_or tables i d)) p.0)) c.loop-table.invariant.step c.in_ok-table_exists.ensures.step)

pub loop-table-preserved : goal.loop-table-preserved
loop-table-preserved g c =
    let tables = c.args.tables.now in
    let i = c.loop-table.table-index in
    let d = TheDesk in
    let old = state g.S.Store c.args.tx.now.conn.now in
    let mid = state g.S.Store c.loop-table.tx.conn.now in
    let new = state g.S.Store c.table_exists.new.tx.conn.now in
    let made : Bool → State → State → Type 0 = λ has a b. (b.now ≡ a.now) × (list_all (test a.now) (take i tables) ≡ true) × (has ≡ test a.now (get_or tables i d)) in
    record {
      same = c.table_exists.ensures.same_reference ∙ c.loop-table.invariant.same;
      step = step_read old new c.in_ok-table_exists.field-0 (Ok tt) made _
          (λ w e p. (p.0, all_at (test old.now) d tables i c.loop-table-test.true p.1 (sym p.2 ∙ c.if-not-branch.false)))
          (step_then old mid new tt (Ok c.in_ok-table_exists.field-0) (λ _ a b. (b.now ≡ a.now) × (list_all (test a.now) (take i tables) ≡ true))
          (λ has a b. IsTrue a.is_open × (b.now ≡ a.now) × (has ≡ test a.now (get_or tables i d))) made
          (λ v p q. (q.1 ∙ p.0, p.1, q.2 ∙ ap (λ db. test db (get_or tables i d)) p.0)) c.loop-table.invariant.step c.in_ok-table_exists.ensures.step);
    }

pub returns-clause-step : goal.returns-clause-step
returns-clause-step g c =
    let old = state g.S.Store c.args.tx.now.conn.now in
    let mid = state g.S.Store c.loop-table.tx.conn.now in
    let whole : take c.loop-table.table-index c.args.tables.now ≡ c.args.tables.now = take_all c.loop-table.table-index c.args.tables.now c.loop-table-test.false in
    step_read old mid tt (Ok true) _ (λ has a b. (b.now ≡ a.now) × (has ≡ list_all (test a.now) c.args.tables.now))
    (λ w e p. let f : true ≡ w = cc in (p.0, sym f ∙ sym p.1 ∙ ap (list_all (test old.now)) whole)) c.loop-table.invariant.step
