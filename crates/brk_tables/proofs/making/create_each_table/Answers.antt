use Rattle.std.proofs.Common.{◌≡◌, ◌∙◌, List, Ok, refl, subst, get_or, take, ◌+◌}
use Rattle.std.proofs.lemmas.List.{take_all}
use Rattle.sqlite.specs.Held.{state}
use Rattle.brk_money.specs.declared.fault.StoreFailed.{StoreFailed}
use Rattle.brk_tables_sql.specs.Desk.{CreatesTableOfShape}
use Rattle.brk_tables_sql.specs.Model.{IsTransactionStep}
use Rattle.brk_tables_sql.proofs.Inside.{step_then}
use Rattle.brk_tables_schema.specs.Desk.{table_definition_at_tree}
use Rattle.brk_tables_schema.specs.Texts.{abstract_table}
use Rattle.brk_tables_schema.specs.declared.table.Table.{Table}
use Rattle.brk_tables_schema.specs.declared.table.Table.TheVariants.{TheDesk}
use Rattle.brk_tables_schema.proofs.NoStep.{nothing_done}
use Rattle.brk_tables.proofs.Running.{each, made_at}
use Rattle.brk_tables.proofs.making.create_each_table.Goals as goal

pub loop-table-init : goal.loop-table-init
loop-table-init g c = record { same = refl; step = nothing_done (state g.S.Store c.args.tx.now.conn.now) (λ a b. b.now ≡ a.now) refl }

pub loop-table-preserved : goal.loop-table-preserved
loop-table-preserved g c =
    let tables = c.args.tables.now in
    let i = c.loop-table.table-index in
    let a = state g.S.Store c.args.tx.now.conn.now in
    let b = state g.S.Store c.loop-table.tx.conn.now in
    let d = state g.S.Store c.create_empty_table.new.tx.conn.now in
    record {
      same = c.create_empty_table.ensures.same_reference ∙ c.loop-table.invariant.same;
      step = step_then a b d tt (Ok tt) (λ _ x y. each (take i tables) x.now y.now)
          (λ _ x y. CreatesTableOfShape x.now y.now (table_definition_at_tree (abstract_table (get_or tables i TheDesk))))
          (λ _ x y. each (take (i + 1) tables) x.now y.now)
          (λ _ p made. made_at TheDesk tables i c.loop-table-test.true a.now b.now d.now p made)
          c.loop-table.invariant.step c.in_ok-create_empty_table.ensures.step;
    }

pub returns-clause-step : goal.returns-clause-step
returns-clause-step g c =
    let whole : take c.loop-table.table-index c.args.tables.now ≡ c.args.tables.now = take_all c.loop-table.table-index c.args.tables.now c.loop-table-test.false in
    subst (λ (l : List Table). IsTransactionStep {V = Unit {0}} {E = StoreFailed} (state g.S.Store c.args.tx.now.conn.now) (state g.S.Store c.loop-table.tx.conn.now)
    (Ok tt) (λ _ x y. each l x.now y.now)) whole c.loop-table.invariant.step
