use Rattle.std.proofs.Common.{◌≡◌, ◌∙◌, List, Ok, Err, ap, refl, sym, subst, take, ◌+◌}
use Rattle.std.proofs.lemmas.List.{take_all}
use Rattle.std.proofs.lemmas.Result.{err_from_is_err_and}
use Rattle.std.proofs.lemmas.List.Sums.{fold_more}
use Rattle.sqlite.specs.Held.{state}
use Rattle.brk_money.specs.declared.fault.StoreFailed.{StoreFailed}
use Rattle.brk_model.specs.Tables.{Tables}
use Rattle.brk_tables_sql.proofs.Inside.{step_then}
use Rattle.brk_tables_sql.proofs.Strangers.{spares_then}
use Rattle.brk_tables_sql.specs.Desk.{HasTables, ChangesTablesBy}
use Rattle.brk_tables_sql.specs.Model.{IsTransactionStep}
use Rattle.brk_tables_schema.specs.Desk.{desk_tables}
use Rattle.brk_trade_rows.specs.Changes.{tables_after_change, tables_after_changes}
use Rattle.brk_trade_rows.specs.declared.change.Change.{Change}
use Rattle.brk_store_transactions.proofs.Ending.{failed_then}
use Rattle.brk_store_transactions.proofs.Making.{none_made}
use Rattle.brk_store_transactions.proofs.changing.apply_each_change.Goals as goal

pub loop-change-init : goal.loop-change-init
loop-change-init g c = record { same = refl; step = none_made (state g.S.Store c.args.tx.now.conn.now) }

pub loop-change-preserved : goal.loop-change-preserved
loop-change-preserved g c =
    let xs = c.args.changes.now in
    let i = c.loop-change.change-index in
    let a = state g.S.Store c.args.tx.now.conn.now in
    let b = state g.S.Store c.loop-change.tx.conn.now in
    let d = state g.S.Store c.apply_change.new.tx.conn.now in
    record {
      same = c.apply_change.ensures.same_reference ∙ c.loop-change.invariant.same;
      step = step_then a b d tt (Ok tt) (λ _ x y. ChangesTablesBy desk_tables (tables_after_changes (take i xs)) x.now y.now)
          (λ _ x y. ChangesTablesBy desk_tables (tables_after_change c.change-item.result) x.now y.now)
          (λ _ x y. ChangesTablesBy desk_tables (tables_after_changes (take (i + 1) xs)) x.now y.now)
          (λ v p q t tree h.
          let e : tables_after_changes (take (i + 1) xs) t ≡ tables_after_change c.change-item.result (tables_after_changes (take i xs) t) =
          fold_more (λ (u : Tables) (k : Change). tables_after_change k u) t xs i c.change-item.result c.loop-change-test.true
          ∙ ap (λ (k : Change). tables_after_change k (tables_after_changes (take i xs) t)) (sym c.change-item.is) in
          let before = p t tree h in
          let turned = q (tables_after_changes (take i xs) t) tree before.0 in
          (subst (λ u. HasTables desk_tables u tree d.now) (sym e) turned.0, spares_then tree a.now b.now d.now before.1 turned.1))
          c.loop-change.invariant.step c.in_ok-apply_change.ensures.step;
    }

pub returns-clause-step : goal.returns-clause-step
returns-clause-step g c =
    let a = state g.S.Store c.args.tx.now.conn.now in
    let b = state g.S.Store c.loop-change.tx.conn.now in
    let whole : take c.loop-change.change-index c.args.changes.now ≡ c.args.changes.now = take_all c.loop-change.change-index c.args.changes.now c.loop-change-test.false in
    subst (λ (l : List Change). IsTransactionStep {V = Unit {0}} {E = StoreFailed} a b (Ok tt) (λ _ x y. ChangesTablesBy desk_tables (tables_after_changes l) x.now y.now)) whole c.loop-change.invariant.step

pub returns-in_err-apply_change-clause-step : goal.returns-in_err-apply_change-clause-step
returns-in_err-apply_change-clause-step g c =
    let a = state g.S.Store c.args.tx.now.conn.now in
    let b = state g.S.Store c.loop-change.tx.conn.now in
    let d = state g.S.Store c.apply_change.new.tx.conn.now in
    let fault = c.in_err-apply_change.field-0.0 in
    let p = err_from_is_err_and c.from_residual.result c.from_residual.ensures.1 in
    failed_then a b d tt c.from_residual.result fault fault
    (λ _ x y. ChangesTablesBy desk_tables (tables_after_changes (take c.loop-change.change-index c.args.changes.now)) x.now y.now)
    (λ _ x y. ChangesTablesBy desk_tables (tables_after_change c.change-item.result) x.now y.now)
    (λ _ x y. ChangesTablesBy desk_tables (tables_after_changes c.args.changes.now) x.now y.now) (p.1 ∙ ap Err p.2) c.loop-change.invariant.step c.in_err-apply_change.ensures.step
