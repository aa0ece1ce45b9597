use Rattle.std.proofs.Common.{◌≡◌, ◌∙◌, ◌+◌, ◌<◌, ℕ, List, Ok, ap, map, length, get_or, refl, sym, subst, take, arith, rules}
use Rattle.std.proofs.lemmas.List.{take_all, length-map, get_or-map}
use Rattle.sqlite.specs.Held.{state}
use Rattle.brk_money.specs.declared.fault.CallFault.{CallFault}
use Rattle.brk_model.specs.Tables.{OldCashRow}
use Rattle.brk_ref.specs.Rows.{abstract_old_cash_row}
use Rattle.brk_tables_sql.specs.Desk.{ChangesTablesBy}
use Rattle.brk_tables_sql.specs.Model.{IsTransactionStep}
use Rattle.brk_tables_sql.proofs.Inside.{step_then}
use Rattle.brk_tables_schema.specs.Desk.{desk_tables}
use Rattle.brk_tables_cash.specs.Upgrade.{tables_with_cash_rows_numbered_from, tables_with_numbered_cash_row}
use Rattle.brk_tables_cash.proofs.Turning.{nothing_moved, one_added}
use Rattle.brk_tables_cash.proofs.numbering.add_numbered_cash_rows.Goals as goal

pub loop-row-init : goal.loop-row-init
loop-row-init g c = record { same = refl; next = refl; step = nothing_moved (state g.S.Store c.args.tx.now.conn.now) }

pub loop-row-preserved : goal.loop-row-preserved
loop-row-preserved g c =
    let rows = map abstract_old_cash_row c.args.rows.now in
    let i = c.loop-row.row-index in
    let item = c.row-item.result in
    let a = state g.S.Store c.args.tx.now.conn.now in
    let b = state g.S.Store c.loop-row.tx.conn.now in
    let d = state g.S.Store c.add_numbered_cash_row.new.tx.conn.now in
    let long : i < length rows = subst (λ n. i < n) (sym (length-map c.args.rows.now abstract_old_cash_row)) c.loop-row-test.true in
    let this : get_or rows i (abstract_old_cash_row item) ≡ abstract_old_cash_row item =
    get_or-map abstract_old_cash_row c.args.rows.now i item (abstract_old_cash_row item) c.loop-row-test.true ∙ ap abstract_old_cash_row (sym c.row-item.is) in
    record {
      same = c.add_numbered_cash_row.ensures.same_reference ∙ c.loop-row.invariant.same;
      next = search rules;
      step = step_then a b d tt (Ok tt) (λ _ x y. ChangesTablesBy desk_tables (tables_with_cash_rows_numbered_from 1 (take i rows)) x.now y.now)
          (λ _ x y. ChangesTablesBy desk_tables (tables_with_numbered_cash_row (1 + i) (get_or rows i (abstract_old_cash_row item))) x.now y.now)
          (λ _ x y. ChangesTablesBy desk_tables (tables_with_cash_rows_numbered_from 1 (take (i + 1) rows)) x.now y.now)
          (λ _ p q. one_added (abstract_old_cash_row item) rows i long a.now b.now d.now p q) c.loop-row.invariant.step
          (subst (λ (r : OldCashRow). IsTransactionStep {V = Unit {0}} {E = CallFault} b d (Ok tt)
          (λ _ x y. ChangesTablesBy desk_tables (tables_with_numbered_cash_row (1 + i) r) x.now y.now)) (sym this)
          (subst (λ (n : ℕ). IsTransactionStep {V = Unit {0}} {E = CallFault} b d (Ok tt)
          (λ _ x y. ChangesTablesBy desk_tables (tables_with_numbered_cash_row n (abstract_old_cash_row item)) x.now y.now)) (search rules)
          c.in_ok-add_numbered_cash_row.ensures.step));
    }

pub returns-clause-step : goal.returns-clause-step
returns-clause-step g c =
    let rows = map abstract_old_cash_row c.args.rows.now in
    let whole : take c.loop-row.row-index rows ≡ rows = take_all c.loop-row.row-index rows (omega (arith, length-map c.args.rows.now abstract_old_cash_row, c.loop-row-test.false)) in
    subst (λ (l : List OldCashRow). IsTransactionStep {V = Unit {0}} {E = CallFault} (state g.S.Store c.args.tx.now.conn.now) (state g.S.Store c.loop-row.tx.conn.now)
    (Ok tt) (λ _ x y. ChangesTablesBy desk_tables (tables_with_cash_rows_numbered_from 1 l) x.now y.now)) whole c.loop-row.invariant.step
