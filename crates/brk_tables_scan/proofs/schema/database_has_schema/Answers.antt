use Rattle.std.proofs.Common.{◌≡◌, ◌∙◌, ◌↔◌, true, false, Ok, List, subst}
use Rattle.std.specs.Prelude.{IsTrue}
use Rattle.sqlite_value.specs.Order.{Row}
use Rattle.sqlite.specs.Held.{state}
use Rattle.sqlite.specs.State.{State}
use Rattle.brk_trade_rows.specs.Schemas.{abstract_schema}
use Rattle.brk_tables_sql.proofs.Inside.{step_then, step_read}
use Rattle.brk_tables_schema.specs.Desk.{TheDesk}
use Rattle.brk_tables_scan.specs.Schemas.{DatabaseHasSchema, HasTablesOfSchema, LacksTablesOfLaterSchemas, IsOneDeskRowOfSchema}
use Rattle.brk_tables_scan.specs.Whole.{ShowsAllRows}
use Rattle.brk_tables_scan.proofs.There.{desk_is_not, row_tells}
use Rattle.brk_tables_scan.proofs.schema.database_has_schema.Goals as goal

pub returns-then-not-branch-clause-step : goal.returns-then-not-branch-clause-step
returns-then-not-branch-clause-step g c =
    let desk = abstract_schema c.args.schema in
    let old = state g.S.Store c.args.tx.now.conn.now in
    let new = state g.S.Store c.tables_match.new.tx.conn.now in
    step_read old new c.in_ok-tables_match.field-0 (Ok false)
    (λ has a b. IsTrue a.is_open × (b.now ≡ a.now) × (IsTrue has ↔ HasTablesOfSchema desk a.now.schema × LacksTablesOfLaterSchemas desk a.now.schema)) _
    (λ w e p. let f : w ≡ false = cc in (p.0, p.1, λ defined. desk_is_not desk old.now c.in_ok-tables_match.field-0 w p.2 c.if-not-branch.true f))
    c.in_ok-tables_match.ensures.step

pub returns-clause-step : goal.returns-clause-step
returns-clause-step g c =
    let desk = abstract_schema c.args.schema in
    let old = state g.S.Store c.args.tx.now.conn.now in
    let mid = state g.S.Store c.tables_match.new.tx.conn.now in
    let new = state g.S.Store c.desk_rows.new.tx.conn.now in
    let has = c.in_ok-tables_match.field-0 in
    let rows = c.in_ok-desk_rows.field-0.items in
    let is : c.deref.result.now ≡ rows = c.deref.ensures.value in
    let made : List Row → State → State → Type 0 = λ rows a b. IsTrue a.is_open × (b.now ≡ a.now)
    × (IsTrue has ↔ HasTablesOfSchema desk a.now.schema × LacksTablesOfLaterSchemas desk a.now.schema) × ShowsAllRows TheDesk rows a.now in
    step_read old new c.in_ok-desk_rows.field-0 (Ok c.has_one_desk_row.result) (λ v a b. made v.items a b) _
    (λ w e p.
    let f : c.has_one_desk_row.result ≡ w = cc in (
      p.0,
      p.1,
      λ defined. subst (λ w. IsTrue w ↔ DatabaseHasSchema desk old.now) f
          (row_tells desk old.now defined (p.2.0 c.if-not-branch.false) c.has_one_desk_row.result rows p.3
          (subst (λ l. c.has_one_desk_row.result ≡ true → IsOneDeskRowOfSchema desk l) is c.has_one_desk_row.ensures.if_true)
          (subst (λ l. c.has_one_desk_row.result ≡ false → IsOneDeskRowOfSchema desk l → ⊥) is c.has_one_desk_row.ensures.if_false)),
    ))
    (step_then old mid new has (Ok c.in_ok-desk_rows.field-0)
    (λ has a b. IsTrue a.is_open × (b.now ≡ a.now) × (IsTrue has ↔ HasTablesOfSchema desk a.now.schema × LacksTablesOfLaterSchemas desk a.now.schema))
    (λ rows a b. IsTrue a.is_open × (b.now ≡ a.now) × ShowsAllRows TheDesk rows.items a.now) (λ v a b. made v.items a b)
    (λ v p q. (p.0, q.1 ∙ p.1, p.2, subst (ShowsAllRows TheDesk v.items) p.1 q.2)) c.in_ok-tables_match.ensures.step c.in_ok-desk_rows.ensures.step)
