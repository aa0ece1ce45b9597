use Rattle.std.proofs.Common.{◌≡◌, ◌∙◌, ◌↔◌, false, Bool, Ok, map, subst, sym}
use Rattle.std.specs.Prelude.{IsTrue}
use Rattle.sqlite.specs.Held.{state}
use Rattle.sqlite.specs.State.{State}
use Rattle.brk_trade_rows.specs.Schemas.{abstract_schema}
use Rattle.brk_tables_sql.proofs.Inside.{step_then, step_read}
use Rattle.brk_tables_schema.specs.Desk.{tables_in_schema}
use Rattle.brk_tables_scan.specs.Present.{has_exact_table_names}
use Rattle.brk_tables_scan.specs.Headings.{IsHeadingCheckOutcome, heading_of_table}
use Rattle.brk_tables_scan.specs.Schemas.{HasTablesOfSchema, LacksTablesOfLaterSchemas}
use Rattle.brk_tables_scan.proofs.Headed.{columns_tell, none_there}
use Rattle.brk_tables_scan.proofs.columns.tables_match.Goals as goal

pub returns-then-not-branch-clause-step : goal.returns-then-not-branch-clause-step
returns-then-not-branch-clause-step g c =
    let desk = abstract_schema c.args.schema in
    let old = state g.S.Store c.args.tx.now.conn.now in
    let new = state g.S.Store c.has_table_names.new.tx.conn.now in
    step_read old new c.in_ok-has_table_names.field-0 (Ok false) (λ has a b. IsTrue a.is_open × (b.now ≡ a.now) × (has ≡ has_exact_table_names desk a.now.schema)) _
    (λ w e p. let f : w ≡ false = cc in (p.0, p.1, none_there old.now.schema desk w (sym p.2 ∙ c.if-not-branch.true) f))
    c.in_ok-has_table_names.ensures.step

pub returns-clause-step : goal.returns-clause-step
returns-clause-step g c =
    let desk = abstract_schema c.args.schema in
    let old = state g.S.Store c.args.tx.now.conn.now in
    let mid = state g.S.Store c.has_table_names.new.tx.conn.now in
    let new = state g.S.Store c.tables_have_columns.new.tx.conn.now in
    let named : Bool → State → State → Type 0 = λ has a b. IsTrue a.is_open × (b.now ≡ a.now) × (has ≡ has_exact_table_names desk a.now.schema) in
    step_then old mid new c.in_ok-has_table_names.field-0 c.tables_have_columns.result named
    (λ has a b. (b.now ≡ a.now) × IsHeadingCheckOutcome (map heading_of_table (tables_in_schema desk)) has a.now.schema)
    (λ has a b. IsTrue a.is_open × (b.now ≡ a.now) × (IsTrue has ↔ HasTablesOfSchema desk a.now.schema × LacksTablesOfLaterSchemas desk a.now.schema))
    (λ v p q. (
      p.0,
      q.0 ∙ p.1,
      columns_tell old.now.schema desk (sym p.2 ∙ c.if-not-branch.false) v
          (subst (λ d. IsHeadingCheckOutcome (map heading_of_table (tables_in_schema desk)) v d.schema) p.1 q.1),
    ))
    c.in_ok-has_table_names.ensures.step c.tables_have_columns.ensures.step
