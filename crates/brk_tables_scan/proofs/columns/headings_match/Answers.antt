use Rattle.std.proofs.Common.{◌≡◌, ◌∙◌, [], Bool, true, false, Ok, get_or, map, subst, take}
use Rattle.std.specs.Prelude.{IsTrue}
use Rattle.sqlite.specs.Held.{state}
use Rattle.sqlite.specs.State.{State}
use Rattle.brk_tables_sql.specs.Desk.{IsResultColumnCheckOutcome}
use Rattle.brk_tables_sql.proofs.Inside.{step_then, step_read}
use Rattle.brk_tables_scan.specs.Headings.{IsHeadingCheckOutcome, heading_of_borrowed_texts}
use Rattle.brk_tables_scan.proofs.Headed.{Told, wrong_at, right_at}
use Rattle.brk_tables_scan.proofs.columns.headings_match.Goals as goal

pub returns-then-not-branch-clause-step : goal.returns-then-not-branch-clause-step
returns-then-not-branch-clause-step g c =
    let all = c.args.headings.now in
    let i = c.loop-text.text-index in
    let d : Told = (record { ref_ptr = (0, 0); now = [] }, record { ref_ptr = (0, 0); now = [] }) in
    let old = state g.S.Store c.args.tx.now.conn.now in
    let mid = state g.S.Store c.loop-text.tx.conn.now in
    let new = state g.S.Store c.statement_has_columns.new.tx.conn.now in
    let before : Unit {0} → State → State → Type 0 = λ _ a b. (b.now ≡ a.now) × IsHeadingCheckOutcome (map heading_of_borrowed_texts (take i all)) true a.now.schema in
    let this : Bool → State → State → Type 0 = λ has a b. IsTrue a.is_open × (b.now ≡ a.now)
    × IsResultColumnCheckOutcome (heading_of_borrowed_texts (get_or all i d)).0 (heading_of_borrowed_texts (get_or all i d)).1 has a.now.schema in
    let made : Bool → State → State → Type 0 = λ has a b. (b.now ≡ a.now) × IsHeadingCheckOutcome (map heading_of_borrowed_texts (take i all)) true a.now.schema
    × IsResultColumnCheckOutcome (heading_of_borrowed_texts (get_or all i d)).0 (heading_of_borrowed_texts (get_or all i d)).1 has a.now.schema in
    step_read old new c.in_ok-statement_has_columns.field-0 (Ok false) made (λ has a b. (b.now ≡ a.now) × IsHeadingCheckOutcome (map heading_of_borrowed_texts all) has a.now.schema)
    (λ w e p.
    let f : false ≡ w = cc in (
      p.0,
      subst (λ w. IsHeadingCheckOutcome (map heading_of_borrowed_texts all) w old.now.schema) f
          (wrong_at old.now.schema d all i c.loop-text-test.true p.1
          (subst (λ h. IsResultColumnCheckOutcome (heading_of_borrowed_texts (get_or all i d)).0 (heading_of_borrowed_texts (get_or all i d)).1 h old.now.schema)
          c.if-not-branch.true p.2)),
    ))
    (step_then old mid new tt (Ok c.in_ok-statement_has_columns.field-0) before this made
    (λ v p q. (
      q.1 ∙ p.0,
      p.1,
      subst
          (λ s. IsResultColumnCheckOutcome (heading_of_borrowed_texts (get_or all i d)).0 (heading_of_borrowed_texts (get_or all i d)).1 v s.schema) p.0 q.2,
    ))
    c.loop-text.invariant.step c.in_ok-statement_has_columns.ensures.step)

pub loop-text-preserved : goal.loop-text-preserved
loop-text-preserved g c =
    let all = c.args.headings.now in
    let i = c.loop-text.text-index in
    let d : Told = (record { ref_ptr = (0, 0); now = [] }, record { ref_ptr = (0, 0); now = [] }) in
    let old = state g.S.Store c.args.tx.now.conn.now in
    let mid = state g.S.Store c.loop-text.tx.conn.now in
    let new = state g.S.Store c.statement_has_columns.new.tx.conn.now in
    let before : Unit {0} → State → State → Type 0 = λ _ a b. (b.now ≡ a.now) × IsHeadingCheckOutcome (map heading_of_borrowed_texts (take i all)) true a.now.schema in
    let this : Bool → State → State → Type 0 = λ has a b. IsTrue a.is_open × (b.now ≡ a.now)
    × IsResultColumnCheckOutcome (heading_of_borrowed_texts (get_or all i d)).0 (heading_of_borrowed_texts (get_or all i d)).1 has a.now.schema in
    let made : Bool → State → State → Type 0 = λ has a b. (b.now ≡ a.now) × IsHeadingCheckOutcome (map heading_of_borrowed_texts (take i all)) true a.now.schema
    × IsResultColumnCheckOutcome (heading_of_borrowed_texts (get_or all i d)).0 (heading_of_borrowed_texts (get_or all i d)).1 has a.now.schema in
    record {
      same = c.statement_has_columns.ensures.same_reference ∙ c.loop-text.invariant.same;
      step = step_read old new c.in_ok-statement_has_columns.field-0 (Ok tt) made _
          (λ w e p. (
            p.0,
            right_at old.now.schema d all i c.loop-text-test.true p.1
                (subst (λ h. IsResultColumnCheckOutcome (heading_of_borrowed_texts (get_or all i d)).0 (heading_of_borrowed_texts (get_or all i d)).1 h
                old.now.schema) c.if-not-branch.false p.2),
          ))
          (step_then old mid new tt (Ok c.in_ok-statement_has_columns.field-0) before this made
          (λ v p q. (
            q.1 ∙ p.0,
            p.1,
            subst
                (λ s. IsResultColumnCheckOutcome (heading_of_borrowed_texts (get_or all i d)).0 (heading_of_borrowed_texts (get_or all i d)).1 v s.schema) p.0
                q.2,
          )) c.loop-text.invariant.step c.in_ok-statement_has_columns.ensures.step);
    }
