use Rattle.std.proofs.Common.{◌≡◌, ◌∙◌, ◌&&◌, ap, not, true, false, Bool, Ok, sym}
use Rattle.std.specs.List.{list_all, list_any}
use Rattle.sqlite.specs.Effect.{Database}
use Rattle.sqlite.specs.Held.{state}
use Rattle.sqlite.specs.State.{State}
use Rattle.brk_tables_sql.proofs.Inside.{step_then, step_read}
use Rattle.brk_tables_scan.specs.Present.{has_table_named}
use Rattle.brk_tables_schema.specs.Texts.{abstract_table}
use Rattle.brk_tables_schema.specs.declared.table.Table.{Table}
use Rattle.brk_tables_scan.proofs.presence.presence_matches.Goals as goal

abbrev test : Database → Table → Bool
test db table = has_table_named db.schema (abstract_table table)

pub returns-then-not-branch-clause-step : goal.returns-then-not-branch-clause-step
returns-then-not-branch-clause-step g c =
    let old = state g.S.Store c.args.tx.now.conn.now in
    let new = state g.S.Store c.has_each_of_tables.new.tx.conn.now in
    let all = list_all (test old.now) c.args.present.now in
    step_read old new c.in_ok-has_each_of_tables.field-0 (Ok false) (λ has a b. (b.now ≡ a.now) × (has ≡ list_all (test a.now) c.args.present.now)) _
    (λ w e p. let f : w ≡ false = cc in let off : all ≡ false = sym p.1 ∙ c.if-not-branch.true in (p.0, f ∙ sym (ap (λ b. b && not (list_any (test old.now) c.args.absent.now)) off)))
    c.in_ok-has_each_of_tables.ensures.step

pub returns-clause-step : goal.returns-clause-step
returns-clause-step g c =
    let old = state g.S.Store c.args.tx.now.conn.now in
    let mid = state g.S.Store c.has_each_of_tables.new.tx.conn.now in
    let new = state g.S.Store c.has_any_of_tables.new.tx.conn.now in
    let one = c.in_ok-has_any_of_tables.field-0 in
    let made : Bool → State → State → Type 0 = λ one a b. (b.now ≡ a.now) × (list_all (test a.now) c.args.present.now ≡ true) × (one ≡ list_any (test a.now) c.args.absent.now) in
    step_read old new one (Ok (not one)) made _
    (λ w e p. let f : w ≡ not one = cc in (p.0, f ∙ ap not p.2 ∙ sym (ap (λ b. b && not (list_any (test old.now) c.args.absent.now)) p.1)))
    (step_then old mid new c.in_ok-has_each_of_tables.field-0 (Ok one) (λ has a b. (b.now ≡ a.now) × (has ≡ list_all (test a.now) c.args.present.now))
    (λ has a b. (b.now ≡ a.now) × (has ≡ list_any (test a.now) c.args.absent.now)) made
    (λ v p q. (q.0 ∙ p.0, sym p.1 ∙ c.if-not-branch.false, q.1 ∙ ap (λ db. list_any (test db) c.args.absent.now) p.0)) c.in_ok-has_each_of_tables.ensures.step c.in_ok-has_any_of_tables.ensures.step)
