use Rattle.std.proofs.Common.{ℕ, List, [], ◌∷◌, Option, Some, None, map, ◌≡◌, refl, ap, sym, ◌∙◌}
use Rattle.sqlite.specs.Held.{state}
use Rattle.brk_model.specs.Tables.{Tables}
use Rattle.brk_tables_sql.proofs.Answer.{look_all}
use Rattle.brk_tables_sql.proofs.Inside.{step_weaker}
use Rattle.brk_tables_schema.specs.Cells.{RuleRow, rule_cells}
use Rattle.brk_tables_schema.specs.Desk.{desk_tables, rule_rows}
use Rattle.brk_tables_schema.proofs.Back.{rule_back, rule_is_back}
use Rattle.brk_tables_cash.proofs.RuleRows
use Rattle.brk_tables_cash.proofs.RuleRows.{plain}
use Rattle.brk_tables_cash.proofs.CashReads.{tells_rule}
use Rattle.brk_tables_cash.proofs.rule.one_day_start.Goals as goal

pub select_rows-requires : goal.select_rows-requires
select_rows-requires g c = record { no_returning_clause = plain }

abbrev first_day : List RuleRow → Option ℕ
first_day [] = None
first_day (r ∷ rows) = Some r.day

day_back : (o : Option ℕ) → first_day (rule_rows o) ≡ o
day_back None = refl
day_back (Some n) = refl

day_shown : (o : Option ℕ) → first_day (map (λ (r : RuleRow). r) (rule_rows o)) ≡ o
day_shown None = refl
day_shown (Some n) = refl

pub returns-clause-step : goal.returns-clause-step
returns-clause-step g c =
    let old = state g.S.Store c.args.tx.now.conn.now in
    let new = state g.S.Store c.select_rows.new.tx.conn.now in
    step_weaker old new c.one_day_start_in_rows.result _ _ (λ v looks. (looks.0, looks.1, λ t tree h. sym (day_shown v) ∙ ap first_day (looks.2 t tree h) ∙ day_back t.rule))
    (look_all desk_tables rule_cells rule_back rule_is_back (λ (r : RuleRow). r) RuleRows.statement [] old new c.in_ok-rows.rows (λ rows. rows.items) _ c.deref.ensures.value c.in_ok-rows.ensures.step
    rule_rows c.one_day_start_in_rows.result c.one_day_start_in_rows.ensures.value (λ (t : Tables). rule_rows t.rule) (tells_rule old new _))
