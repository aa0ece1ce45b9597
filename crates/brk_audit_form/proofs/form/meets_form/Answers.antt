use Rattle.std.proofs.Common.{false, sym, ◌∙◌, ap, map}
use Rattle.std.specs.Prelude.{Bool, ◌&&◌}
use Rattle.std.specs.List.{list_all}
use Rattle.brk_model.specs.Audit.{ConditionHolds}
use Rattle.brk_model.specs.Form.{satisfies_form_condition, has_distinct_tax_ids, is_within_customer_limits, is_well_formed_cash_transaction_row, is_well_formed_cash_move_row, trade_ids_of_cash_rows}
use Rattle.brk_model.specs.Lists.{all_distinct}
use Rattle.brk_ref.specs.Records.{abstract_customer}
use Rattle.brk_ref.specs.Rows.{abstract_old_cash_row, abstract_cash_row}
use Rattle.brk_trade_rows.specs.Schemas.{abstract_schema}
use Rattle.brk_trade_rows.specs.Sheets.{abstract_sheets}
use Rattle.brk_trade_rows.specs.declared.sheets.Sheets.{Sheets}
use Rattle.brk_audit_form.proofs.WholeForm.{form_told, told, each_told}
use Rattle.brk_audit_form.proofs.form.meets_form.Goals as goal

abbrev own : Sheets → Bool
own s = has_distinct_tax_ids (map abstract_customer s.customers.items)

abbrev limits : Sheets → Bool
limits s = list_all (is_within_customer_limits (abstract_sheets s)) (map abstract_customer s.customers.items)

abbrev cash : Sheets → Bool
cash s = list_all (is_well_formed_cash_transaction_row (abstract_sheets s)) (map abstract_old_cash_row s.cash.items)

abbrev moves : Sheets → Bool
moves s = list_all (is_well_formed_cash_move_row (abstract_sheets s)) (map abstract_cash_row s.moves.items)

abbrev owns : Sheets → Bool
owns s = all_distinct (trade_ids_of_cash_rows (map abstract_cash_row s.moves.items))

pub returns-then-not-passes_nonallocating_checks : goal.returns-then-not-passes_nonallocating_checks
unfolding ConditionHolds
returns-then-not-passes_nonallocating_checks c =
    let s = c.args.sheets.now in
    let schema = abstract_schema c.args.schema in
    told false (satisfies_form_condition schema (abstract_sheets s))
    (sym (ap (λ b. b && own s && limits s && cash s && moves s && owns s) (sym c.passes_nonallocating_checks.ensures ∙ c.if-not-passes_nonallocating_checks.true)) ∙ form_told schema s)

pub returns-then-not-has_distinct_tax_ids : goal.returns-then-not-has_distinct_tax_ids
unfolding ConditionHolds
returns-then-not-has_distinct_tax_ids c =
    let s = c.args.sheets.now in
    let schema = abstract_schema c.args.schema in
    let plain = sym c.passes_nonallocating_checks.ensures ∙ c.if-not-passes_nonallocating_checks.false in
    let first = sym (ap (λ l. has_distinct_tax_ids (map abstract_customer l)) c.deref.ensures.value) ∙ sym c.in_ok-has_distinct_tax_ids.ensures ∙ c.if-not-has_distinct_tax_ids.true in
    told false (satisfies_form_condition schema (abstract_sheets s)) (sym (λ i. plain i && first i && limits s && cash s && moves s && owns s) ∙ form_told schema s)

pub returns-then-not-has_limits : goal.returns-then-not-has_limits
unfolding ConditionHolds
returns-then-not-has_limits c =
    let s = c.args.sheets.now in
    let schema = abstract_schema c.args.schema in
    let plain = sym c.passes_nonallocating_checks.ensures ∙ c.if-not-passes_nonallocating_checks.false in
    let first = sym (ap (λ l. has_distinct_tax_ids (map abstract_customer l)) c.deref.ensures.value) ∙ sym c.in_ok-has_distinct_tax_ids.ensures ∙ c.if-not-has_distinct_tax_ids.false in
    let second = sym c.in_ok-has_limits.ensures ∙ c.if-not-has_limits.true in
    told false (satisfies_form_condition schema (abstract_sheets s)) (sym (λ i. plain i && first i && second i && cash s && moves s && owns s) ∙ form_told schema s)

pub returns-then-not-has_cash : goal.returns-then-not-has_cash
unfolding ConditionHolds
returns-then-not-has_cash c =
    let s = c.args.sheets.now in
    let schema = abstract_schema c.args.schema in
    let plain = sym c.passes_nonallocating_checks.ensures ∙ c.if-not-passes_nonallocating_checks.false in
    let first = sym (ap (λ l. has_distinct_tax_ids (map abstract_customer l)) c.deref.ensures.value) ∙ sym c.in_ok-has_distinct_tax_ids.ensures ∙ c.if-not-has_distinct_tax_ids.false in
    let second = sym c.in_ok-has_limits.ensures ∙ c.if-not-has_limits.false in
    let third = sym c.in_ok-has_cash.ensures ∙ c.if-not-has_cash.true in
    told false (satisfies_form_condition schema (abstract_sheets s)) (sym (λ i. plain i && first i && second i && third i && moves s && owns s) ∙ form_told schema s)

pub returns-then-not-has_moves : goal.returns-then-not-has_moves
unfolding ConditionHolds
returns-then-not-has_moves c =
    let s = c.args.sheets.now in
    let schema = abstract_schema c.args.schema in
    let plain = sym c.passes_nonallocating_checks.ensures ∙ c.if-not-passes_nonallocating_checks.false in
    let first = sym (ap (λ l. has_distinct_tax_ids (map abstract_customer l)) c.deref.ensures.value) ∙ sym c.in_ok-has_distinct_tax_ids.ensures ∙ c.if-not-has_distinct_tax_ids.false in
    let second = sym c.in_ok-has_limits.ensures ∙ c.if-not-has_limits.false in
    let third = sym c.in_ok-has_cash.ensures ∙ c.if-not-has_cash.false in
    let fourth = sym c.in_ok-has_moves.ensures ∙ c.if-not-has_moves.true in
    told false (satisfies_form_condition schema (abstract_sheets s)) (sym (λ i. plain i && first i && second i && third i && fourth i && owns s) ∙ form_told schema s)

pub returns : goal.returns
unfolding ConditionHolds
returns c =
    let s = c.args.sheets.now in
    let schema = abstract_schema c.args.schema in
    let plain = sym c.passes_nonallocating_checks.ensures ∙ c.if-not-passes_nonallocating_checks.false in
    let first = sym (ap (λ l. has_distinct_tax_ids (map abstract_customer l)) c.deref.ensures.value) ∙ sym c.in_ok-has_distinct_tax_ids.ensures ∙ c.if-not-has_distinct_tax_ids.false in
    let second = sym c.in_ok-has_limits.ensures ∙ c.if-not-has_limits.false in
    let third = sym c.in_ok-has_cash.ensures ∙ c.if-not-has_cash.false in
    let fourth = sym c.in_ok-has_moves.ensures ∙ c.if-not-has_moves.false in
    let same = ap (λ l. all_distinct (trade_ids_of_cash_rows (map abstract_cash_row l))) c.deref-2.ensures.value in
    each_told c.have_distinct_trades.result (satisfies_form_condition schema (abstract_sheets s))
    (all_distinct (trade_ids_of_cash_rows (map abstract_cash_row c.deref-2.result.now))) c.have_distinct_trades.ensures
    (same ∙ sym (λ i. plain i && first i && second i && third i && fourth i && owns s) ∙ form_told schema s)
