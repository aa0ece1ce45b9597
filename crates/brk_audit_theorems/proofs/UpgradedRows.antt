-- Upgraded rows pass the audit of schema 3.
use Rattle.std.proofs.Common.{◌≡◌, true, ◌++◌, refl, sym, ◌∙◌, ap, filter, map, arith}
use Rattle.std.specs.Prelude.{◌&&◌, is_none}
use Rattle.std.specs.List.{list_all}
use Rattle.brk_money.specs.declared.fault.Condition.TheVariants as condition
use Rattle.brk_model.specs.Lists.{all_distinct}
use Rattle.brk_model.specs.Schemas.{Schema, first_schema, second_schema, third_schema}
use Rattle.brk_model.specs.Tables.{Tables}
use Rattle.brk_model.specs.Sheets.{sheets, sheets_in_schema}
use Rattle.brk_model.specs.Adopted.{base_of_tables, movement_of_row}
use Rattle.brk_model.specs.Audit.{ConditionHolds}
use Rattle.brk_model.specs.Upgraded.{tables_with_merged_cash_rows, tables_upgraded_from_schema}
use Rattle.brk_model.specs.Ways.{completion_stamps, satisfies_status_condition, movement_stamps, has_valid_status_history}
use Rattle.brk_trade_books.specs.Books.{BooksInvariant}
use Rattle.brk_audit_theorems.specs.Upgrade.{UpgradedRowsMatchTheirBase, HasLimitsWithinThirdSchema}
use Rattle.brk_audit_theorems.specs.Passing.{PassesAudit}
use Rattle.brk_audit_theorems.proofs.AdoptedBooks.{adopted_books}
use Rattle.brk_audit_theorems.proofs.Members.{map-map}
use Rattle.brk_audit_theorems.proofs.UpgradedBase.{IsPosted, base_upgraded, upgraded_from_upgraded, upgraded_tables, posted}
use Rattle.brk_audit_theorems.proofs.UpgradedForm.{upgraded_form}
use Rattle.brk_audit_theorems.proofs.Passed.{same_tables_pass}
use Rattle.brk_audit_theorems.proofs.Passing.{all_hold, passing_tables}

pub first_narrower : HasLimitsWithinThirdSchema first_schema
first_narrower = record { qty = omega arith; summary = omega arith }

pub second_narrower : HasLimitsWithinThirdSchema second_schema
second_narrower = record { qty = omega arith; summary = omega arith }

stamps_of_base : (t : Tables) → movement_stamps t ≡ map (λ m. m.stamp) (base_of_tables t).movements
unfolding base_of_tables
stamps_of_base t = sym (map-map (λ m. m.stamp) movement_of_row (filter (λ r. is_none r.trade) t.moves))

same_statuses : (t : Tables)
    → (list_all (has_valid_status_history (tables_with_merged_cash_rows t)) (tables_with_merged_cash_rows t).trades
    ≡ list_all (has_valid_status_history t) t.trades) × (completion_stamps (tables_with_merged_cash_rows t) ≡ completion_stamps t)
unfolding tables_with_merged_cash_rows
same_statuses t = (refl, refl)

status_upgraded : (t : Tables) → base_of_tables (tables_with_merged_cash_rows t) ≡ base_of_tables t → satisfies_status_condition t ≡ true
    → satisfies_status_condition (tables_with_merged_cash_rows t) ≡ true
unfolding satisfies_status_condition
status_upgraded t e h =
    (λ i. (same_statuses t).0 i
    && all_distinct ((same_statuses t).1 i
    ++ (stamps_of_base (tables_with_merged_cash_rows t) ∙ ap (λ b. map (λ m. m.stamp) b.movements) e ∙ sym (stamps_of_base t)) i)) ∙ h

form_and_status : (schema : Schema) (t : Tables) → PassesAudit schema t → ConditionHolds schema condition.Form t × ConditionHolds schema condition.Status t
form_and_status schema t p = let h = all_hold schema t p in (h.form, h.status)

pub upgraded_rows : (schema : Schema) (t : Tables) → HasLimitsWithinThirdSchema schema → PassesAudit schema t → UpgradedRowsMatchTheirBase t
unfolding ConditionHolds
upgraded_rows schema t w p =
    let h = form_and_status schema t p in
    let books : BooksInvariant (base_of_tables t) = adopted_books schema t h.0 h.1 in
    let e : sheets_in_schema schema (base_of_tables t) ≡ t = passing_tables schema t p in
    let all : IsPosted t = posted schema t books e in
    let tables : tables_with_merged_cash_rows t ≡ sheets (base_of_tables t) = upgraded_tables schema t e all in
    let base : base_of_tables (tables_with_merged_cash_rows t) ≡ base_of_tables t = base_upgraded schema t e all in
    record {
      tables = tables;
      base = base;
      passes = same_tables_pass third_schema (tables_with_merged_cash_rows t) (upgraded_form schema t w h.0 books all tables) (status_upgraded t base h.1) (ap sheets base ∙ sym tables);
    }

-- the same whatever schema they pass
pub rows_upgraded_from : (schema : Schema) (t : Tables) → PassesAudit schema t → (tables_upgraded_from_schema schema t ≡ tables_with_merged_cash_rows t)
    × (tables_with_merged_cash_rows t ≡ sheets (base_of_tables t))
unfolding ConditionHolds
rows_upgraded_from schema t p =
    let h = form_and_status schema t p in
    let books : BooksInvariant (base_of_tables t) = adopted_books schema t h.0 h.1 in
    let e : sheets_in_schema schema (base_of_tables t) ≡ t = passing_tables schema t p in
    let all : IsPosted t = posted schema t books e in
    (upgraded_from_upgraded schema t e all, upgraded_tables schema t e all)
