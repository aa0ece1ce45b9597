-- Rows that pass the audit, condition by condition.
use Rattle.std.proofs.Common.{◌≡◌, inl, inr, Some, None}
use Rattle.std.specs.Prelude.{◌⊎◌}
use Rattle.brk_money.specs.declared.fault.Condition.{Condition}
use Rattle.brk_money.specs.declared.fault.Condition.TheVariants as condition
use Rattle.brk_model.specs.Schemas.{Schema}
use Rattle.brk_model.specs.Tables.{Tables}
use Rattle.brk_model.specs.Adopted.{base_of_tables}
use Rattle.brk_model.specs.Sheets.{sheets_in_schema}
use Rattle.brk_model.specs.Audit.{ConditionHolds}
use Rattle.brk_trade_books.specs.Books.{BooksInvariant}
use Rattle.brk_audit_theorems.specs.Passing.{PassesAudit}
use Rattle.brk_audit_theorems.proofs.AdoptedBooks.{adopted_books}
use Rattle.brk_audit_theorems.proofs.AdoptedTables.{Derives, adopted_tables}

-- what an audit without a failing condition says of the first of some conditions, and of the rest
first_rest : (A B : Type 0) (c : Condition) → (A × B) ⊎ ((A → ⊥) × (None ≡ Some c)) → A × B
first_rest A B c (inl h) = h
first_rest A B c (inr h) = let e : None ≡ Some c = h.1 in absurd (cc)

-- all conditions of rows that pass
pub record AllHold (schema : Schema) (t : Tables) : Type 0 where
  pub form : ConditionHolds schema condition.Form t
  pub status : ConditionHolds schema condition.Status t
  pub derives : Derives schema t

pub all_hold : (schema : Schema) (t : Tables) → PassesAudit schema t → AllHold schema t
all_hold schema t p0 =
    let c = λ (cs : Condition). cs in
    let p1 = first_rest _ _ condition.Form p0 in
    let p2 = first_rest _ _ condition.Status p1.1 in
    let p3 = first_rest _ _ condition.Requests p2.1 in
    let p4 = first_rest _ _ condition.Lots p3.1 in
    let p5 = first_rest _ _ condition.History p4.1 in
    let p6 = first_rest _ _ condition.Summary p5.1 in
    let p7 = first_rest _ _ condition.Count p6.1 in
    let p8 = first_rest _ _ condition.Commission p7.1 in
    let p9 = first_rest _ _ condition.Settlement p8.1 in
    let p10 = first_rest _ _ condition.Cash p9.1 in
    let p11 = first_rest _ _ condition.Balance p10.1 in
    record {
      form = p1.0;
      status = p2.0;
      derives = record { requests = p3.0; lots = p4.0; history = p5.0; summary = p6.0; count = p7.0; commission = p8.0; settlement = p9.0; cash = p10.0; balance = p11.0 };
    }

pub passing_books : (schema : Schema) (t : Tables) → PassesAudit schema t → BooksInvariant (base_of_tables t)
unfolding ConditionHolds
passing_books schema t p = let h = all_hold schema t p in adopted_books schema t h.form h.status

pub passing_tables : (schema : Schema) (t : Tables) → PassesAudit schema t → sheets_in_schema schema (base_of_tables t) ≡ t
unfolding ConditionHolds
passing_tables schema t p = let h = all_hold schema t p in adopted_tables schema t h.form h.status h.derives
