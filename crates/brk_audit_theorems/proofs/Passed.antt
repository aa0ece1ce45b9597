-- The tables of a base pass the audit if they satisfy `Form` and `Status`.
use Rattle.std.proofs.Common.{◌≡◌, true, refl, sym, ◌∙◌, ap, map, inl}
use Rattle.brk_model.specs.Base.{Base}
use Rattle.brk_model.specs.Schemas.{Schema, third_schema}
use Rattle.brk_model.specs.Tables.{Tables}
use Rattle.brk_model.specs.Adopted.{base_of_tables}
use Rattle.brk_model.specs.Form.{satisfies_form_condition}
use Rattle.brk_model.specs.Ways.{satisfies_status_condition}
use Rattle.brk_model.specs.Sheets.{sheets, sheets_in_schema}
use Rattle.brk_model.specs.Audit.{ConditionHolds}
use Rattle.brk_trade_books.specs.Books.{BooksInvariant}
use Rattle.brk_audit_theorems.specs.Passing.{PassesAudit}
use Rattle.brk_audit_theorems.specs.Histories.{HasValidHistories}
use Rattle.brk_audit_theorems.proofs.Sorted.{sorted_tables}
use Rattle.brk_audit_theorems.proofs.Again.{base_again}
use Rattle.brk_audit_theorems.proofs.AgainStatus.{status_again}

pub tables_again : (base : Base) → BooksInvariant base → HasValidHistories base → sheets (base_of_tables (sheets base)) ≡ sheets base
tables_again base books told = ap sheets (base_again base books told) ∙ sorted_tables base books

pub same_tables_pass : (schema : Schema) (t : Tables) → satisfies_form_condition schema t ≡ true → satisfies_status_condition t ≡ true
    → sheets_in_schema schema (base_of_tables t) ≡ t → PassesAudit schema t
unfolding ConditionHolds
same_tables_pass schema t f s e =
    inl (
      f,
      inl (
        s,
        inl (
          ap (λ u. u.requests) (sym e),
          inl (
            ap (λ u. u.holdings) (sym e),
            inl (
              ap (λ u. u.holding_history) (sym e),
              inl (
                ap (λ u. u.summaries) (sym e),
                inl (
                  ap (λ u. map (λ b. b.trades) u.brokers) (sym e),
                  inl (
                    ap (λ u. map (λ b. b.commissions) u.brokers) (sym e),
                    inl (
                      ap (λ u. u.settlements) (sym e),
                      inl ((ap (λ u. u.cash) (sym e), ap (λ u. u.moves) (sym e)), inl (ap (λ u. map (λ a. a.balance) u.accounts) (sym e), refl)),
                    ),
                  ),
                ),
              ),
            ),
          ),
        ),
      ),
    )

pub tables_pass : (base : Base) → BooksInvariant base → HasValidHistories base → satisfies_form_condition third_schema (sheets base) ≡ true → PassesAudit third_schema (sheets base)
tables_pass base books told f = same_tables_pass third_schema (sheets base) f (status_again base books told) (tables_again base books told)
