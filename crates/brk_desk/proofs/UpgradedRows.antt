-- Rows of any schema that pass their audit, upgraded to schema 3: their texts are UTF-8, and their
-- base is consistent.
use Rattle.std.proofs.Common.{◌≡◌, ◌∙◌, ℕ, ◌+◌, Bool, true, List, [], ◌∷◌, IsTrue, arith, refl, subst, map}
use Rattle.std.specs.Prelude.{◌&&◌}
use Rattle.std.specs.List.{AllByRecursion, list_all}
use Rattle.std.specs.Str.{is_utf8}
use Rattle.std.proofs.lemmas.Bool.{and_from, and_parts}
use Rattle.brk_model.specs.Adopted.{base_of_tables, posting_of_cash_transaction_row, posting_of_cash_move_row, postings_of_tables}
use Rattle.brk_model.specs.Derived.{Posting, postings_sorted_by_stamp}
use Rattle.brk_model.specs.Form.{has_utf8_texts}
use Rattle.brk_model.specs.Upgraded.{tables_with_merged_cash_rows, tables_upgraded_from_schema}
use Rattle.brk_model.specs.Schemas.{Schema}
use Rattle.brk_model.specs.Sheets.{sheets}
use Rattle.brk_model.specs.Tables.{CashRow, Tables, numbered_cash_move_rows}
use Rattle.brk_trade_rows.specs.Schemas.{abstract_schema}
use Rattle.brk_trade_rows.specs.declared.schema.Schema as known
use Rattle.brk_trade_rows.specs.declared.schema.Schema.TheVariants.{First, Second, Third}
use Rattle.brk_trade_books.proofs.LotReading.{All-sort}
use Rattle.brk_trade_books.proofs.Same.{All-append, All-mapped}
use Rattle.brk_audit_theorems.specs.Upgrade.{UpgradedRowsMatchTheirBase, HasLimitsWithinThirdSchema}
use Rattle.brk_audit_theorems.specs.Passing.{PassesAudit}
use Rattle.brk_audit_theorems.proofs.AgainStatus.{all_list}
use Rattle.brk_audit_theorems.proofs.Climbs.{list_all_true}
use Rattle.brk_audit_theorems.proofs.UpgradedRows.{first_narrower, upgraded_rows, rows_upgraded_from, second_narrower}
use Rattle.brk_audit_theorems.proofs.Passing.{passing_books}
use Rattle.brk_trade_books.specs.Books.{BooksInvariant}
use Rattle.brk_audit_theorems.specs.Sound.{AuditInvariant}
use Rattle.brk_audit_theorems.proofs.Adopted.{passing_sound}

-- The name of the posting is UTF-8.
abbrev HasUtf8Name : Posting → Type 0
HasUtf8Name p = is_utf8 p.name ≡ true

numbered_read : (n : ℕ) (ps : List Posting) → AllByRecursion HasUtf8Name ps → AllByRecursion (λ (r : CashRow). is_utf8 r.name ≡ true) (numbered_cash_move_rows n ps)
numbered_read n [] h = tt
numbered_read n (p ∷ ps) h = (h.0, numbered_read (n + 1) ps h.1)

upgraded_read : (t : Tables) → has_utf8_texts t ≡ true → has_utf8_texts (tables_with_merged_cash_rows t) ≡ true
unfolding tables_with_merged_cash_rows
upgraded_read t e =
    let all = and_parts (kept && trades && cash) moves e in
    let three = and_parts (kept && trades) cash all.0 in
    let posted : AllByRecursion HasUtf8Name (postings_of_tables t) =
    All-append HasUtf8Name (map (posting_of_cash_transaction_row t) t.cash) (map posting_of_cash_move_row t.moves)
    (All-mapped HasUtf8Name (posting_of_cash_transaction_row t) t.cash (list_all_true (λ r. is_utf8 r.name) t.cash three.1))
    (All-mapped HasUtf8Name posting_of_cash_move_row t.moves (list_all_true (λ r. is_utf8 r.name) t.moves all.1)) in
    and_from _ _ (and_from _ _ three.0 refl)
    (all_list (λ (r : CashRow). is_utf8 r.name) (numbered_cash_move_rows 1 (postings_sorted_by_stamp (postings_of_tables t)))
    (numbered_read 1 (postings_sorted_by_stamp (postings_of_tables t)) (All-sort HasUtf8Name _ (postings_of_tables t) posted)))
  where
    kept : Bool
    kept = list_all (λ k. is_utf8 k.row_text && is_utf8 k.line) t.kept

    trades : Bool
    trades = list_all (λ r. is_utf8 r.executor) t.trades

    cash : Bool
    cash = list_all (λ r. is_utf8 r.name) t.cash

    moves : Bool
    moves = list_all (λ r. is_utf8 r.name) t.moves

pub narrower : (schema : known.Schema) → HasLimitsWithinThirdSchema (abstract_schema schema)
narrower First = first_narrower
narrower Second = second_narrower
narrower Third = record { qty = omega arith; summary = omega arith }

-- The rows, upgraded from `schema`, are the tables of the base that the rows determine, and this
-- base is consistent.
pub record HaveConsistentUpgrade (schema : known.Schema) (rows : Tables) : Type 0 where
  pub tables : tables_upgraded_from_schema (abstract_schema schema) rows ≡ sheets (base_of_tables rows)
  pub books : BooksInvariant (base_of_tables rows)
  pub sound : AuditInvariant (base_of_tables rows)
  pub texts : IsTrue (has_utf8_texts (sheets (base_of_tables rows)))

pub are_upgraded : (schema : known.Schema) (rows : Tables) → PassesAudit (abstract_schema schema) rows → IsTrue (has_utf8_texts rows) → HaveConsistentUpgrade schema rows
are_upgraded schema rows passes texts =
    let same = rows_upgraded_from (abstract_schema schema) rows passes in
    let over : UpgradedRowsMatchTheirBase rows = upgraded_rows (abstract_schema schema) rows (narrower schema) passes in
    record {
      tables = same.0 ∙ same.1;
      books = passing_books (abstract_schema schema) rows passes;
      sound = subst AuditInvariant over.base (passing_sound (tables_with_merged_cash_rows rows) over.passes);
      texts = subst (λ t. IsTrue (has_utf8_texts t)) same.1 (upgraded_read rows texts);
    }
