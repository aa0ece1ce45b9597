-- Written by tools/generate/tables.py: the meaning of an INSERT.
use Rattle.std.proofs.Common.{◌≡◌, ℕ, List, [], ◌∷◌, ◌++◌, codes, Ok, refl}
use Rattle.sqlite.specs.declared.types.Value.TheVariants.{Null}
use Rattle.sqlite.specs.Term.{Term, lit, col}
use Rattle.sqlite.specs.Schema.{Schema}
use Rattle.sqlite.specs.Source.TheVariants.{Values}
use Rattle.sqlite.specs.Command.TheVariants.{Insert}
use Rattle.sqlite_resolve.specs.Compile.{compiled}
use Rattle.sqlite_tied.specs.Compute.{everything}
use Rattle.brk_tables_sql.specs.Desk.{IsTableAt}
use Rattle.brk_tables_sql.proofs.Meant.{meant, inserts}
use Rattle.brk_tables_sql.proofs.Texts.{read}
use Rattle.brk_tables_schema.specs.Shapes.{trade_table}

abbrev pub statement : List ℕ
statement = codes "INSERT INTO TRADE (T_ID, T_DTS, T_ST_ID, T_TT_ID, T_IS_CASH, T_S_SYMB, T_QTY, T_BID_PRICE, T_CA_ID, T_EXEC_NAME, T_TRADE_PRICE, T_CHRG, T_COMM, T_TAX, T_LIFO) VALUES (?1, ?2, "
    ++ codes "?3, ?4, ?5, ?6, ?7, ?8, ?9, ?10, ?11, ?12, ?13, ?14, ?15)"

abbrev pub terms : List Term
terms = col 0 0 ∷ lit Null ∷ col 0 1 ∷ col 0 2 ∷ col 0 3 ∷ col 0 4 ∷ col 0 5 ∷ col 0 6 ∷ col 0 7 ∷ col 0 8 ∷ col 0 9 ∷ col 0 10 ∷ col 0 11 ∷ col 0 12 ∷ col 0 13 ∷ col 0 14 ∷ []

pub understood_as : (schema : Schema) (at tree : ℕ) → IsTableAt schema (trade_table tree) at → compiled schema statement ≡ Ok (meant (read statement) [] (Insert at (Values terms 16)))
unfolding everything
understood_as schema at tree h = inserts schema statement (read statement) refl refl (codes "TRADE") at (trade_table tree) h.named h.found _ _ _ refl refl
