-- Written by tools/generate/tables.py: the meaning of a SELECT.
use Rattle.std.proofs.Common.{ℕ, pos, negsuc, List, [], ◌∷◌, codes, false, None, refl}
use Rattle.sqlite.specs.declared.types.Value.TheVariants.{Int}
use Rattle.sqlite.specs.Term.{Term, lit}
use Rattle.sqlite_tied.specs.Compute.{everything}
use Rattle.brk_tables_sql.proofs.Asked.{Ask, IsAsked, IsPlain, asks_plainly}
use Rattle.brk_tables_schema.specs.Shapes.{trade_table}

abbrev pub statement : List ℕ
statement = codes "SELECT T_ID, T_DTS, T_ST_ID, T_TT_ID, T_IS_CASH, T_S_SYMB, T_QTY, T_BID_PRICE, T_CA_ID, T_EXEC_NAME, T_TRADE_PRICE, T_CHRG, T_COMM, T_TAX, T_LIFO FROM TRADE ORDER BY T_ID"

abbrev pub ask : Ask
ask = record {
  shown = 0 ∷ 1 ∷ 2 ∷ 3 ∷ 4 ∷ 5 ∷ 6 ∷ 7 ∷ 8 ∷ 9 ∷ 10 ∷ 11 ∷ 12 ∷ 13 ∷ 14 ∷ [];
  tests = None;
  by = (0, false) ∷ [];
  limit = None;
  offset = None;
}

abbrev pub paging : Term × Term
paging = (lit (Int (negsuc 0)), lit (Int (pos 0)))

pub is_asked : IsAsked trade_table statement ask paging
unfolding everything
is_asked = record { reads = λ tree. (refl, refl, refl); sound = λ tree. refl; paged = λ schema tree. refl }

pub plain : IsPlain statement
plain = asks_plainly trade_table statement ask paging is_asked
