-- Written by tools/generate/tables.py: the meaning of a SELECT.
use Rattle.std.proofs.Common.{ℕ, pos, negsuc, List, [], ◌∷◌, codes, false, None, Some, refl}
use Rattle.sqlite.specs.declared.types.Value.TheVariants.{Int}
use Rattle.sqlite_sql.specs.declared.ops.CompareOp.TheVariants.{Eq}
use Rattle.sqlite.specs.Term.{Term, lit}
use Rattle.sqlite_tied.specs.Compute.{everything}
use Rattle.brk_tables_sql.proofs.Conditions.{compares, single, also}
use Rattle.brk_tables_sql.proofs.Asked.{Ask, IsAsked, IsPlain, asks_plainly}
use Rattle.brk_tables_schema.specs.Shapes.{trade_table}

abbrev pub statement : List ℕ
statement = codes "SELECT T_ID FROM TRADE WHERE T_CA_ID = ?1 AND T_S_SYMB = ?2 AND T_ST_ID = ?3 ORDER BY T_DTS, T_ID"

abbrev pub ask : Ask
ask = record {
  shown = 0 ∷ [];
  tests = Some (also (also (single (compares Eq 8 1)) (compares Eq 5 2)) (compares Eq 2 3));
  by = (1, false) ∷ (0, false) ∷ [];
  limit = None;
  offset = None;
}

abbrev pub paging : Term × Term
paging = (lit (Int (negsuc 0)), lit (Int (pos 0)))

pub is_asked : IsAsked trade_table statement ask paging
unfolding everything
is_asked = record { reads = λ tree. (refl, refl, refl); sound = λ tree. refl; paged = λ schema tree. refl }

pub plain : IsPlain statement
plain = asks_plainly trade_table statement ask paging is_asked
