-- Written by tools/generate/tables.py: the meaning of a SELECT.
use Rattle.std.proofs.Common.{ℕ, pos, negsuc, List, [], ◌∷◌, codes, false, None, Some, refl}
use Rattle.sqlite.specs.declared.types.Value.TheVariants.{Int}
use Rattle.sqlite_sql.specs.declared.ops.CompareOp.TheVariants.{Eq}
use Rattle.sqlite.specs.Term.{Term, lit}
use Rattle.sqlite_tied.specs.Compute.{everything}
use Rattle.brk_tables_sql.proofs.Conditions.{compares, single}
use Rattle.brk_tables_sql.proofs.Asked.{Ask, IsAsked, IsPlain, asks_plainly}
use Rattle.brk_tables_schema.specs.Shapes.{request_table}

abbrev pub statement : List ℕ
statement = codes "SELECT TR_T_ID, TR_TT_ID, TR_S_SYMB, TR_QTY, TR_BID_PRICE, TR_B_ID FROM TRADE_REQUEST WHERE TR_S_SYMB = ?1 ORDER BY TR_T_ID"

abbrev pub ask : Ask
ask = record {
  shown = 0 ∷ 1 ∷ 2 ∷ 3 ∷ 4 ∷ 5 ∷ [];
  tests = Some (single (compares Eq 2 1));
  by = (0, false) ∷ [];
  limit = None;
  offset = None;
}

abbrev pub paging : Term × Term
paging = (lit (Int (negsuc 0)), lit (Int (pos 0)))

pub is_asked : IsAsked request_table statement ask paging
unfolding everything
is_asked = record { reads = λ tree. (refl, refl, refl); sound = λ tree. refl; paged = λ schema tree. refl }

pub plain : IsPlain statement
plain = asks_plainly request_table statement ask paging is_asked
