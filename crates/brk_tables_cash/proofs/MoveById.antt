-- Written by tools/generate/tables.py: the meaning of a SELECT.
use Rattle.std.proofs.Common.{ℕ, pos, negsuc, List, [], ◌∷◌, codes, false, None, Some, refl}
use Rattle.sqlite.specs.declared.types.Value.TheVariants.{Int}
use Rattle.sqlite_sql.specs.declared.ops.CompareOp.TheVariants.{Eq}
use Rattle.sqlite.specs.Term.{Term, lit}
use Rattle.sqlite_tied.specs.Compute.{everything}
use Rattle.brk_tables_sql.proofs.Conditions.{compares, single}
use Rattle.brk_tables_sql.proofs.Asked.{Ask, IsAsked, IsPlain, asks_plainly}
use Rattle.brk_tables_schema.specs.Shapes.{cash_move_table}

abbrev pub statement : List ℕ
statement = codes "SELECT CM_ID, CM_CA_ID, CM_T_ID, CM_DTS, CM_AMT, CM_NAME FROM CASH_MOVE WHERE CM_ID = ?1 ORDER BY CM_ID"

abbrev pub ask : Ask
ask = record {
  shown = 0 ∷ 1 ∷ 2 ∷ 3 ∷ 4 ∷ 5 ∷ [];
  tests = Some (single (compares Eq 0 1));
  by = (0, false) ∷ [];
  limit = None;
  offset = None;
}

abbrev pub paging : Term × Term
paging = (lit (Int (negsuc 0)), lit (Int (pos 0)))

pub is_asked : IsAsked cash_move_table statement ask paging
unfolding everything
is_asked = record { reads = λ tree. (refl, refl, refl); sound = λ tree. refl; paged = λ schema tree. refl }

pub plain : IsPlain statement
plain = asks_plainly cash_move_table statement ask paging is_asked
