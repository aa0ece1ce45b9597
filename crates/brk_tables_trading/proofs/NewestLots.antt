-- Written by tools/generate/tables.py: the meaning of a SELECT.
use Rattle.std.proofs.Common.{ℕ, pos, List, [], ◌∷◌, codes, true, Some, refl}
use Rattle.sqlite.specs.declared.types.Value.TheVariants.{Int}
use Rattle.sqlite_sql.specs.declared.ops.CompareOp.TheVariants.{Eq}
use Rattle.sqlite.specs.Term.{Term, lit, col}
use Rattle.sqlite_ast.specs.declared.Expr.TheVariants as e
use Rattle.sqlite_tied.specs.Compute.{everything}
use Rattle.brk_tables_sql.proofs.Conditions.{compares, single, also}
use Rattle.brk_tables_sql.proofs.Asked.{Ask, IsAsked, IsPlain, asks_plainly}
use Rattle.brk_tables_schema.specs.Shapes.{holding_table}

abbrev pub statement : List ℕ
statement = codes "SELECT H_T_ID, H_CA_ID, H_S_SYMB, H_DTS, H_PRICE, H_QTY FROM HOLDING WHERE H_CA_ID = ?1 AND H_S_SYMB = ?2 ORDER BY H_DTS DESC, H_T_ID DESC LIMIT 4 OFFSET ?3"

abbrev pub ask : Ask
ask = record {
  shown = 0 ∷ 1 ∷ 2 ∷ 3 ∷ 4 ∷ 5 ∷ [];
  tests = Some (also (single (compares Eq 1 1)) (compares Eq 2 2));
  by = (3, true) ∷ (0, true) ∷ [];
  limit = Some (e.Integer (codes "4"));
  offset = Some (e.Parameter 3);
}

abbrev pub paging : Term × Term
paging = (lit (Int (pos 4)), col 0 2)

pub is_asked : IsAsked holding_table statement ask paging
unfolding everything
is_asked = record { reads = λ tree. (refl, refl, refl); sound = λ tree. refl; paged = λ schema tree. refl }

pub plain : IsPlain statement
plain = asks_plainly holding_table statement ask paging is_asked
