-- Written by tools/generate/tables.py: the meaning of a SELECT.
use Rattle.std.proofs.Common.{ℕ, pos, List, [], ◌∷◌, codes, true, None, Some, refl}
use Rattle.sqlite.specs.declared.types.Value.TheVariants.{Int}
use Rattle.sqlite.specs.Term.{Term, lit}
use Rattle.sqlite_ast.specs.declared.Expr.TheVariants as e
use Rattle.sqlite_tied.specs.Compute.{everything}
use Rattle.brk_tables_sql.proofs.Asked.{Ask, IsAsked, IsPlain, asks_plainly}
use Rattle.brk_tables_schema.specs.Shapes.{trade_table}

abbrev pub statement : List ℕ
statement = codes "SELECT T_ID FROM TRADE ORDER BY T_ID DESC LIMIT 1"

abbrev pub ask : Ask
ask = record {
  shown = 0 ∷ [];
  tests = None;
  by = (0, true) ∷ [];
  limit = Some (e.Integer (codes "1"));
  offset = None;
}

abbrev pub paging : Term × Term
paging = (lit (Int (pos 1)), lit (Int (pos 0)))

pub is_asked : IsAsked trade_table statement ask paging
unfolding everything
is_asked = record { reads = λ tree. (refl, refl, refl); sound = λ tree. refl; paged = λ schema tree. refl }

pub plain : IsPlain statement
plain = asks_plainly trade_table statement ask paging is_asked
