-- The values that tables of at most one row hold: equal rows hold equal values.
use Rattle.std.proofs.Common.{◌≡◌, ℕ, List, [], ◌∷◌, Option, Some, None, refl, sym, ap, ◌∙◌}
use Rattle.brk_model.specs.Schemas.{Schema}
use Rattle.brk_model.specs.Tables.{Tables}
use Rattle.brk_tables_schema.specs.Cells.{DeskRow, RuleRow}
use Rattle.brk_tables_schema.specs.Desk.{TheDesk, SettleRules, rows_of_table_in_schema, rule_rows}

last_of : List DeskRow → Option ℕ
last_of [] = None
last_of (r ∷ rs) = r.last

number_of : List DeskRow → ℕ
number_of [] = 0
number_of (r ∷ rs) = r.schema

rule_of : List RuleRow → Option ℕ
rule_of [] = None
rule_of (r ∷ rs) = Some r.day

rule_back : (o : Option ℕ) → rule_of (rule_rows o) ≡ o
unfolding rule_of
rule_back None = refl
rule_back (Some day) = refl

pub last_alike : (s r : Schema) (t u : Tables) → rows_of_table_in_schema s TheDesk t ≡ rows_of_table_in_schema r TheDesk u → t.last ≡ u.last
unfolding last_of
last_alike s r t u e = ap last_of e

pub number_alike : (s r : Schema) (t u : Tables) → rows_of_table_in_schema s TheDesk t ≡ rows_of_table_in_schema r TheDesk u → s.number ≡ r.number
unfolding number_of
number_alike s r t u e = ap number_of e

pub rule_alike : (s r : Schema) (t u : Tables) → rows_of_table_in_schema s SettleRules t ≡ rows_of_table_in_schema r SettleRules u → t.rule ≡ u.rule
rule_alike s r t u e = sym (rule_back t.rule) ∙ ap rule_of e ∙ rule_back u.rule
