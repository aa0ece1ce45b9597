-- The premises of the statements, for each table that they write.
use Rattle.std.proofs.Common.{◌≡◌, ◌≢◌, pos, List, is_eq, refl, ap, inl}
use Rattle.sqlite_value.specs.declared.value.Value.TheVariants.{Int}
use Rattle.sqlite_value.specs.Order.{column}
use Rattle.sqlite_value.proofs.OrderLemmas.{then-Equal}
use Rattle.brk_model.specs.Tables.{Tables, OldCashRow, CashRow}
use Rattle.brk_model.specs.Keys.{cash_transaction_key, cash_move_key}
use Rattle.brk_tables_sql.proofs.Writes.{Place, IsRowidKey}
use Rattle.brk_tables_schema.specs.Shapes.{cash_transaction_table, cash_move_table, settle_rule_table}
use Rattle.brk_tables_schema.specs.Cells.{RuleRow, cash_cells, move_cells, rule_cells}
use Rattle.brk_tables_schema.specs.Desk.{DeskTable, CashRows, CashMoves, SettleRules, ordering_by_primary_key, rows_of_table, desk_tables, rule_key}
use Rattle.brk_tables_schema.proofs.Order.{key_total}
use Rattle.brk_tables_schema.proofs.Which.{is_cash, is_move, is_rule}
use Rattle.brk_tables_schema.proofs.Wide.{Wide, wide, wide_list}

pub cash_keyed : IsRowidKey cash_transaction_table cash_cells (ordering_by_primary_key CashRows)
cash_keyed tree r s x y e f = let a : column r 0 ≡ Int (pos x.trade) = cc in let b : column s 0 ≡ Int (pos y.trade) = cc in rw (a, b) (ap is_eq (then-Equal _))

pub move_keyed : IsRowidKey cash_move_table move_cells (ordering_by_primary_key CashMoves)
move_keyed tree r s x y e f = let a : column r 0 ≡ Int (pos x.id) = cc in let b : column s 0 ≡ Int (pos y.id) = cc in rw (a, b) (ap is_eq (then-Equal _))

pub rule_keyed : IsRowidKey settle_rule_table rule_cells (ordering_by_primary_key SettleRules)
rule_keyed tree r s x y e f = let a : column r 0 ≡ Int (pos x.id) = cc in let b : column s 0 ≡ Int (pos y.id) = cc in rw (a, b) (ap is_eq (then-Equal _))

pub cash_alone : (v : DeskTable) → v ≢ CashRows → (xs : List OldCashRow) (t : Tables) → rows_of_table v (record t { cash = xs }) ≡ rows_of_table v t
cash_alone CashRows other xs t = absurd (other refl)
cash_alone v other xs t = refl

pub moves_alone : (v : DeskTable) → v ≢ CashMoves → (xs : List CashRow) (t : Tables) → rows_of_table v (record t { moves = xs }) ≡ rows_of_table v t
moves_alone CashMoves other xs t = absurd (other refl)
moves_alone v other xs t = refl

pub rule_alone : (v : DeskTable) → v ≢ SettleRules → (xs : List RuleRow) (p : Wide) → wide_list v (record p { rules = xs }) ≡ wide_list v p
rule_alone SettleRules other xs p = absurd (other refl)
rule_alone v other xs p = refl

abbrev pub cash_rows : Place desk_tables CashRows
cash_rows = record {
  split = is_cash;
  put = λ xs t. record t { cash = xs };
  put_this = λ xs t. refl;
  put_others = cash_alone;
  total =
      key_total cash_transaction_key;
  keyed = inl cash_keyed;
  uncounted = λ tree. refl;
}

abbrev pub moves : Place desk_tables CashMoves
moves = record {
  split = is_move;
  put = λ xs t. record t { moves = xs };
  put_this = λ xs t. refl;
  put_others = moves_alone;
  total =
      key_total cash_move_key;
  keyed = inl move_keyed;
  uncounted = λ tree. refl;
}

abbrev pub the_rule : Place wide SettleRules
the_rule = record {
  split = is_rule;
  put = λ xs p. record p { rules = xs };
  put_this = λ xs p. refl;
  put_others = rule_alone;
  total =
      key_total rule_key;
  keyed = inl rule_keyed;
  uncounted = λ tree. refl;
}
