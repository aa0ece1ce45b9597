-- The effect of the writes of CASH_MOVE and SETTLE_RULE.
use Rattle.std.proofs.Common.{◌≡◌, ◌≢◌, ℕ, pos, List, Option, Some, None, [], ◌∷◌, drop, true, Less, Equal, ◌==◌, refl, sym, ap, ap₂, subst, ◌∙◌}
use Rattle.std.proofs.lemmas.Cmp.{tied_itself}
use Rattle.sqlite_value.specs.declared.value.Value.TheVariants.{Null, Int, Text as Words}
use Rattle.sqlite_value.specs.declared.value.ValueRef.{ValueRef}
use Rattle.sqlite_value.specs.Value.{owned}
use Rattle.sqlite_value.specs.Order.{column}
use Rattle.sqlite_tied.proofs.RuleLemmas.{and_true}
use Rattle.sqlite_schema.specs.declared.schema.Kind.TheVariants.{Integer}
use Rattle.sqlite_keyed.specs.Lists.{delete_where, insert_sorted}
use Rattle.sqlite.specs.Cast.{cast}
use Rattle.sqlite.specs.State.{State}
use Rattle.sqlite.specs.Values.{bound, bound_value}
use Rattle.brk_model.specs.LookupView.{is_cash_row_of_trade}
use Rattle.brk_model.specs.Schemas.{third_schema}
use Rattle.brk_model.specs.Tables.{Tables, OldCashRow, CashRow}
use Rattle.brk_tables_sql.specs.Desk.{HasTables, ChangesTablesBy}
use Rattle.brk_tables_sql.specs.Rows.{IsStrictlyAscending}
use Rattle.brk_tables_sql.specs.Model.{ExecutesStatement}
use Rattle.brk_tables_sql.proofs.Texts.{read}
use Rattle.brk_tables_sql.proofs.Values.{cast_int, cast_null, cast_whole}
use Rattle.brk_tables_sql.proofs.Writes.{inserts_as, updates_as, deletes_as}
use Rattle.brk_trade_rows.specs.Changes.{tables_with_cash_text, tables_with_cash_row, tables_with_one_day_settlement_start}
use Rattle.brk_tables_schema.specs.Cells.{DeskRow, RuleRow, natural_as_value, optional_natural_as_value, move_cells}
use Rattle.brk_tables_schema.specs.Desk.{DeskTable, TheDesk, CashRows, CashMoves, SettleRules, desk_tables, desk_rows, rule_rows, rule_key, rows_of_table, ordering_by_primary_key}
use Rattle.brk_tables_schema.proofs.Order.{key_total}
use Rattle.brk_tables_schema.proofs.Places.{the_desk}
use Rattle.brk_tables_schema.proofs.Steps.{added}
use Rattle.brk_tables_schema.proofs.Tests.{same_number, same_maybe}
use Rattle.brk_tables_schema.proofs.Wide.{wide, wide_of, widened, narrowed}
use Rattle.brk_tables_cash.specs.UpgradeStatements.{SetsSchemaNumberToThree, tables_without_cash_transactions}
use Rattle.brk_tables_cash.proofs.CashPlaces.{cash_rows, moves, the_rule}
use Rattle.brk_tables_cash.proofs.AddMove
use Rattle.brk_tables_cash.proofs.AddRule
use Rattle.brk_tables_cash.proofs.RemoveCashRows
use Rattle.brk_tables_cash.proofs.SetCashName
use Rattle.brk_tables_cash.proofs.SetSchema

cast_maybe : (o : Option ℕ) → cast Integer (optional_natural_as_value o) ≡ optional_natural_as_value o
cast_maybe None = cast_null
cast_maybe (Some n) = cast_int (pos n)

bound_maybe : (o : Option ℕ) → bound_value (optional_natural_as_value o) ≡ optional_natural_as_value o
bound_maybe None = refl
bound_maybe (Some n) = refl

both : {X : Type 0} {a b : X} {xs ys : List X} → a ≡ b → xs ≡ ys → a ∷ xs ≡ b ∷ ys
both e f = ap₂ (λ x xs. x ∷ xs) e f

-- parameters that are a cash row's
pub params_are : (x : CashRow) (v0 v1 v2 v3 v4 v5 : ValueRef) → owned v0 ≡ natural_as_value x.id → owned v1 ≡ natural_as_value x.account
    → owned v2 ≡ optional_natural_as_value x.trade → owned v3 ≡ natural_as_value x.stamp → owned v4 ≡ Int x.amount → owned v5 ≡ Words x.name
    → bound (v0 ∷ v1 ∷ v2 ∷ v3 ∷ v4 ∷ v5 ∷ []) ≡ move_cells x
params_are x v0 v1 v2 v3 v4 v5 e0 e1 e2 e3 e4 e5 =
    both (ap bound_value e0) (both (ap bound_value e1) (both (ap bound_value e2 ∙ bound_maybe x.trade) (both (ap bound_value e3) (both (ap bound_value e4) (both (ap bound_value e5) refl)))))

-- ---- rows that come

pub adds_move : (old new : State) (x : CashRow) → ExecutesStatement AddMove.statement (move_cells x) old new → ChangesTablesBy desk_tables (tables_with_cash_row x) old.now new.now
adds_move old new x ran =
    added CashMoves moves x old.now new.now
    (inserts_as desk_tables CashMoves moves AddMove.statement (move_cells x) (read AddMove.statement) AddMove.terms 7
    (natural_as_value x.id ∷ Null ∷ drop 1 (move_cells x)) x AddMove.understood_as (λ tree. refl)
    (λ tree rows. rw (cast_int (pos x.id), cast_int (pos x.account), cast_maybe x.trade, cast_int (pos x.stamp), cast_int x.amount) refl) old new ran.0 ran.1)

-- a row of SETTLE_RULE
abbrev rule_row : ℕ → RuleRow
rule_row day = record { id = 1; day = day }

-- two of them have one key
same_rule : (m n : ℕ) → ordering_by_primary_key SettleRules (rule_row m) (rule_row n) ≡ Equal
same_rule m n = tied_itself (key_total rule_key) (rule_row m)

-- so there is no second
no_second : (m n : ℕ) → IsStrictlyAscending (ordering_by_primary_key SettleRules) (insert_sorted (ordering_by_primary_key SettleRules) (rule_row m) (rule_row n ∷ [])) → ⊥
no_second m n up = let both = rw (same_rule m n) at up in let less : ordering_by_primary_key SettleRules (rule_row m) (rule_row n) ≡ Less = both.0.0 in
    absurd (let f = sym (same_rule m n) ∙ less in cc)

pub adds_rule : (old new : State) (day : ℕ) → ExecutesStatement AddRule.statement (natural_as_value 1 ∷ natural_as_value day ∷ []) old new
    → ChangesTablesBy desk_tables (tables_with_one_day_settlement_start day) old.now new.now
adds_rule old new day ran = λ t tree h.
    let turned = inserts_as wide SettleRules the_rule AddRule.statement (natural_as_value 1 ∷ natural_as_value day ∷ []) (read AddRule.statement) AddRule.terms 3
    (natural_as_value 1 ∷ Null ∷ natural_as_value day ∷ []) (rule_row day) AddRule.understood_as (λ tree. refl) (λ tree rows. rw (cast_int (pos 1), cast_int (pos day)) refl) old new ran.0 ran.1
    (wide_of third_schema t) tree (widened third_schema tree old.now t h) in (
      narrowed third_schema tree new.now (desk_rows third_schema t.last) (insert_sorted (ordering_by_primary_key SettleRules) (rule_row day) (rule_rows t.rule))
          t (tables_with_one_day_settlement_start day t) refl (alone t.rule (turned.0.rows SettleRules).rising) (λ w _ other. others w other t) turned.0,
      turned.1,
    )
  where
    alone : (o : Option ℕ)
        → IsStrictlyAscending (ordering_by_primary_key SettleRules) (insert_sorted (ordering_by_primary_key SettleRules) (rule_row day) (rule_rows o))
        → insert_sorted (ordering_by_primary_key SettleRules) (rule_row day) (rule_rows o) ≡ rule_rows (Some day)
    alone None up = refl
    alone (Some n) up = absurd (no_second day n up)

    others : (w : DeskTable) → w ≢ SettleRules → (t : Tables) → rows_of_table w (tables_with_one_day_settlement_start day t) ≡ rows_of_table w t
    others SettleRules other t = absurd (other refl)
    others w other t = refl

-- ---- rows that go

every : (xs : List OldCashRow) → delete_where (λ _. true) xs ≡ []
every [] = refl
every (x ∷ xs) = every xs

pub removes_cash : (old new : State) → ExecutesStatement RemoveCashRows.statement [] old new → ChangesTablesBy desk_tables tables_without_cash_transactions old.now new.now
removes_cash old new ran = λ t tree h.
    let turned = deletes_as desk_tables CashRows cash_rows RemoveCashRows.statement [] (read RemoveCashRows.statement) RemoveCashRows.terms RemoveCashRows.project (λ (r : OldCashRow). true)
    (λ tree r x e. refl) (λ r. refl) RemoveCashRows.understood_as old new ran.0 ran.1 t tree h in
    (subst (λ (xs : List OldCashRow). HasTables desk_tables (record t { cash = xs }) tree new.now) (every t.cash) turned.0, turned.1)

-- ---- rows that change

pub sets_cash_name : (old new : State) (trade : ℕ) (name : List ℕ) → ExecutesStatement SetCashName.statement (Words name ∷ natural_as_value trade ∷ []) old new
    → ChangesTablesBy desk_tables (tables_with_cash_text trade name) old.now new.now
sets_cash_name old new trade name ran =
    updates_as desk_tables CashMoves moves SetCashName.statement (Words name ∷ natural_as_value trade ∷ []) (read SetCashName.statement) SetCashName.terms
    SetCashName.project (is_cash_row_of_trade trade)
    (λ tree r x e. let a : column r 3 ≡ optional_natural_as_value x.trade = cc in rw (a, same_maybe x.trade trade) (and_true _)) (λ r. refl) SetCashName.understood_as
    (λ r. column r 0 ∷ Null ∷ column r 2 ∷ column r 3 ∷ column r 4 ∷ column r 5 ∷ Words name ∷ [])
    (λ (r : CashRow). record r { name = name }) (λ x y. refl) (λ x y. refl) (λ r. refl)
    (λ tree r x whole e.
    let a2 : column r 2 ≡ natural_as_value x.account = cc in
    let a3 : column r 3 ≡ optional_natural_as_value x.trade = cc in
    let a4 : column r 4 ≡ natural_as_value x.stamp = cc in
    let a5 : column r 5 ≡ Int x.amount = cc in
    rw (a2, a3, a4, a5, cast_null, cast_int (pos x.account), cast_maybe x.trade, cast_int (pos x.stamp), cast_int x.amount)
    (ap (λ v. v ∷ Null ∷ drop 1 (move_cells (record x { name = name }))) (cast_whole (column r 0) whole)))
    (λ tree r x e.
    let a0 : column r 0 ≡ natural_as_value x.id = cc in
    let a2 : column r 2 ≡ natural_as_value x.account = cc in
    let a3 : column r 3 ≡ optional_natural_as_value x.trade = cc in
    let a4 : column r 4 ≡ natural_as_value x.stamp = cc in
    let a5 : column r 5 ≡ Int x.amount = cc in
    rw (a0, a2, a3, a4, a5) refl) old new ran.0 ran.1

-- ---- the number of the schema

pub raises : (old new : State) → ExecutesStatement SetSchema.statement (natural_as_value 3 ∷ natural_as_value 1 ∷ []) old new → SetsSchemaNumberToThree old.now new.now
raises old new ran = λ schema t tree h.
    let turned = updates_as wide TheDesk the_desk SetSchema.statement (natural_as_value 3 ∷ natural_as_value 1 ∷ []) (read SetSchema.statement) SetSchema.terms
    SetSchema.project (λ (r : DeskRow). r.id == 1)
    (λ tree r x e. let a : column r 0 ≡ natural_as_value x.id = cc in rw (a, same_number x.id 1) (and_true _)) (λ r. refl) SetSchema.understood_as
    (λ r. column r 0 ∷ Null ∷ natural_as_value 3 ∷ column r 3 ∷ []) (λ (r : DeskRow). record r { schema = 3 }) (λ x y. refl) (λ x y. refl) (λ r. refl)
    (λ tree r x whole e. let a : column r 3 ≡ optional_natural_as_value x.last = cc in
    rw (a, cast_null, cast_int (pos 3), cast_maybe x.last) (ap (λ v. v ∷ Null ∷ natural_as_value 3 ∷ optional_natural_as_value x.last ∷ []) (cast_whole (column r 0) whole)))
    (λ tree r x e. let a : column r 0 ≡ natural_as_value x.id = cc in let b : column r 3 ≡ optional_natural_as_value x.last = cc in rw (a, b) refl) old new ran.0 ran.1
    (wide_of schema t) tree (widened schema tree old.now t h) in
    (narrowed third_schema tree new.now (desk_rows third_schema t.last) (rule_rows t.rule) t t refl refl (λ w _ _. refl) turned.0, turned.1)
