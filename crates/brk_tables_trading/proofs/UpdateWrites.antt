-- The effect of the writes of a text update.
use Rattle.std.proofs.Common.{◌≡◌, ℕ, pos, Option, Some, None, List, [], ◌∷◌, drop, ◌==◌, refl, ap}
use Rattle.std.specs.Prelude.{if◌then◌else◌}
use Rattle.sqlite_value.specs.declared.value.Value.TheVariants.{Null, Int, Text as Words}
use Rattle.sqlite_value.specs.Order.{column}
use Rattle.sqlite_tied.proofs.RuleLemmas.{and_true}
use Rattle.sqlite_schema.specs.declared.schema.Kind.TheVariants.{Integer}
use Rattle.sqlite.specs.Cast.{cast}
use Rattle.sqlite.specs.State.{State}
use Rattle.brk_money.specs.Kinds.{trade_status_code, trade_type_code}
use Rattle.brk_model.specs.Tables.{SettlementRow, TradeRow}
use Rattle.brk_tables_sql.specs.Desk.{ChangesTablesBy}
use Rattle.brk_tables_sql.specs.Model.{ExecutesStatement}
use Rattle.brk_tables_sql.proofs.Texts.{read}
use Rattle.brk_tables_sql.proofs.Values.{cast_int, cast_null, cast_whole}
use Rattle.brk_tables_sql.proofs.Writes.{updates_as}
use Rattle.brk_tables_schema.specs.Cells.{natural_as_value, optional_natural_as_value, flag_as_value, trade_cells, settlement_cells}
use Rattle.brk_tables_schema.specs.Desk.{Trades, Settlements, desk_tables}
use Rattle.brk_tables_schema.proofs.Tests.{same_number}
use Rattle.brk_trade_rows.specs.Changes.{tables_with_cash_type, tables_with_executor_name}
use Rattle.brk_tables_trading.proofs.Places.{trades, settlements}
use Rattle.brk_tables_trading.proofs.SetCashType
use Rattle.brk_tables_trading.proofs.SetExecutor

cast_maybe : (o : Option ℕ) → cast Integer (optional_natural_as_value o) ≡ optional_natural_as_value o
cast_maybe None = cast_null
cast_maybe (Some n) = cast_int (pos n)

pub sets_executor : (old new : State) (trade : ℕ) (name : List ℕ) → ExecutesStatement SetExecutor.statement (Words name ∷ natural_as_value trade ∷ []) old new
    → ChangesTablesBy desk_tables (tables_with_executor_name trade name) old.now new.now
sets_executor old new trade name ran =
    updates_as desk_tables Trades trades SetExecutor.statement (Words name ∷ natural_as_value trade ∷ []) (read SetExecutor.statement) SetExecutor.terms
    SetExecutor.project (λ (r : TradeRow). r.id == trade)
    (λ tree r x e. let a : column r 0 ≡ natural_as_value x.id = cc in rw (a, same_number x.id trade) (and_true _)) (λ r. refl) SetExecutor.understood_as
    (λ r.
    column r 0 ∷ Null ∷ column r 2 ∷ column r 3 ∷ column r 4 ∷ column r 5 ∷ column r 6 ∷ column r 7 ∷ column r 8 ∷ column r 9 ∷ Words name ∷ column r 11
    ∷ column r 12 ∷ column r 13 ∷ column r 14 ∷ column r 15 ∷ [])
    (λ (r : TradeRow). record r { executor = name }) (λ x y. refl) (λ x y. refl) (λ r. refl)
    (λ tree r x whole e.
    let a2 : column r 2 ≡ natural_as_value x.stamp = cc in
    let a3 : column r 3 ≡ Words (trade_status_code x.status) = cc in
    let a4 : column r 4 ≡ Words (trade_type_code x.kind) = cc in
    let a5 : column r 5 ≡ flag_as_value x.is_cash = cc in
    let a6 : column r 6 ≡ Words x.symbol = cc in
    let a7 : column r 7 ≡ natural_as_value x.qty = cc in
    let a8 : column r 8 ≡ natural_as_value x.bid = cc in
    let a9 : column r 9 ≡ natural_as_value x.account = cc in
    let a11 : column r 11 ≡ optional_natural_as_value x.price = cc in
    let a12 : column r 12 ≡ natural_as_value x.charge = cc in
    let a13 : column r 13 ≡ natural_as_value x.commission = cc in
    let a14 : column r 14 ≡ natural_as_value x.tax = cc in
    let a15 : column r 15 ≡ flag_as_value x.is_lifo = cc in
    rw (
      a2,
      a3,
      a4,
      a5,
      a6,
      a7,
      a8,
      a9,
      a11,
      a12,
      a13,
      a14,
      a15,
      cast_null,
      cast_int (pos x.stamp),
      cast_int (pos (if x.is_cash then 1 else 0)),
      cast_int (pos x.qty),
      cast_int (pos x.bid),
      cast_int (pos x.account),
      cast_maybe x.price,
      cast_int (pos x.charge),
      cast_int (pos x.commission),
      cast_int (pos x.tax),
      cast_int (pos (if x.is_lifo then 1 else 0)),
    ) (ap (λ v. v ∷ Null ∷ drop 1 (trade_cells (record x { executor = name }))) (cast_whole (column r 0) whole)))
    (λ tree r x e.
    let a0 : column r 0 ≡ natural_as_value x.id = cc in
    let a2 : column r 2 ≡ natural_as_value x.stamp = cc in
    let a3 : column r 3 ≡ Words (trade_status_code x.status) = cc in
    let a4 : column r 4 ≡ Words (trade_type_code x.kind) = cc in
    let a5 : column r 5 ≡ flag_as_value x.is_cash = cc in
    let a6 : column r 6 ≡ Words x.symbol = cc in
    let a7 : column r 7 ≡ natural_as_value x.qty = cc in
    let a8 : column r 8 ≡ natural_as_value x.bid = cc in
    let a9 : column r 9 ≡ natural_as_value x.account = cc in
    let a11 : column r 11 ≡ optional_natural_as_value x.price = cc in
    let a12 : column r 12 ≡ natural_as_value x.charge = cc in
    let a13 : column r 13 ≡ natural_as_value x.commission = cc in
    let a14 : column r 14 ≡ natural_as_value x.tax = cc in
    let a15 : column r 15 ≡ flag_as_value x.is_lifo = cc in
    rw (a0, a2, a3, a4, a5, a6, a7, a8, a9, a11, a12, a13, a14, a15) refl) old new ran.0 ran.1

pub sets_cash_type : (old new : State) (trade : ℕ) (word : List ℕ) → ExecutesStatement SetCashType.statement (Words word ∷ natural_as_value trade ∷ []) old new
    → ChangesTablesBy desk_tables (tables_with_cash_type trade word) old.now new.now
sets_cash_type old new trade word ran =
    updates_as desk_tables Settlements settlements SetCashType.statement (Words word ∷ natural_as_value trade ∷ []) (read SetCashType.statement)
    SetCashType.terms SetCashType.project (λ (r : SettlementRow). r.trade == trade)
    (λ tree r x e. let a : column r 0 ≡ natural_as_value x.trade = cc in rw (a, same_number x.trade trade) (and_true _)) (λ r. refl) SetCashType.understood_as
    (λ r. column r 0 ∷ Null ∷ Words word ∷ column r 3 ∷ column r 4 ∷ [])
    (λ (r : SettlementRow). record r { cash_type = word }) (λ x y. refl) (λ x y. refl) (λ r. refl)
    (λ tree r x whole e.
    let a3 : column r 3 ≡ natural_as_value x.due_day = cc in
    let a4 : column r 4 ≡ Int x.amount = cc in
    rw (a3, a4, cast_null, cast_int (pos x.due_day), cast_int x.amount) (ap (λ v. v ∷ Null ∷ drop 1 (settlement_cells (record x { cash_type = word }))) (cast_whole (column r 0) whole)))
    (λ tree r x e.
    let a0 : column r 0 ≡ natural_as_value x.trade = cc in
    let a3 : column r 3 ≡ natural_as_value x.due_day = cc in
    let a4 : column r 4 ≡ Int x.amount = cc in
    rw (a0, a3, a4) refl) old new ran.0 ran.1
