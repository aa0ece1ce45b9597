-- The effect of the writes of trades, history, requests and last trades.
use Rattle.std.proofs.Common.{◌≡◌, ℕ, pos, Option, Some, None, [], ◌∷◌, drop, ◌==◌, refl, ap}
use Rattle.std.specs.Prelude.{if◌then◌else◌, bytes_eq}
use Rattle.sqlite_value.specs.declared.value.Value.TheVariants.{Null, Text as Words}
use Rattle.sqlite_value.specs.Order.{column}
use Rattle.sqlite_tied.proofs.RuleLemmas.{and_true}
use Rattle.sqlite_schema.specs.declared.schema.Kind.TheVariants.{Integer}
use Rattle.sqlite.specs.Cast.{cast}
use Rattle.sqlite.specs.State.{State}
use Rattle.brk_money.specs.Kinds.{trade_type_code, trade_status_code}
use Rattle.brk_money.specs.declared.status.Status.{Status}
use Rattle.brk_money.specs.declared.status.Status.TheVariants.{Completed}
use Rattle.brk_model.specs.Tables.{TradeRow, HistoryRow, RequestRow, LastTradeRow}
use Rattle.brk_tables_sql.specs.Desk.{ChangesTablesBy}
use Rattle.brk_tables_sql.specs.Model.{ExecutesStatement}
use Rattle.brk_tables_sql.proofs.Texts.{read}
use Rattle.brk_tables_sql.proofs.Values.{cast_int, cast_null, cast_whole}
use Rattle.brk_tables_sql.proofs.Writes.{inserts_as, updates_as, deletes_as}
use Rattle.brk_tables_schema.specs.Cells.{natural_as_value, optional_natural_as_value, flag_as_value, trade_cells, history_cells, request_cells}
use Rattle.brk_tables_schema.specs.Desk.{Trades, TradeHistory, Requests, LastTrades, desk_tables}
use Rattle.brk_tables_schema.proofs.Places.{last_trades}
use Rattle.brk_tables_schema.proofs.Steps.{added}
use Rattle.brk_tables_schema.proofs.Tests.{same_number, same_text}
use Rattle.brk_trade_rows.specs.Changes.{tables_with_trade, tables_with_history_row, tables_with_request, tables_without_request, tables_with_last_trade_replaced}
use Rattle.brk_trade_rows.specs.Changes.{tables_with_trade_status, tables_with_trade_completed}
use Rattle.brk_tables_trading.proofs.Places.{trades, trade_history, requests}
use Rattle.brk_tables_trading.proofs.AddTrade
use Rattle.brk_tables_trading.proofs.AddTradeHistory
use Rattle.brk_tables_trading.proofs.AddRequest
use Rattle.brk_tables_trading.proofs.RemoveRequest
use Rattle.brk_tables_trading.proofs.SetLastTrade
use Rattle.brk_tables_trading.proofs.SetStatus
use Rattle.brk_tables_trading.proofs.CompleteTrade

cast_maybe : (o : Option ℕ) → cast Integer (optional_natural_as_value o) ≡ optional_natural_as_value o
cast_maybe None = cast_null
cast_maybe (Some n) = cast_int (pos n)

-- ---- rows that come

pub adds_trade : (old new : State) (x : TradeRow) → ExecutesStatement AddTrade.statement (trade_cells x) old new → ChangesTablesBy desk_tables (tables_with_trade x) old.now new.now
adds_trade old new x ran =
    added Trades trades x old.now new.now
    (inserts_as desk_tables Trades trades AddTrade.statement (trade_cells x) (read AddTrade.statement) AddTrade.terms 16
    (natural_as_value x.id ∷ Null ∷ drop 1 (trade_cells x)) x AddTrade.understood_as (λ tree. refl)
    (λ tree rows.
    rw (
      cast_int (pos x.id),
      cast_int (pos x.stamp),
      cast_int (pos (if x.is_cash then 1 else 0)),
      cast_int (pos x.qty),
      cast_int (pos x.bid),
      cast_int (pos x.account),
      cast_maybe x.price,
      cast_int (pos x.charge),
      cast_int (pos x.commission),
      cast_int (pos x.tax),
      cast_int (pos (if x.is_lifo then 1 else 0)),
    ) refl) old new ran.0 ran.1)

pub adds_history : (old new : State) (x : HistoryRow) → ExecutesStatement AddTradeHistory.statement (history_cells x) old new → ChangesTablesBy desk_tables (tables_with_history_row x) old.now new.now
adds_history old new x ran =
    added TradeHistory trade_history x old.now new.now
    (inserts_as desk_tables TradeHistory trade_history AddTradeHistory.statement (history_cells x) (read AddTradeHistory.statement) AddTradeHistory.terms 4
    (Null ∷ history_cells x) x AddTradeHistory.understood_as (λ tree. refl) (λ tree rows. rw (cast_null, cast_int (pos x.trade), cast_int (pos x.stamp)) refl) old new ran.0 ran.1)

pub adds_request : (old new : State) (x : RequestRow) → ExecutesStatement AddRequest.statement (request_cells x) old new → ChangesTablesBy desk_tables (tables_with_request x) old.now new.now
adds_request old new x ran =
    added Requests requests x old.now new.now
    (inserts_as desk_tables Requests requests AddRequest.statement (request_cells x) (read AddRequest.statement) AddRequest.terms 7
    (natural_as_value x.trade ∷ Null ∷ drop 1 (request_cells x)) x AddRequest.understood_as (λ tree. refl)
    (λ tree rows. rw (cast_int (pos x.trade), cast_int (pos x.qty), cast_int (pos x.bid), cast_int (pos x.broker)) refl) old new ran.0 ran.1)

-- ---- rows that go

pub removes_request : (old new : State) (trade : ℕ) → ExecutesStatement RemoveRequest.statement (natural_as_value trade ∷ []) old new
    → ChangesTablesBy desk_tables (tables_without_request trade) old.now new.now
removes_request old new trade ran =
    deletes_as desk_tables Requests requests RemoveRequest.statement (natural_as_value trade ∷ []) (read RemoveRequest.statement) RemoveRequest.terms
    RemoveRequest.project (λ (r : RequestRow). r.trade == trade)
    (λ tree r x e. let a : column r 0 ≡ natural_as_value x.trade = cc in rw (a, same_number x.trade trade) (and_true _)) (λ r. refl) RemoveRequest.understood_as old new ran.0 ran.1

-- ---- rows that change

pub sets_last_trade : (old new : State) (l : LastTradeRow)
    → ExecutesStatement SetLastTrade.statement (natural_as_value l.stamp ∷ natural_as_value l.price ∷ natural_as_value l.volume ∷ Words l.symbol ∷ []) old new
    → ChangesTablesBy desk_tables (tables_with_last_trade_replaced l) old.now new.now
sets_last_trade old new l ran =
    updates_as desk_tables LastTrades last_trades SetLastTrade.statement
    (natural_as_value l.stamp ∷ natural_as_value l.price ∷ natural_as_value l.volume ∷ Words l.symbol ∷ []) (read SetLastTrade.statement) SetLastTrade.terms
    SetLastTrade.project (λ (r : LastTradeRow). bytes_eq r.symbol l.symbol)
    (λ tree r x e. let a : column r 1 ≡ Words x.symbol = cc in rw (a, same_text x.symbol l.symbol) (and_true _)) (λ r. refl) SetLastTrade.understood_as
    (λ r. column r 0 ∷ column r 1 ∷ natural_as_value l.stamp ∷ natural_as_value l.price ∷ natural_as_value l.volume ∷ [])
    (λ (r : LastTradeRow). record r { stamp = l.stamp; price = l.price; volume = l.volume }) (λ x y. refl) (λ x y. refl) (λ r. refl)
    (λ tree r x whole e. let a : column r 1 ≡ Words x.symbol = cc in
    rw (a, cast_int (pos l.stamp), cast_int (pos l.price), cast_int (pos l.volume))
    (ap (λ v. v ∷ Words x.symbol ∷ natural_as_value l.stamp ∷ natural_as_value l.price ∷ natural_as_value l.volume ∷ []) (cast_whole (column r 0) whole)))
    (λ tree r x e. let a : column r 1 ≡ Words x.symbol = cc in rw a refl) old new ran.0 ran.1

pub sets_status : (old new : State) (id : ℕ) (status : Status) (stamp : ℕ)
    → ExecutesStatement SetStatus.statement (Words (trade_status_code status) ∷ natural_as_value stamp ∷ natural_as_value id ∷ []) old new
    → ChangesTablesBy desk_tables (tables_with_trade_status id status stamp) old.now new.now
sets_status old new id status stamp ran =
    updates_as desk_tables Trades trades SetStatus.statement (Words (trade_status_code status) ∷ natural_as_value stamp ∷ natural_as_value id ∷ [])
    (read SetStatus.statement) SetStatus.terms SetStatus.project (λ (r : TradeRow). r.id == id)
    (λ tree r x e. let a : column r 0 ≡ natural_as_value x.id = cc in rw (a, same_number x.id id) (and_true _)) (λ r. refl) SetStatus.understood_as
    (λ r.
    column r 0 ∷ Null ∷ natural_as_value stamp ∷ Words (trade_status_code status) ∷ column r 4 ∷ column r 5 ∷ column r 6 ∷ column r 7 ∷ column r 8 ∷ column r 9
    ∷ column r 10 ∷ column r 11 ∷ column r 12 ∷ column r 13 ∷ column r 14 ∷ column r 15 ∷ [])
    (λ (r : TradeRow). record r { status = status; stamp = stamp }) (λ x y. refl) (λ x y. refl) (λ r. refl)
    (λ tree r x whole e.
    let a4 : column r 4 ≡ Words (trade_type_code x.kind) = cc in
    let a5 : column r 5 ≡ flag_as_value x.is_cash = cc in
    let a6 : column r 6 ≡ Words x.symbol = cc in
    let a7 : column r 7 ≡ natural_as_value x.qty = cc in
    let a8 : column r 8 ≡ natural_as_value x.bid = cc in
    let a9 : column r 9 ≡ natural_as_value x.account = cc in
    let a10 : column r 10 ≡ Words x.executor = cc in
    let a11 : column r 11 ≡ optional_natural_as_value x.price = cc in
    let a12 : column r 12 ≡ natural_as_value x.charge = cc in
    let a13 : column r 13 ≡ natural_as_value x.commission = cc in
    let a14 : column r 14 ≡ natural_as_value x.tax = cc in
    let a15 : column r 15 ≡ flag_as_value x.is_lifo = cc in
    rw (
      a4,
      a5,
      a6,
      a7,
      a8,
      a9,
      a10,
      a11,
      a12,
      a13,
      a14,
      a15,
      cast_null,
      cast_int (pos stamp),
      cast_int (pos (if x.is_cash then 1 else 0)),
      cast_int (pos x.qty),
      cast_int (pos x.bid),
      cast_int (pos x.account),
      cast_maybe x.price,
      cast_int (pos x.charge),
      cast_int (pos x.commission),
      cast_int (pos x.tax),
      cast_int (pos (if x.is_lifo then 1 else 0)),
    ) (ap (λ v. v ∷ Null ∷ drop 1 (trade_cells (record x { status = status; stamp = stamp }))) (cast_whole (column r 0) whole)))
    (λ tree r x e.
    let a0 : column r 0 ≡ natural_as_value x.id = cc in
    let a4 : column r 4 ≡ Words (trade_type_code x.kind) = cc in
    let a5 : column r 5 ≡ flag_as_value x.is_cash = cc in
    let a6 : column r 6 ≡ Words x.symbol = cc in
    let a7 : column r 7 ≡ natural_as_value x.qty = cc in
    let a8 : column r 8 ≡ natural_as_value x.bid = cc in
    let a9 : column r 9 ≡ natural_as_value x.account = cc in
    let a10 : column r 10 ≡ Words x.executor = cc in
    let a11 : column r 11 ≡ optional_natural_as_value x.price = cc in
    let a12 : column r 12 ≡ natural_as_value x.charge = cc in
    let a13 : column r 13 ≡ natural_as_value x.commission = cc in
    let a14 : column r 14 ≡ natural_as_value x.tax = cc in
    let a15 : column r 15 ≡ flag_as_value x.is_lifo = cc in
    rw (a0, a4, a5, a6, a7, a8, a9, a10, a11, a12, a13, a14, a15) refl) old new ran.0 ran.1

pub completes_trade : (old new : State) (id stamp price commission tax : ℕ)
    → ExecutesStatement CompleteTrade.statement
    (Words (trade_status_code Completed) ∷ natural_as_value stamp ∷ natural_as_value price ∷ natural_as_value commission ∷ natural_as_value tax
    ∷ natural_as_value id ∷ []) old new → ChangesTablesBy desk_tables (tables_with_trade_completed id stamp price commission tax) old.now new.now
completes_trade old new id stamp price commission tax ran =
    updates_as desk_tables Trades trades CompleteTrade.statement
    (Words (trade_status_code Completed) ∷ natural_as_value stamp ∷ natural_as_value price ∷ natural_as_value commission ∷ natural_as_value tax
    ∷ natural_as_value id ∷ []) (read CompleteTrade.statement) CompleteTrade.terms CompleteTrade.project (λ (r : TradeRow). r.id == id)
    (λ tree r x e. let a : column r 0 ≡ natural_as_value x.id = cc in rw (a, same_number x.id id) (and_true _)) (λ r. refl) CompleteTrade.understood_as
    (λ r.
    column r 0 ∷ Null ∷ natural_as_value stamp ∷ Words (trade_status_code Completed) ∷ column r 4 ∷ column r 5 ∷ column r 6 ∷ column r 7 ∷ column r 8
    ∷ column r 9 ∷ column r 10 ∷ natural_as_value price ∷ column r 12 ∷ natural_as_value commission ∷ natural_as_value tax ∷ column r 15 ∷ [])
    (λ (r : TradeRow). record r { status = Completed; stamp = stamp; price = Some price; commission = commission; tax = tax }) (λ x y. refl) (λ x y. refl) (λ r. refl)
    (λ tree r x whole e.
    let a4 : column r 4 ≡ Words (trade_type_code x.kind) = cc in
    let a5 : column r 5 ≡ flag_as_value x.is_cash = cc in
    let a6 : column r 6 ≡ Words x.symbol = cc in
    let a7 : column r 7 ≡ natural_as_value x.qty = cc in
    let a8 : column r 8 ≡ natural_as_value x.bid = cc in
    let a9 : column r 9 ≡ natural_as_value x.account = cc in
    let a10 : column r 10 ≡ Words x.executor = cc in
    let a12 : column r 12 ≡ natural_as_value x.charge = cc in
    let a15 : column r 15 ≡ flag_as_value x.is_lifo = cc in
    rw (
      a4,
      a5,
      a6,
      a7,
      a8,
      a9,
      a10,
      a12,
      a15,
      cast_null,
      cast_int (pos stamp),
      cast_int (pos (if x.is_cash then 1 else 0)),
      cast_int (pos x.qty),
      cast_int (pos x.bid),
      cast_int (pos x.account),
      cast_int (pos price),
      cast_int (pos x.charge),
      cast_int (pos commission),
      cast_int (pos tax),
      cast_int (pos (if x.is_lifo then 1 else 0)),
    )
    (ap (λ v. v ∷ Null ∷ drop 1 (trade_cells (record x { status = Completed; stamp = stamp; price = Some price; commission = commission; tax = tax })))
    (cast_whole (column r 0) whole)))
    (λ tree r x e.
    let a0 : column r 0 ≡ natural_as_value x.id = cc in
    let a4 : column r 4 ≡ Words (trade_type_code x.kind) = cc in
    let a5 : column r 5 ≡ flag_as_value x.is_cash = cc in
    let a6 : column r 6 ≡ Words x.symbol = cc in
    let a7 : column r 7 ≡ natural_as_value x.qty = cc in
    let a8 : column r 8 ≡ natural_as_value x.bid = cc in
    let a9 : column r 9 ≡ natural_as_value x.account = cc in
    let a10 : column r 10 ≡ Words x.executor = cc in
    let a12 : column r 12 ≡ natural_as_value x.charge = cc in
    let a15 : column r 15 ≡ flag_as_value x.is_lifo = cc in
    rw (a0, a4, a5, a6, a7, a8, a9, a10, a12, a15) refl) old new ran.0 ran.1
