-- The results of the reads of trades, requests and last trades.
use Rattle.std.proofs.Common.{◌≡◌, ℕ, List, [], ◌∷◌, true, Some, map, filter, take, reverse, ◌==◌, refl, ap, ◌∙◌}
use Rattle.std.specs.Prelude.{bytes_eq}
use Rattle.std.proofs.lemmas.Cmp.{back_total}
use Rattle.sqlite_value.specs.declared.value.Value.TheVariants.{Text as Words}
use Rattle.sqlite_value.specs.Order.{Row}
use Rattle.sqlite.specs.State.{State, Shown}
use Rattle.brk_money.specs.Kinds.{is_same_trade_status, trade_status_code}
use Rattle.brk_money.specs.declared.status.Status.{Status}
use Rattle.brk_money.specs.declared.status.Status.TheVariants.{Completed, Active, Submitted, Pending, Canceled}
use Rattle.brk_model.specs.Tables.{TradeRow, RequestRow, LastTradeRow}
use Rattle.brk_model.specs.Keys.{trade_key, request_key, last_trade_key}
use Rattle.brk_tables_sql.specs.Desk.{TablesSatisfy}
use Rattle.brk_tables_sql.proofs.Answer.{limited_map}
use Rattle.brk_tables_sql.proofs.Decode.{filter_true}
use Rattle.brk_tables_sql.proofs.Told.{told_rising, told_falling}
use Rattle.brk_tables_schema.specs.Cells.{natural_as_value, trade_cells, request_cells, last_trade_cells}
use Rattle.brk_tables_schema.specs.Desk.{Trades, Requests, LastTrades, desk_tables, ordering_by_primary_key}
use Rattle.brk_tables_schema.proofs.Order.{key_total}
use Rattle.brk_tables_schema.proofs.Tests.{same_number, same_text}
use Rattle.brk_tables_trading.proofs.TradeById
use Rattle.brk_tables_trading.proofs.TradesById
use Rattle.brk_tables_trading.proofs.LastTradeId
use Rattle.brk_tables_trading.proofs.SubmittedTrades
use Rattle.brk_tables_trading.proofs.RequestsOfSymbol
use Rattle.brk_tables_trading.proofs.LastTradeBySymbol
use Rattle.brk_tables_trading.proofs.LastTradesBySymbol

pub tells_trade : (old new : State) (id : ℕ) (rows : List Row) → Shown TradeById.statement (natural_as_value id ∷ []) old new rows
    → TablesSatisfy desk_tables (λ t. rows ≡ map trade_cells (filter (λ r. r.id == id) t.trades)) old.now
tells_trade old new id rows shown =
    told_rising desk_tables Trades TradeById.statement TradeById.ask TradeById.paging TradeById.is_asked (natural_as_value id ∷ [])
    (λ (r : TradeRow). r.id == id) (λ tree x. same_number x.id id)
    trade_cells (λ x. refl) (ordering_by_primary_key Trades) (key_total trade_key) (λ tree x y. refl) old new rows shown (λ x y. refl)

pub tells_trades : (old new : State) (rows : List Row) → Shown TradesById.statement [] old new rows → TablesSatisfy desk_tables (λ t. rows ≡ map trade_cells t.trades) old.now
tells_trades old new rows shown = λ t tree h.
    told_rising desk_tables Trades TradesById.statement TradesById.ask TradesById.paging TradesById.is_asked []
    (λ _. true) (λ tree x. refl)
    trade_cells (λ x. refl) (ordering_by_primary_key Trades) (key_total trade_key) (λ tree x y. refl) old new rows shown (λ x y. refl) t tree h
    ∙ ap (map trade_cells) (filter_true t.trades)

abbrev pub id_cells : ℕ → Row
id_cells n = natural_as_value n ∷ []

pub tells_last_id : (old new : State) (rows : List Row) → Shown LastTradeId.statement [] old new rows
    → TablesSatisfy desk_tables (λ t. rows ≡ map id_cells (map (λ r. r.id) (take 1 (reverse t.trades)))) old.now
tells_last_id old new rows shown = λ t tree h.
    told_falling desk_tables Trades LastTradeId.statement LastTradeId.ask LastTradeId.paging LastTradeId.is_asked []
    (λ _. true) (λ tree x. refl)
    (λ (r : TradeRow). id_cells r.id) (λ x. refl) (λ x y. ordering_by_primary_key Trades y x) (back_total (key_total trade_key)) (λ tree x y. refl) old new rows shown (λ x y. refl) t tree h
    ∙ ap (λ xs. take 1 (map (λ (r : TradeRow). id_cells r.id) (reverse xs))) (filter_true t.trades)
    ∙ limited_map (λ (r : TradeRow). id_cells r.id) (Some 1) (reverse t.trades) ∙ twice (take 1 (reverse t.trades))
  where
    twice : (xs : List TradeRow) → map (λ r. id_cells r.id) xs ≡ map id_cells (map (λ r. r.id) xs)
    twice [] = refl
    twice (x ∷ xs) = ap (λ l. id_cells x.id ∷ l) (twice xs)

-- a code is that of what is at the market where the status is
at_market : (s : Status) → bytes_eq (trade_status_code s) (trade_status_code Submitted) ≡ is_same_trade_status s Submitted
at_market Completed = refl
at_market Active = refl
at_market Submitted = refl
at_market Pending = refl
at_market Canceled = refl

pub tells_submitted : (old new : State) (rows : List Row) → Shown SubmittedTrades.statement (Words (trade_status_code Submitted) ∷ []) old new rows
    → TablesSatisfy desk_tables (λ t. rows ≡ map trade_cells (filter (λ r. is_same_trade_status r.status Submitted) t.trades)) old.now
tells_submitted old new rows shown =
    told_rising desk_tables Trades SubmittedTrades.statement SubmittedTrades.ask SubmittedTrades.paging SubmittedTrades.is_asked (Words (trade_status_code Submitted) ∷ [])
    (λ (r : TradeRow). is_same_trade_status r.status Submitted) (λ tree x. rw (same_text (trade_status_code x.status) (trade_status_code Submitted), at_market x.status) refl)
    trade_cells (λ x. refl) (ordering_by_primary_key Trades) (key_total trade_key) (λ tree x y. refl) old new rows shown (λ x y. refl)

pub tells_requests : (old new : State) (symbol : List ℕ) (rows : List Row) → Shown RequestsOfSymbol.statement (Words symbol ∷ []) old new rows
    → TablesSatisfy desk_tables (λ t. rows ≡ map request_cells (filter (λ r. bytes_eq r.symbol symbol) t.requests)) old.now
tells_requests old new symbol rows shown =
    told_rising desk_tables Requests RequestsOfSymbol.statement RequestsOfSymbol.ask RequestsOfSymbol.paging RequestsOfSymbol.is_asked (Words symbol ∷ [])
    (λ (r : RequestRow). bytes_eq r.symbol symbol) (λ tree x. same_text x.symbol symbol)
    request_cells (λ x. refl) (ordering_by_primary_key Requests) (key_total request_key) (λ tree x y. refl) old new rows shown (λ x y. refl)

pub tells_last_trade : (old new : State) (symbol : List ℕ) (rows : List Row) → Shown LastTradeBySymbol.statement (Words symbol ∷ []) old new rows
    → TablesSatisfy desk_tables (λ t. rows ≡ map last_trade_cells (filter (λ r. bytes_eq r.symbol symbol) t.last_trades)) old.now
tells_last_trade old new symbol rows shown =
    told_rising desk_tables LastTrades LastTradeBySymbol.statement LastTradeBySymbol.ask LastTradeBySymbol.paging LastTradeBySymbol.is_asked (Words symbol ∷ [])
    (λ (r : LastTradeRow). bytes_eq r.symbol symbol) (λ tree x. same_text x.symbol symbol)
    last_trade_cells (λ x. refl) (ordering_by_primary_key LastTrades) (key_total last_trade_key) (λ tree x y. refl) old new rows shown (λ x y. refl)

pub tells_last_trades : (old new : State) (rows : List Row) → Shown LastTradesBySymbol.statement [] old new rows → TablesSatisfy desk_tables (λ t. rows ≡ map last_trade_cells t.last_trades) old.now
tells_last_trades old new rows shown = λ t tree h.
    told_rising desk_tables LastTrades LastTradesBySymbol.statement LastTradesBySymbol.ask LastTradesBySymbol.paging LastTradesBySymbol.is_asked []
    (λ _. true) (λ tree x. refl)
    last_trade_cells (λ x. refl) (ordering_by_primary_key LastTrades) (key_total last_trade_key) (λ tree x y. refl) old new rows shown (λ x y. refl) t tree h
    ∙ ap (map last_trade_cells) (filter_true t.last_trades)
