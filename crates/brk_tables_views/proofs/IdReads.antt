-- The results of the reads of ids alone.
use Rattle.std.proofs.Common.{◌≡◌, ◌∙◌, ℕ, List, [], ◌∷◌, Bool, true, ◌&&◌, ◌==◌, map, filter, refl, sym, ap}
use Rattle.std.specs.Prelude.{bytes_eq}
use Rattle.sqlite_value.specs.declared.value.Value.TheVariants.{Text as Words}
use Rattle.sqlite_value.specs.Order.{Row, value_cmp}
use Rattle.sqlite.specs.State.{State, Shown}
use Rattle.brk_money.specs.Kinds.{is_same_trade_status, trade_status_code}
use Rattle.brk_money.specs.declared.status.Status.{Status}
use Rattle.brk_money.specs.declared.status.Status.TheVariants.{Completed, Active, Submitted, Pending, Canceled}
use Rattle.brk_model.specs.Joins.{trade_rows_oldest_first}
use Rattle.brk_model.specs.Keys.{account_key}
use Rattle.brk_model.specs.Tables.{AccountRow, TradeRow}
use Rattle.brk_tables_sql.specs.Desk.{TablesSatisfy}
use Rattle.brk_tables_sql.proofs.Decode.{filter_true}
use Rattle.brk_tables_sql.proofs.Told.{told_rising, told_sorted}
use Rattle.brk_tables_schema.specs.Cells.{natural_as_value}
use Rattle.brk_tables_schema.specs.Desk.{Accounts, Trades, desk_tables, ordering_by_primary_key}
use Rattle.brk_tables_schema.proofs.Order.{key_total}
use Rattle.brk_tables_schema.proofs.Tests.{same_number, same_text}
use Rattle.brk_tables_views.proofs.AccountIds
use Rattle.brk_tables_views.proofs.AccountsOfBroker
use Rattle.brk_tables_views.proofs.CompletedOfHolding
use Rattle.brk_tables_views.proofs.MomentReads.{oldest_are, rising, second, trade_age}

-- an id as a row
abbrev pub id_cells : ℕ → Row
id_cells n = natural_as_value n ∷ []

twice : {X : Type 0} (id : X → ℕ) (xs : List X) → map (λ x. id_cells (id x)) xs ≡ map id_cells (map id xs)
twice id [] = refl
twice id (x ∷ xs) = ap (λ l. id_cells (id x) ∷ l) (twice id xs)

pub as_they_are : (ns : List ℕ) → ns ≡ map (λ n. n) ns
as_they_are [] = refl
as_they_are (n ∷ ns) = ap (λ l. n ∷ l) (as_they_are ns)

pub tells_accounts_of_broker : (old new : State) (broker : ℕ) (rows : List Row) → Shown AccountsOfBroker.statement (natural_as_value broker ∷ []) old new rows
    → TablesSatisfy desk_tables (λ t. rows ≡ map id_cells (map (λ r. r.id) (filter (λ r. r.broker == broker) t.accounts))) old.now
tells_accounts_of_broker old new broker rows shown = λ t tree h.
    told_rising desk_tables Accounts AccountsOfBroker.statement AccountsOfBroker.ask AccountsOfBroker.paging AccountsOfBroker.is_asked (natural_as_value broker ∷ [])
    (λ (r : AccountRow). r.broker == broker) (λ tree x. same_number x.broker broker)
    (λ (r : AccountRow). id_cells r.id) (λ x. refl) (ordering_by_primary_key Accounts) (key_total account_key) (λ tree x y. refl) old new rows shown (λ x y. refl) t tree h
    ∙ twice (λ (r : AccountRow). r.id) (filter (λ (r : AccountRow). r.broker == broker) t.accounts)

pub tells_account_ids : (old new : State) (rows : List Row) → Shown AccountIds.statement [] old new rows
    → TablesSatisfy desk_tables (λ t. rows ≡ map id_cells (map (λ r. r.id) t.accounts)) old.now
tells_account_ids old new rows shown = λ t tree h.
    told_rising desk_tables Accounts AccountIds.statement AccountIds.ask AccountIds.paging AccountIds.is_asked []
    (λ (r : AccountRow). true) (λ tree x. refl)
    (λ (r : AccountRow). id_cells r.id) (λ x. refl) (ordering_by_primary_key Accounts) (key_total account_key) (λ tree x y. refl) old new rows shown (λ x y. refl) t tree h
    ∙ ap (map (λ (r : AccountRow). id_cells r.id)) (filter_true t.accounts)
    ∙ twice (λ (r : AccountRow). r.id) t.accounts

-- a code is that of what is completed where the status is
is_done : (s : Status) → bytes_eq (trade_status_code s) (trade_status_code Completed) ≡ is_same_trade_status s Completed
is_done Completed = refl
is_done Active = refl
is_done Submitted = refl
is_done Pending = refl
is_done Canceled = refl

pub tells_completed_of_holding : (old new : State) (account : ℕ) (symbol : List ℕ) (rows : List Row)
    → Shown CompletedOfHolding.statement (natural_as_value account ∷ Words symbol ∷ Words (trade_status_code Completed) ∷ []) old new rows
    → TablesSatisfy desk_tables
    (λ t. rows ≡ map id_cells
    (map (λ r. r.id) (trade_rows_oldest_first
    (filter (λ r. (r.account == account) && (bytes_eq r.symbol symbol && is_same_trade_status r.status Completed)) t.trades)))) old.now
tells_completed_of_holding old new account symbol rows shown = λ t tree h.
    let test : TradeRow → Bool = λ r. (r.account == account) && (bytes_eq r.symbol symbol && is_same_trade_status r.status Completed) in
    told_sorted desk_tables Trades CompletedOfHolding.statement CompletedOfHolding.ask CompletedOfHolding.paging CompletedOfHolding.is_asked (natural_as_value account ∷ Words symbol ∷ Words (trade_status_code Completed) ∷ [])
    test (λ tree x. rw (same_number x.account account, same_text x.symbol symbol, same_text (trade_status_code x.status) (trade_status_code Completed), is_done x.status) refl)
    (λ (r : TradeRow). id_cells r.id) (λ x. refl) rising (key_total trade_age) (λ tree x y. refl) old new rows shown (λ x y e. second (value_cmp (natural_as_value x.stamp) (natural_as_value y.stamp)) _ e) t tree h
    ∙ ap (map (λ (r : TradeRow). id_cells r.id)) (sym (oldest_are (filter test t.trades)))
    ∙ twice (λ (r : TradeRow). r.id) (trade_rows_oldest_first (filter test t.trades))
