-- The results of the reads of lot changes, brokers and requests.
use Rattle.std.proofs.Common.{◌≡◌, ◌∙◌, ℕ, List, [], ◌∷◌, true, map, filter, ◌==◌, ◌&&◌, refl, ap}
use Rattle.std.specs.Prelude.{bytes_eq}
use Rattle.sqlite_value.specs.declared.value.Value.TheVariants.{Text as Words}
use Rattle.sqlite_value.specs.Order.{Row}
use Rattle.sqlite.specs.State.{State, Shown}
use Rattle.brk_model.specs.Keys.{broker_key, holding_history_key, request_key}
use Rattle.brk_model.specs.Tables.{BrokerRow, HoldingHistoryRow}
use Rattle.brk_tables_sql.specs.Desk.{TablesSatisfy}
use Rattle.brk_tables_sql.proofs.Decode.{filter_true}
use Rattle.brk_tables_sql.proofs.Told.{told_rising}
use Rattle.brk_tables_schema.specs.Cells.{natural_as_value, broker_cells, holding_history_cells, request_cells}
use Rattle.brk_tables_schema.specs.Desk.{Brokers, HoldingHistory, Requests, desk_tables, ordering_by_primary_key}
use Rattle.brk_tables_schema.proofs.Order.{key_total}
use Rattle.brk_tables_schema.proofs.Tests.{same_number, same_text}
use Rattle.brk_tables_views.proofs.BrokersNamed
use Rattle.brk_tables_views.proofs.ChangeByKey
use Rattle.brk_tables_views.proofs.ChangesBy
use Rattle.brk_tables_views.proofs.ChangesByKey
use Rattle.brk_tables_views.proofs.ChangesOf
use Rattle.brk_tables_views.proofs.RequestsByTrade

-- ---- what trades made of lots

pub tells_changes : (old new : State) (rows : List Row) → Shown ChangesByKey.statement [] old new rows
    → TablesSatisfy desk_tables (λ t. rows ≡ map holding_history_cells t.holding_history) old.now
tells_changes old new rows shown = λ t tree h.
    told_rising desk_tables HoldingHistory ChangesByKey.statement ChangesByKey.ask ChangesByKey.paging ChangesByKey.is_asked []
    (λ _. true) (λ tree x. refl)
    holding_history_cells (λ x. refl) (ordering_by_primary_key HoldingHistory) (key_total holding_history_key) (λ tree x y. refl) old new rows shown (λ x y. refl) t tree h
    ∙ ap (map holding_history_cells) (filter_true t.holding_history)

pub tells_change : (old new : State) (lot trade : ℕ) (rows : List Row) → Shown ChangeByKey.statement (natural_as_value lot ∷ natural_as_value trade ∷ []) old new rows
    → TablesSatisfy desk_tables (λ t. rows ≡ map holding_history_cells (filter (λ r. (r.lot == lot) && (r.trade == trade)) t.holding_history)) old.now
tells_change old new lot trade rows shown =
    told_rising desk_tables HoldingHistory ChangeByKey.statement ChangeByKey.ask ChangeByKey.paging ChangeByKey.is_asked (natural_as_value lot ∷ natural_as_value trade ∷ [])
    (λ (r : HoldingHistoryRow). (r.lot == lot) && (r.trade == trade)) (λ tree x. rw (same_number x.lot lot, same_number x.trade trade) refl)
    holding_history_cells (λ x. refl) (ordering_by_primary_key HoldingHistory) (key_total holding_history_key) (λ tree x y. refl) old new rows shown (λ x y. refl)

pub tells_changes_by : (old new : State) (trade : ℕ) (rows : List Row) → Shown ChangesBy.statement (natural_as_value trade ∷ []) old new rows
    → TablesSatisfy desk_tables (λ t. rows ≡ map holding_history_cells (filter (λ r. r.trade == trade) t.holding_history)) old.now
tells_changes_by old new trade rows shown =
    told_rising desk_tables HoldingHistory ChangesBy.statement ChangesBy.ask ChangesBy.paging ChangesBy.is_asked (natural_as_value trade ∷ [])
    (λ (r : HoldingHistoryRow). r.trade == trade) (λ tree x. same_number x.trade trade)
    holding_history_cells (λ x. refl) (ordering_by_primary_key HoldingHistory) (key_total holding_history_key) (λ tree x y. refl) old new rows shown (λ x y. refl)

pub tells_changes_of : (old new : State) (lot : ℕ) (rows : List Row) → Shown ChangesOf.statement (natural_as_value lot ∷ []) old new rows
    → TablesSatisfy desk_tables (λ t. rows ≡ map holding_history_cells (filter (λ r. r.lot == lot) t.holding_history)) old.now
tells_changes_of old new lot rows shown =
    told_rising desk_tables HoldingHistory ChangesOf.statement ChangesOf.ask ChangesOf.paging ChangesOf.is_asked (natural_as_value lot ∷ [])
    (λ (r : HoldingHistoryRow). r.lot == lot) (λ tree x. same_number x.lot lot)
    holding_history_cells (λ x. refl) (ordering_by_primary_key HoldingHistory) (key_total holding_history_key) (λ tree x y. refl) old new rows shown (λ x y. refl)

-- ---- brokers, and all requests

pub tells_brokers_named : (old new : State) (name : List ℕ) (rows : List Row) → Shown BrokersNamed.statement (Words name ∷ []) old new rows
    → TablesSatisfy desk_tables (λ t. rows ≡ map broker_cells (filter (λ r. bytes_eq r.name name) t.brokers)) old.now
tells_brokers_named old new name rows shown =
    told_rising desk_tables Brokers BrokersNamed.statement BrokersNamed.ask BrokersNamed.paging BrokersNamed.is_asked (Words name ∷ [])
    (λ (r : BrokerRow). bytes_eq r.name name) (λ tree x. same_text x.name name)
    broker_cells (λ x. refl) (ordering_by_primary_key Brokers) (key_total broker_key) (λ tree x y. refl) old new rows shown (λ x y. refl)

pub tells_requests : (old new : State) (rows : List Row) → Shown RequestsByTrade.statement [] old new rows → TablesSatisfy desk_tables (λ t. rows ≡ map request_cells t.requests) old.now
tells_requests old new rows shown = λ t tree h.
    told_rising desk_tables Requests RequestsByTrade.statement RequestsByTrade.ask RequestsByTrade.paging RequestsByTrade.is_asked []
    (λ _. true) (λ tree x. refl)
    request_cells (λ x. refl) (ordering_by_primary_key Requests) (key_total request_key) (λ tree x y. refl) old new rows shown (λ x y. refl) t tree h
    ∙ ap (map request_cells) (filter_true t.requests)
