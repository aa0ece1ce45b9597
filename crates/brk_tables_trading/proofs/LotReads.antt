-- The results of the reads of single lots and of all lots.
use Rattle.std.proofs.Common.{◌≡◌, ◌∙◌, ◌==◌, ℕ, List, [], ◌∷◌, true, map, filter, refl, ap}
use Rattle.sqlite_value.specs.Order.{Row}
use Rattle.sqlite.specs.State.{State, Shown}
use Rattle.brk_model.specs.Keys.{holding_key}
use Rattle.brk_model.specs.Tables.{HoldingRow}
use Rattle.brk_tables_sql.specs.Desk.{TablesSatisfy}
use Rattle.brk_tables_sql.proofs.Decode.{filter_true}
use Rattle.brk_tables_sql.proofs.Told.{told_rising}
use Rattle.brk_tables_schema.specs.Cells.{natural_as_value, holding_cells}
use Rattle.brk_tables_schema.specs.Desk.{Holdings, desk_tables, ordering_by_primary_key}
use Rattle.brk_tables_schema.proofs.Order.{key_total}
use Rattle.brk_tables_schema.proofs.Tests.{same_number}
use Rattle.brk_tables_trading.proofs.LotByTrade
use Rattle.brk_tables_trading.proofs.LotsByTrade

pub tells_lot : (old new : State) (trade : ℕ) (rows : List Row) → Shown LotByTrade.statement (natural_as_value trade ∷ []) old new rows
    → TablesSatisfy desk_tables (λ t. rows ≡ map holding_cells (filter (λ r. r.trade == trade) t.holdings)) old.now
tells_lot old new trade rows shown =
    told_rising desk_tables Holdings LotByTrade.statement LotByTrade.ask LotByTrade.paging LotByTrade.is_asked (natural_as_value trade ∷ [])
    (λ (r : HoldingRow). r.trade == trade) (λ tree x. same_number x.trade trade)
    holding_cells (λ x. refl) (ordering_by_primary_key Holdings) (key_total holding_key) (λ tree x y. refl) old new rows shown (λ x y. refl)

pub tells_lots : (old new : State) (rows : List Row) → Shown LotsByTrade.statement [] old new rows → TablesSatisfy desk_tables (λ t. rows ≡ map holding_cells t.holdings) old.now
tells_lots old new rows shown = λ t tree h.
    told_rising desk_tables Holdings LotsByTrade.statement LotsByTrade.ask LotsByTrade.paging LotsByTrade.is_asked []
    (λ _. true) (λ tree x. refl)
    holding_cells (λ x. refl) (ordering_by_primary_key Holdings) (key_total holding_key) (λ tree x y. refl) old new rows shown (λ x y. refl) t tree h
    ∙ ap (map holding_cells) (filter_true t.holdings)
