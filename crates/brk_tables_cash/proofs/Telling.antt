-- The results of the reads of the upgrade.
use Rattle.std.proofs.Common.{◌≡◌, ℕ, List, [], ◌∷◌, true, map, filter, ◌==◌, refl, ap, ◌∙◌}
use Rattle.sqlite_value.specs.Order.{Row}
use Rattle.sqlite.specs.State.{State, Shown}
use Rattle.brk_model.specs.Tables.{TradeRow}
use Rattle.brk_model.specs.Keys.{cash_transaction_key, trade_key}
use Rattle.brk_tables_sql.specs.Desk.{TablesSatisfy}
use Rattle.brk_tables_sql.proofs.Decode.{filter_true}
use Rattle.brk_tables_sql.proofs.Told.{told_rising}
use Rattle.brk_tables_schema.specs.Cells.{natural_as_value, cash_cells}
use Rattle.brk_tables_schema.specs.Desk.{CashRows, Trades, desk_tables, ordering_by_primary_key}
use Rattle.brk_tables_schema.proofs.Order.{key_total}
use Rattle.brk_tables_schema.proofs.Tests.{same_number}
use Rattle.brk_tables_cash.proofs.AccountOfTrade
use Rattle.brk_tables_cash.proofs.CashByTrade

-- all cash rows
pub tells_cash : (old new : State) (rows : List Row) → Shown CashByTrade.statement [] old new rows → TablesSatisfy desk_tables (λ t. rows ≡ map cash_cells t.cash) old.now
tells_cash old new rows shown = λ t tree h.
    told_rising desk_tables CashRows CashByTrade.statement CashByTrade.ask CashByTrade.paging CashByTrade.is_asked []
    (λ _. true) (λ tree x. refl)
    cash_cells (λ x. refl) (ordering_by_primary_key CashRows) (key_total cash_transaction_key) (λ tree x y. refl) old new rows shown (λ x y. refl) t tree h
    ∙ ap (map cash_cells) (filter_true t.cash)

-- the account alone
abbrev pub account_cells : TradeRow → Row
account_cells r = natural_as_value r.account ∷ []

pub tells_account : (old new : State) (trade : ℕ) (rows : List Row) → Shown AccountOfTrade.statement (natural_as_value trade ∷ []) old new rows
    → TablesSatisfy desk_tables (λ t. rows ≡ map account_cells (filter (λ r. r.id == trade) t.trades)) old.now
tells_account old new trade rows shown =
    told_rising desk_tables Trades AccountOfTrade.statement AccountOfTrade.ask AccountOfTrade.paging AccountOfTrade.is_asked (natural_as_value trade ∷ [])
    (λ (r : TradeRow). r.id == trade) (λ tree x. same_number x.id trade)
    account_cells (λ x. refl) (ordering_by_primary_key Trades) (key_total trade_key) (λ tree x y. refl) old new rows shown (λ x y. refl)
