-- A page of lots that is read by the index equals the page of the table.
use Rattle.std.proofs.Common.{◌≡◌, ◌∙◌, ◌==◌, ◌&&◌, ℕ, Bool, true, false, List, Result, filter, map, refl, ap, subst}
use Rattle.std.specs.Prelude.{bytes_eq}
use Rattle.std.specs.Global.{Vec}
use Rattle.sqlite_trees.specs.declared.store.Store.{Ghosts}
use Rattle.sqlite.specs.Held.{Held, state}
use Rattle.brk_money.specs.Spelling.{Text}
use Rattle.brk_model.specs.Tables.{HoldingRow}
use Rattle.brk_lots.specs.Lots.{list_reversed_if_lifo}
use Rattle.brk_ref.specs.Rows.{abstract_holding_row, lots_oldest_first}
use Rattle.brk_ref.specs.declared.holding_row.HoldingRow as row
use Rattle.brk_tables_trading.specs.Pages.{page_after_skipped}
use Rattle.brk_store_index.specs.declared.age.RowAge.{RowAge}
use Rattle.brk_store_index.specs.declared.index.RowIndex.{RowIndex}
use Rattle.brk_store_index.specs.Ages.{in_order}
use Rattle.brk_store_index.specs.Index.{ages_at}
use Rattle.brk_store_index.specs.Index as group
use Rattle.brk_store_index.proofs.PositionLots.{lots_found}
use Rattle.brk_store_transactions.specs.Holds.{ReadPost}
use Rattle.brk_store.specs.Indexed.{HasRowOfEachAge, IndexIsTrue}
use Rattle.brk_store.specs.Pages.{lot_rows_in_closing_order}
use Rattle.brk_store_index.specs.declared.store_index.StoreIndex.TheVariants.{Made}
use Rattle.brk_store.proofs.TradesByIndex.{index_of_rows, told_by_index}
use Rattle.brk_store.proofs.WalkedLists.{holdings_climb}

same_order : {X : Type 0} (lifo : Bool) (xs : List X) → in_order lifo xs ≡ list_reversed_if_lifo lifo xs
same_order true xs = refl
same_order false xs = refl

pub page_read : {S E : Type 0} (g : Ghosts S) (conn : Held S) (index : RowIndex) → IndexIsTrue g conn (Made index) → (end store : Held S) → conn ≡ store → (account : ℕ) (symbol : Text) (lifo : Bool) (skipped : ℕ) (ages : List RowAge)
    → ages ≡ ages_at index (group.Position account symbol) → (result : Result (Vec row.HoldingRow) E) → ReadPost g conn end result (λ page t. HasRowOfEachAge account symbol lifo skipped ages page.items t)
    → ReadPost g store end result (λ page t. map abstract_holding_row page.items ≡ page_after_skipped skipped (lot_rows_in_closing_order lifo account symbol t))
page_read g conn index is end store same account symbol lifo skipped ages all result = told_by_index g conn end store same result _ _ (λ clean on t holds page shown.
    lots_found t.holdings (holdings_climb t (state g conn).now (holds clean on)) account symbol (ages_at index (group.Position account symbol))
    ((index_of_rows g conn index is clean on t holds).groups (group.Position account symbol)) lifo skipped 4 (map abstract_holding_row page.items)
    (subst (λ l. HasRowOfEachAge account symbol lifo skipped l page.items t) all shown)
    ∙ ap (page_after_skipped skipped) (same_order lifo (lots_oldest_first (filter (λ (r : HoldingRow). (r.account == account) && bytes_eq r.symbol symbol) t.holdings))))
