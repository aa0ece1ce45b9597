use Rattle.std.proofs.Common.{◌≡◌, ◌∙◌, [], ap, false, rules, sym}
use Rattle.brk_tables_trading.specs.Pages.{position_lots_by_age}
use Rattle.brk_trade_books.specs.TradeReads.{lot_of_row}
use Rattle.brk_store.specs.Pages.{remaining_lots, lot_rows_in_closing_order}
use Rattle.brk_store.proofs.Turning.{map_end}
use Rattle.brk_store.proofs.store.Store.lot_pages.Goals as goal

pub returns-clause-remaining : goal.returns-clause-remaining
returns-clause-remaining g c t holds =
    let account = c.args.account in
    let symbol = c.args.symbol.now in
    let none : c.new.result.items ≡ [] = search rules in
    (t, holds, map_end c.args.lifo lot_of_row (position_lots_by_age account symbol t) ∙ sym (ap (λ p. remaining_lots p false 0 (lot_rows_in_closing_order c.args.lifo account symbol t)) none))
