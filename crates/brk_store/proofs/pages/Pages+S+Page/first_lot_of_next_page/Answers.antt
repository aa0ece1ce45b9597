use Rattle.std.proofs.Common.{◌≡◌, ◌+◌, ◌∙◌, [], drop, length, nat_lt, map, slice_get, rules, ap}
use Rattle.std.specs.Prelude.{option_map}
use Rattle.std.proofs.lemmas.List.{drop_all}
use Rattle.brk_trade_books.specs.OrderReads.{lot_of_typed_row}
use Rattle.brk_trade_books.specs.TradeReads.{lot_of_row}
use Rattle.brk_store.specs.Pages.{remaining_lots, lot_rows_in_closing_order}
use Rattle.brk_store.proofs.Turning.{turned}
use Rattle.brk_store.proofs.pages.Pages+S+Page.first_lot_of_next_page.Goals as goal
use Rattle.brk_store.proofs.pages.Pages+S+Page.first_lot_of_next_page.Goals.{in-Some, in-None}

pub returns-clause-first_lot : goal.returns-clause-first_lot
returns-clause-first_lot g c told ls h =
    let self = c.args.self.now in
    let after = c.read_next_page.new.self in
    let page = c.in_ok-page.page.items in
    let rows = lot_rows_in_closing_order self.lifo self.account self.symbol.now h.0 in
    let count : after.read ≡ self.read + length page = c.in_ok-page.ensures.counted in
    let ended : nat_lt c.len.result 4 ≡ nat_lt (length page) 4 = search rules in
    let none : drop self.page.returned self.page.rows.items ≡ [] = drop_all self.page.returned self.page.rows.items (search rules) in
    let left : ls ≡ map lot_of_row (drop self.read rows) = h.2 ∙ ap (λ p. remaining_lots p self.ended self.read rows) none ∙ ap (λ b. remaining_lots [] b self.read rows) c.if-self.false in
    let first : c.match-first.first ≡ option_map lot_of_typed_row (slice_get page 0) = elim c.match-first.branch [ in-Some w ↦ search rules | in-None w ↦ search rules ] in
    rw c.in_ok-page.ensures.same
    (turned g.S.Store after.store.now self.lifo self.account self.symbol.now h.0 (c.in_ok-page.ensures.store.same_rows h.0 h.1) self.read after.read page
    (nat_lt c.len.result 4) c.match-first.first ls
    (c.in_ok-page.ensures.rows told h.0 h.1) count ended first left)
