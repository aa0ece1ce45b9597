use Rattle.std.proofs.Common.{◌≡◌, ◌∙◌, ◌++◌, ◌∷◌, [], List, Ok, ap, map, reverse, sym}
use Rattle.brk_money.specs.declared.fault.CallFault.{CallFault}
use Rattle.brk_ref.specs.Rows.{abstract_trade_row}
use Rattle.brk_ref.specs.declared.trade_row.TradeRow.{TradeRow}
use Rattle.brk_model.specs.Base.{Base}
use Rattle.brk_model.specs.Sheets.{sheets}
use Rattle.brk_model.specs.Tables.{Tables}
use Rattle.brk_store_reads.proofs.Sequences.{no_reads, one_read, reads_both, reads_failed, reads_retold, unchanged_after}
use Rattle.brk_audit_theorems.specs.Sound.{AuditInvariant}
use Rattle.brk_trade_books.specs.Books.{BooksInvariant}
use Rattle.brk_view_rows.specs.Lookup.{rows_of_looked_up_trade, table_rows_of_trade}
use Rattle.brk_view_rows.specs.declared.lookups.LookedUp.{LookedUp}
use Rattle.brk_desk_queries.specs.LookedUp.{HaveAllRowsOfTrades, HasAllRowsOfTrade}
use Rattle.brk_desk_queries.proofs.Each.{all_made, map_map, none_made, popped}
use Rattle.std.proofs.lemmas.Result.{err_from_is_err_and}
use Rattle.brk_desk_queries.proofs.lookups.look_up_trades.Goals as goal

-- trades that are left, and those after them that were looked up, are all of some
abbrev AreAll : List TradeRow → List TradeRow → List LookedUp → Tables → Type 0
AreAll trades rest found t =
    (base : Base) → BooksInvariant base → AuditInvariant base → t ≡ sheets base
    → map (λ r. table_rows_of_trade t (abstract_trade_row r)) rest ++ map rows_of_looked_up_trade (reverse found)
    ≡ map (λ r. table_rows_of_trade t (abstract_trade_row r)) trades

pub loop-trade-init : goal.loop-trade-init
loop-trade-init g c =
    let trades = c.args.trades.items in
    no_reads g.S.Store c.args.store.now tt (λ _. AreAll trades trades c.new-found.result.items)
    (λ t base books sound s. none_made (λ r. table_rows_of_trade t (abstract_trade_row r)) rows_of_looked_up_trade trades c.new-found.result.items c.new-found.ensures.items)

pub loop-trade-preserved : goal.loop-trade-preserved
loop-trade-preserved g c =
    let trades = c.args.trades.items in
    let before = c.loop-trade.rest.items in
    let rest = c.pop.new.self.items in
    let trade = c.in-Some.trade in
    let all = c.loop-trade.found.items in
    let one = c.in_ok-one.one in
    rw c.in_ok-push.ensures.items
    (reads_both g.S.Store c.args.store.now c.loop-trade.store c.look_up_trade.new.store {H = CallFault} tt one tt
    (λ _. AreAll trades before all)
    (HasAllRowsOfTrade (abstract_trade_row trade))
    (λ _. AreAll trades rest (all ++ one ∷ []))
    (λ t p e base books sound s. popped (λ r. table_rows_of_trade t (abstract_trade_row r)) rows_of_looked_up_trade before rest trade all one _
    c.in-Some.ensures.items (p base books sound s) (e base books sound s))
    c.loop-trade.invariant
    (one_read g.S.Store c.loop-trade.store c.look_up_trade.new.store (Ok one) (HasAllRowsOfTrade (abstract_trade_row trade))
    c.in_ok-one.ensures))

pub returns : goal.returns
returns g c =
    let trades = c.args.trades.items in
    let rest = c.loop-trade.rest in
    let found = c.loop-trade.found.items in
    reads_retold g.S.Store c.args.store.now c.loop-trade.store tt c.reverse.new.self
    (λ _. AreAll trades rest.items found)
    (λ found. HaveAllRowsOfTrades (map abstract_trade_row trades) found.items)
    (λ t p base books sound s. ap (map rows_of_looked_up_trade) c.reverse.ensures.items
    ∙ all_made (λ r. table_rows_of_trade t (abstract_trade_row r)) rows_of_looked_up_trade rest.items found _ (sym rest.ok.0 ∙ c.in_default.ensures.cases.0) (p base books sound s)
    ∙ sym (map_map (table_rows_of_trade t) abstract_trade_row trades))
    c.loop-trade.invariant

pub returns-in_err-one : goal.returns-in_err-one
returns-in_err-one g c =
    let old = c.args.store.now in
    let p = err_from_is_err_and c.from_residual.result c.from_residual.ensures.1 in
    rw p.1 (reads_failed g.S.Store old c.look_up_trade.new.store p.0 _
    (unchanged_after g.S.Store old c.loop-trade.store c.look_up_trade.new.store _ _ (c.loop-trade.invariant.unchanged) c.in_err-one.ensures))

pub returns-in_err-push : goal.returns-in_err-push
returns-in_err-push g c =
    let old = c.args.store.now in
    let p = err_from_is_err_and c.from_residual-in_err-push.result c.from_residual-in_err-push.ensures.1 in
    rw p.1 (reads_failed g.S.Store old c.look_up_trade.new.store p.0 _
    (unchanged_after g.S.Store old c.loop-trade.store c.look_up_trade.new.store _ _ (c.loop-trade.invariant.unchanged) c.in_ok-one.ensures))
