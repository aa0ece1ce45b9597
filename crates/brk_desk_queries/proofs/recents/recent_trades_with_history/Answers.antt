use Rattle.std.proofs.Common.{◌≡◌, ◌==◌, ◌∙◌, ◌+◌, ◌++◌, ℕ, List, ap, filter, map, sym, take}
use Rattle.std.specs.Prelude.{flat_map}
use Rattle.std.proofs.lemmas.List.{take_all}
use Rattle.brk_money.specs.declared.fault.CallFault.{CallFault}
use Rattle.brk_ref.specs.Rows.{abstract_history_row, abstract_trade_row}
use Rattle.brk_ref.specs.declared.history_row.HistoryRow.{HistoryRow}
use Rattle.brk_ref.specs.declared.trade_row.TradeRow.{TradeRow}
use Rattle.brk_model.specs.Joins.{history_rows_with_trade_id}
use Rattle.brk_model.specs.PositionView.{last_ten_trade_rows}
use Rattle.brk_model.specs.Tables as tables
use Rattle.brk_model.specs.Tables.{Tables}
use Rattle.brk_store_reads.proofs.Retelling.{retold}
use Rattle.brk_desk_queries.proofs.Each.{flat_map_map, joined_more}
use Rattle.std.proofs.lemmas.Result.{err_from_is_err_and}
use Rattle.brk_store_reads.specs.ReadSequences.{single_read_changes_nothing}
use Rattle.brk_store_reads.proofs.Sequences.{failed_after, none_read, read_with, unchanged_after}
use Rattle.brk_desk_queries.proofs.recents.recent_trades_with_history.Goals as goal

-- an account's last trades, and the history of the first of them
abbrev FirstHistory : ℕ → List TradeRow → List HistoryRow → ℕ → Tables → Type 0
FirstHistory account trades history i t =
    (map abstract_trade_row trades ≡ last_ten_trade_rows t account) × (map abstract_history_row history ≡ flat_map (λ r. history_rows_with_trade_id t (abstract_trade_row r).id) (take i trades))

pub loop-trade-init : goal.loop-trade-init
loop-trade-init g c =
    retold g.S.Store c.args.store.now c.last_ten_trades.new.self c.in_ok-trades.trades tt
    (λ all (t : Tables). map abstract_trade_row all.items ≡ last_ten_trade_rows t c.args.account)
    (λ _. FirstHistory c.args.account c.deref-trade-items.result.now c.new-history.result.items 0)
    (λ t e. (ap (map abstract_trade_row) c.deref-trade-items.ensures.value ∙ e, ap (map abstract_history_row) c.new-history.ensures.items))
    c.in_ok-trades.ensures.read

pub loop-trade-preserved : goal.loop-trade-preserved
loop-trade-preserved g c =
    let trades = c.deref-trade-items.result.now in
    let i = c.loop-trade.trade-index in
    let trade = c.trade-item.result in
    let rows = c.in_ok-rows.rows in
    let before = c.loop-trade.history.items in
    rw (c.in_ok-append_history_rows.ensures, c.deref.ensures.value)
    (read_with g.S.Store c.args.store.now c.loop-trade.store c.history_of_trade.new.self {H = CallFault} tt rows tt
    (λ _. FirstHistory c.args.account trades before i)
    (λ all (t : Tables). map abstract_history_row all.items ≡ filter (λ (r : tables.HistoryRow). r.trade == trade.id) t.history)
    (λ _. FirstHistory c.args.account trades (before ++ rows.items) (i + 1))
    (λ t p e. (p.0, joined_more abstract_history_row (λ r. history_rows_with_trade_id t (abstract_trade_row r).id) trades i trade before rows.items c.loop-trade-test.true c.trade-item.is p.1 e))
    c.loop-trade.invariant c.in_ok-rows.ensures.read)

pub returns : goal.returns
returns g c =
    let trades = c.deref-trade-items.result.now in
    let i = c.loop-trade.trade-index in
    retold g.S.Store c.args.store.now c.loop-trade.store tt (c.in_ok-trades.trades, c.loop-trade.history)
    (λ _. FirstHistory c.args.account trades c.loop-trade.history.items i)
    (λ found (t : Tables). (map abstract_trade_row found.0.items ≡ last_ten_trade_rows t c.args.account)
    × (map abstract_history_row found.1.items ≡ flat_map (λ row. history_rows_with_trade_id t row.id) (last_ten_trade_rows t c.args.account)))
    (λ t p. (
      ap (map abstract_trade_row) (sym c.deref-trade-items.ensures.value) ∙ p.0,
      p.1 ∙ ap (flat_map (λ r. history_rows_with_trade_id t (abstract_trade_row r).id)) (take_all i trades c.loop-trade-test.false)
          ∙ sym (flat_map_map (λ row. history_rows_with_trade_id t row.id) abstract_trade_row trades)
          ∙ ap (flat_map (λ (row : tables.TradeRow). history_rows_with_trade_id t row.id)) p.0,
    ))
    c.loop-trade.invariant

pub returns-in_err-rows : goal.returns-in_err-rows
returns-in_err-rows g c =
    let old = c.args.store.now in
    let p = err_from_is_err_and c.from_residual-in_err-rows.result c.from_residual-in_err-rows.ensures.1 in
    rw p.1 (failed_after g.S.Store old c.loop-trade.store c.history_of_trade.new.self _ p.0 _ _
    (single_read_changes_nothing old c.loop-trade.store _ _ c.loop-trade.invariant) c.in_err-rows.ensures.read)

pub returns-in_err-append_history_rows : goal.returns-in_err-append_history_rows
returns-in_err-append_history_rows g c =
    let old = c.args.store.now in
    let p = err_from_is_err_and c.from_residual-in_err-append_history_rows.result c.from_residual-in_err-append_history_rows.ensures.1 in
    rw p.1 (none_read g.S.Store old c.history_of_trade.new.self p.0 _
    (unchanged_after g.S.Store old c.loop-trade.store c.history_of_trade.new.self _ _
    (single_read_changes_nothing old c.loop-trade.store _ _ c.loop-trade.invariant) c.in_ok-rows.ensures.read))
