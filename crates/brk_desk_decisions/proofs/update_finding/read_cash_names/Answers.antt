use Rattle.std.proofs.Common.{◌≡◌, ◌∙◌, ◌+◌, ℕ, List, Some, ap, map, option_map, take}
use Rattle.std.proofs.lemmas.List.{take_all}
use Rattle.std.specs.Prelude.{string_bytes}
use Rattle.brk_money.specs.Spelling.{Text}
use Rattle.brk_money.specs.declared.fault.CallFault.{CallFault}
use Rattle.brk_model.specs.Tables.{Tables}
use Rattle.brk_trade_rows.specs.Chosen.{first_twenty_completed_cash_trade_rows_of_symbol}
use Rattle.brk_ref.specs.Rows.{abstract_trade_row}
use Rattle.brk_ref.specs.declared.trade_row.TradeRow.{TradeRow}
use Rattle.brk_trade_plans.specs.declared.corrected.CashText.{CashText}
use Rattle.brk_store_reads.proofs.Retelling.{retold}
use Rattle.brk_trade_theorems.specs.Corrections.{CashTextsMatchTables, cash_text_row_in_tables, cash_text_row_of_typed_row, cash_row_of_trade}
use Rattle.brk_store.proofs.TradesFound.{one_more, twice}
use Rattle.std.proofs.lemmas.Result.{err_from_is_err_and}
use Rattle.brk_store_reads.specs.ReadSequences.{single_read_changes_nothing}
use Rattle.brk_store_reads.proofs.Sequences.{failed_after, none_read, read_with, unchanged_after}
use Rattle.brk_desk_decisions.proofs.update_finding.read_cash_names.Goals as goal

-- what was read is of the first of the trades that are chosen
abbrev FirstPaid : Text → (first last : ℕ) → List TradeRow → List CashText → ℕ → Tables → Type 0
FirstPaid symbol first last rows paid i t =
    (map abstract_trade_row rows ≡ first_twenty_completed_cash_trade_rows_of_symbol symbol first last t)
    × (map cash_text_row_of_typed_row paid ≡ map (λ r. cash_text_row_in_tables t (abstract_trade_row r)) (take i rows))

pub loop-trade-init : goal.loop-trade-init
loop-trade-init g c =
    let span = c.args.span in
    retold g.S.Store c.args.store.now c.twenty_completed_cash_trades.new.self c.in_ok-trades.trades tt
    (λ all (t : Tables). map abstract_trade_row all.items ≡ first_twenty_completed_cash_trade_rows_of_symbol c.args.symbol.now span.first span.last t)
    (λ _. FirstPaid c.args.symbol.now span.first span.last c.deref-trade-items.result.now c.new-paid.result.items 0)
    (λ t e. (ap (map abstract_trade_row) c.deref-trade-items.ensures.value ∙ e, ap (map cash_text_row_of_typed_row) c.new-paid.ensures.items))
    c.in_ok-trades.ensures.read

pub loop-trade-preserved : goal.loop-trade-preserved
loop-trade-preserved g c =
    let span = c.args.span in
    let rows = c.deref-trade-items.result.now in
    let i = c.loop-trade.trade-index in
    let trade = c.trade-item.result in
    let name = c.in_ok-name.name in
    read_with g.S.Store c.args.store.now c.loop-trade.store c.cash_name_of.new.store {H = CallFault} tt name tt
    (λ _. FirstPaid c.args.symbol.now span.first span.last rows c.loop-trade.paid.items i)
    (λ name (t : Tables). Some (string_bytes name) ≡ option_map (λ r. r.name) (cash_row_of_trade t trade.id))
    (λ _. FirstPaid c.args.symbol.now span.first span.last rows c.push.new.self.items (i + 1))
    (λ t p e. (
      p.0,
      ap (map cash_text_row_of_typed_row) c.in_ok-push.ensures.items
          ∙ one_more cash_text_row_of_typed_row (λ r. cash_text_row_in_tables t (abstract_trade_row r)) c.loop-trade.paid.items rows i _ trade
          c.loop-trade-test.true c.trade-item.is (λ k. (trade.id, trade.kind, trade.qty, e k)) p.1,
    ))
    c.loop-trade.invariant c.in_ok-name.ensures

pub returns : goal.returns
returns g c =
    let span = c.args.span in
    let rows = c.deref-trade-items.result.now in
    let i = c.loop-trade.trade-index in
    retold g.S.Store c.args.store.now c.loop-trade.store tt c.loop-trade.paid
    (λ _. FirstPaid c.args.symbol.now span.first span.last rows c.loop-trade.paid.items i)
    (λ paid (t : Tables). CashTextsMatchTables t (first_twenty_completed_cash_trade_rows_of_symbol c.args.symbol.now span.first span.last t) paid.items)
    (λ t p. p.1 ∙ ap (map (λ r. cash_text_row_in_tables t (abstract_trade_row r))) (take_all i rows c.loop-trade-test.false)
    ∙ twice abstract_trade_row (cash_text_row_in_tables t) rows ∙ ap (map (cash_text_row_in_tables t)) p.0)
    c.loop-trade.invariant

pub returns-in_err-name : goal.returns-in_err-name
returns-in_err-name g c =
    let old = c.args.store.now in
    let p = err_from_is_err_and c.from_residual-in_err-name.result c.from_residual-in_err-name.ensures.1 in
    rw p.1 (failed_after g.S.Store old c.loop-trade.store c.cash_name_of.new.store _ p.0 _ _
    (single_read_changes_nothing old c.loop-trade.store _ _ c.loop-trade.invariant) c.in_err-name.ensures)

pub returns-in_err-push : goal.returns-in_err-push
returns-in_err-push g c =
    let old = c.args.store.now in
    let p = err_from_is_err_and c.from_residual-in_err-push.result c.from_residual-in_err-push.ensures.1 in
    rw p.1 (none_read g.S.Store old c.cash_name_of.new.store p.0 _
    (unchanged_after g.S.Store old c.loop-trade.store c.cash_name_of.new.store _ _
    (single_read_changes_nothing old c.loop-trade.store _ _ c.loop-trade.invariant) c.in_ok-name.ensures))
