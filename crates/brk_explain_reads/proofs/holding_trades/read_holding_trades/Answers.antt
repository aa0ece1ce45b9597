use Rattle.std.proofs.Common.{◌≡◌, ◌∙◌, ◌+◌, ◌++◌, ◌∷◌, [], ℕ, List, Some, ap, map, sym, take}
use Rattle.std.specs.Prelude.{flat_map, option_to_list}
use Rattle.std.proofs.lemmas.List.{take_all}
use Rattle.sqlite.specs.Held.{state}
use Rattle.brk_money.specs.Spelling.{Text}
use Rattle.brk_money.specs.declared.fault.CallFault.{CallFault}
use Rattle.brk_ref.specs.Rows.{abstract_trade_row}
use Rattle.brk_ref.specs.declared.trade_row.TradeRow as trade
use Rattle.brk_model.specs.Joins.{trade_row_with_id}
use Rattle.brk_model.specs.Tables.{Tables}
use Rattle.brk_store_reads.proofs.Retelling.{retold, retold_of}
use Rattle.brk_store.proofs.WalkedLists.{trades_climb}
use Rattle.brk_model_explain.specs.Holdings as model
use Rattle.brk_explain_rows.specs.Details.{abstract_lot_details}
use Rattle.brk_explain_rows.specs.declared.holding_details.LotDetails.{LotDetails}
use Rattle.brk_explain_reads.specs.HoldingParts.{AreTradesAndLotsOfHolding, IsTradeWithLot, lot_opened_by_trade}
use Rattle.brk_explain_reads.proofs.ById.{done_known, flat_one, held_ids, lots_known}
use Rattle.brk_explain_reads.proofs.Each.{first_more, map_map, one_more}
use Rattle.brk_store_reads.proofs.Sequences.{read_with, none_read}
use Rattle.brk_explain_reads.proofs.Reading.{both_change_nothing}
use Rattle.brk_explain_reads.proofs.TermParts.{one_by_one}
use Rattle.std.proofs.lemmas.Result.{err_from_is_err_and}
use Rattle.brk_explain_reads.proofs.holding_trades.read_holding_trades.Goals as goal

abbrev found_lots : Tables → List ℕ → List model.LotDetails
found_lots t ids = flat_map (λ id. option_to_list (lot_opened_by_trade t id)) ids

-- the ids of a holding's trades, and the rows and the lots of the first of them
abbrev FirstTrades : ℕ → Text → List ℕ → List trade.TradeRow → List LotDetails → ℕ → Tables → Type 0
FirstTrades account symbol ids done lots i t =
    (ids ≡ held_ids t account symbol) × (map (λ (r : trade.TradeRow). Some (abstract_trade_row r)) done ≡ map (trade_row_with_id t) (take i ids))
    × (map abstract_lot_details lots ≡ found_lots t (take i ids))

pub loop-id-init : goal.loop-id-init
loop-id-init g c =
    retold g.S.Store c.args.store.now c.completed_trade_ids.new.self c.in_ok-ids.ids tt
    (λ all (t : Tables). all.items ≡ held_ids t c.args.account c.args.symbol.now)
    (λ _. FirstTrades c.args.account c.args.symbol.now c.deref-id-items.result.now c.new.result.items c.new-2.result.items 0)
    (λ t e. (c.deref-id-items.ensures.value ∙ e, ap (map (λ (r : trade.TradeRow). Some (abstract_trade_row r))) c.new.ensures.items, ap (map abstract_lot_details) c.new-2.ensures.items))
    c.in_ok-ids.ensures.read

pub loop-id-preserved : goal.loop-id-preserved
loop-id-preserved g c =
    let ids = c.deref-id-items.result.now in
    let i = c.loop-id.id-index in
    let id = c.id-item.result in
    let done = c.loop-id.held.done.items in
    let lots = c.loop-id.held.lots.items in
    let one = c.in_ok-one.one in
    rw c.in_ok-push_trade.ensures.done
    (read_with g.S.Store c.args.store.now c.loop-id.store c.read_trade_with_lot.new.store {H = CallFault} tt one tt
    (λ _. FirstTrades c.args.account c.args.symbol.now ids done lots i)
    (λ one (t : Tables). IsTradeWithLot t id one)
    (λ _. FirstTrades c.args.account c.args.symbol.now ids (done ++ one.trade ∷ []) c.push_trade.new.held.lots.items (i + 1))
    (λ t p e. (
      p.0,
      one_more (λ (r : trade.TradeRow). Some (abstract_trade_row r)) (trade_row_with_id t) done ids i one.trade id c.loop-id-test.true c.id-item.is (sym e.0) p.1,
      c.in_ok-push_trade.ensures.lots ∙ (λ j. p.2 j ++ option_to_list (e.1 j)) ∙ sym (flat_one (λ id. option_to_list (lot_opened_by_trade t id)) (take i ids) id)
          ∙ ap (found_lots t) (first_more ids i id c.loop-id-test.true c.id-item.is),
    ))
    c.loop-id.invariant c.in_ok-one.ensures)

pub returns : goal.returns
returns g c =
    let account = c.args.account in
    let symbol = c.args.symbol.now in
    let ids = c.deref-id-items.result.now in
    let i = c.loop-id.id-index in
    let held = c.loop-id.held in
    let all = take_all i ids c.loop-id-test.false in
    retold_of g.S.Store c.args.store.now c.loop-id.store tt held
    (λ _. FirstTrades account symbol ids held.done.items held.lots.items i)
    (λ held (t : Tables). AreTradesAndLotsOfHolding t account symbol held)
    (λ t has p. (
      one_by_one (trade_row_with_id t) ids (map abstract_trade_row held.done.items) (map_map Some abstract_trade_row held.done.items ∙ p.1 ∙ ap (map (trade_row_with_id t)) all)
          ∙ ap (flat_map (λ id. option_to_list (trade_row_with_id t id))) p.0 ∙ done_known t (trades_climb t (state g.S.Store c.args.store.now).now has) account symbol,
      p.2 ∙ ap (found_lots t) (all ∙ p.0) ∙ lots_known t (trades_climb t (state g.S.Store c.args.store.now).now has) account symbol,
    ))
    c.loop-id.invariant

pub returns-in_err-one : goal.returns-in_err-one
returns-in_err-one g c =
    let old = c.args.store.now in
    let mid = c.loop-id.store in
    let end = c.read_trade_with_lot.new.store in
    let p = err_from_is_err_and c.from_residual-in_err-one.result c.from_residual-in_err-one.ensures.1 in
    rw p.1 (none_read g.S.Store old end p.0 _ (both_change_nothing g.S.Store old mid end _ _ _ _ c.loop-id.invariant c.in_err-one.ensures))

pub returns-in_err-push_trade : goal.returns-in_err-push_trade
returns-in_err-push_trade g c =
    let old = c.args.store.now in
    let mid = c.loop-id.store in
    let end = c.read_trade_with_lot.new.store in
    let p = err_from_is_err_and c.from_residual-in_err-push_trade.result c.from_residual-in_err-push_trade.ensures.1 in
    rw p.1 (none_read g.S.Store old end p.0 _ (both_change_nothing g.S.Store old mid end _ _ _ _ c.loop-id.invariant c.in_ok-one.ensures))
