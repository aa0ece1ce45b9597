use Rattle.std.proofs.Common.{◌≡◌, ◌∙◌, ◌+◌, ◌==◌, ℕ, List, Ok, Option, Some, None, ap, find, map, option_map, take, true}
use Rattle.std.proofs.lemmas.List.{take_all}
use Rattle.std.specs.Global.{Vec}
use Rattle.std.specs.List.{list_any}
use Rattle.std.specs.Prelude.{MatchOption, is_none}
use Rattle.brk_money.specs.declared.fault.CallFault.{CallFault}
use Rattle.brk_model.specs.Joins.{trade_row_with_id}
use Rattle.brk_model.specs.Tables.{Tables, TradeRow}
use Rattle.brk_ref.specs.Rows.{abstract_trade_row}
use Rattle.brk_ref.specs.declared.trade_row.TradeRow as row
use Rattle.brk_store_reads.proofs.Sequences.{no_reads, one_read, reads_both, reads_failed, reads_retold, unchanged_after}
use Rattle.brk_trade_books.specs.TradeReads.{AreTradesWithIds}
use Rattle.brk_store.proofs.TradesFound.{one_more, some_missing}
use Rattle.std.proofs.lemmas.Result.{err_from_is_err_and}
use Rattle.brk_store.proofs.trades_by_id.read_trades_by_ids.Goals as goal

-- the trades that were read have the first ids
abbrev FirstTrades : List ℕ → List row.TradeRow → ℕ → Tables → Type 0
FirstTrades ids trades i t = map (λ r. Some (abstract_trade_row r)) trades ≡ map (trade_row_with_id t) (take i ids)

-- what is found of the trades with some ids
abbrev AreFound : List ℕ → Option (Vec row.TradeRow) → Tables → Type 0
AreFound ids found t = MatchOption found (list_any (λ id. is_none (trade_row_with_id t id)) ids ≡ true) (λ trades. AreTradesWithIds t ids trades.items)

abbrev IsTradeOf : ℕ → Option row.TradeRow → Tables → Type 0
IsTradeOf id o t = option_map abstract_trade_row o ≡ find (λ (r : TradeRow). r.id == id) t.trades

pub loop-id-init : goal.loop-id-init
loop-id-init g c =
    no_reads g.S.Store c.args.store.now tt (λ _. FirstTrades c.args.ids.now c.new-trades.result.items 0)
    (λ t. ap (map (λ r. Some (abstract_trade_row r))) c.new-trades.ensures.items)

pub loop-id-preserved : goal.loop-id-preserved
loop-id-preserved g c =
    let ids = c.args.ids.now in
    let i = c.loop-id.id-index in
    let trade = c.in-Some.trade in
    reads_both g.S.Store c.args.store.now c.loop-id.store c.trade.new.self {H = CallFault} tt (Some trade) tt
    (λ _. FirstTrades ids c.loop-id.trades.items i) (IsTradeOf c.id-item.result) (λ _. FirstTrades ids c.push.new.self.items (i + 1))
    (λ t p e. ap (map (λ r. Some (abstract_trade_row r))) c.in_ok-push-in-Some.ensures.items
    ∙ one_more (λ r. Some (abstract_trade_row r)) (trade_row_with_id t) c.loop-id.trades.items ids i trade c.id-item.result c.loop-id-test.true c.id-item.is e p)
    c.loop-id.invariant (one_read g.S.Store c.loop-id.store c.trade.new.self (Ok (Some trade)) (IsTradeOf c.id-item.result) (rw c.in-Some.is at c.in_ok-trade.ensures.read))

pub returns-in-None : goal.returns-in-None
returns-in-None g c =
    let ids = c.args.ids.now in
    let i = c.loop-id.id-index in
    record {
      read = reads_both g.S.Store c.args.store.now c.loop-id.store c.trade.new.self {W = Option row.TradeRow} {X = Option (Vec row.TradeRow)} {H = CallFault} tt None None
          (λ _. FirstTrades ids c.loop-id.trades.items i) (IsTradeOf c.id-item.result) (AreFound ids)
          (λ t p e. some_missing (trade_row_with_id t) ids i c.id-item.result c.loop-id-test.true c.id-item.is e)
          c.loop-id.invariant (one_read g.S.Store c.loop-id.store c.trade.new.self {V = Option row.TradeRow} (Ok None) (IsTradeOf c.id-item.result) (rw c.in-None.is at c.in_ok-trade.ensures.read));
    }

pub returns : goal.returns
returns g c =
    let ids = c.args.ids.now in
    let i = c.loop-id.id-index in
    record {
      read = reads_retold g.S.Store c.args.store.now c.loop-id.store tt (Some c.loop-id.trades) (λ _. FirstTrades ids c.loop-id.trades.items i) (AreFound ids)
          (λ t p. p ∙ ap (map (trade_row_with_id t)) (take_all i ids c.loop-id-test.false))
          c.loop-id.invariant;
    }

pub returns-in_err-trade : goal.returns-in_err-trade
returns-in_err-trade g c =
    let old = c.args.store.now in
    let p = err_from_is_err_and c.from_residual.result c.from_residual.ensures.1 in
    record { read = rw p.1 (reads_failed g.S.Store old c.trade.new.self p.0 _ (unchanged_after g.S.Store old c.loop-id.store c.trade.new.self _ _ (c.loop-id.invariant.unchanged) c.in_err-trade.ensures.read)) }

pub returns-in_err-push-in-Some : goal.returns-in_err-push-in-Some
returns-in_err-push-in-Some g c =
    let old = c.args.store.now in
    let p = err_from_is_err_and c.from_residual-in_err-push-in-Some.result c.from_residual-in_err-push-in-Some.ensures.1 in
    record { read = rw p.1 (reads_failed g.S.Store old c.trade.new.self p.0 _ (unchanged_after g.S.Store old c.loop-id.store c.trade.new.self _ _ (c.loop-id.invariant.unchanged) c.in_ok-trade.ensures.read)) }
