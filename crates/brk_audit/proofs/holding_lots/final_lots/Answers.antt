use Rattle.std.proofs.Common.{arith, ◌≡◌, ◌+◌, ◌-◌, ◌++◌, List, [], ◌∷◌, length, drop, take, map, sym, ap, ◌∙◌, subst, append-nil}
use Rattle.std.proofs.lemmas.List.{append_assoc, drop_all, length-drop, length-take}
use Rattle.brk_ref.specs.Rows.{abstract_holding_row}
use Rattle.brk_lots.specs.declared.lot.Lot.{Lot}
use Rattle.brk_lots.specs.Deals.{AreDistinctAscendingDeals}
use Rattle.brk_lots.specs.Position.{IsPosition}
use Rattle.brk_lots.specs.Lots.{abstract_lot, shares_of_lots}
use Rattle.brk_lots.proofs.Ends.{walk_of}
use Rattle.brk_lots.proofs.Plain.{lots_walk}
use Rattle.brk_model.specs.Shares.{Deal, lots_of_shares, replay}
use Rattle.brk_model.specs.Tables.{HoldingRow, TradeRow}
use Rattle.brk_audit.specs.Positions.{AreLotsLeftByTrades, holding_row_in_position_of_trade, nothing, position, deal_of_completed_row, holding_rows_left_by_trades}
use Rattle.brk_audit.proofs.Stretches.{Stretch, deals_are, seen, stretch}
use Rattle.brk_audit.proofs.holding_lots.final_lots.Goals as goal

-- the lots that they leave
rows_are : (r : TradeRow) (run : List TradeRow) (deals : List Deal) (ls now : List Lot) → now ≡ ls → IsPosition ls → shares_of_lots ls ≡ replay deals
    → deals ≡ map deal_of_completed_row run → map (holding_row_in_position_of_trade r) (map abstract_lot now) ≡ holding_rows_left_by_trades r run
rows_are r run deals ls now v p e f =
    ap (λ (ms : List Lot). map (holding_row_in_position_of_trade r) (map abstract_lot ms)) v
    ∙ ap (map (holding_row_in_position_of_trade r))
    (sym (lots_walk ls (walk_of ls p)) ∙ ap lots_of_shares e ∙ ap (λ (ds : List Deal). lots_of_shares (replay ds)) f)

pub position_after-requires-clause-deals : goal.position_after-requires-clause-deals
position_after-requires-clause-deals c =
    let done = c.args.done.now in
    let b = c.loop-begin.begin in
    let n = c.position_trade_count.result in
    let x = c.index-done-begin.result in
    let k : Stretch done b n x =
    stretch done b n x c.loop-begin-test.true c.index-done-begin.is c.requires.order c.requires.apart c.position_trade_count.ensures.same
    c.position_trade_count.ensures.next in
    subst AreDistinctAscendingDeals (sym (deals_are (take (b + 1 + n - b) (drop b done)) _ k.run)) k.deals

pub loop-begin-preserved : goal.loop-begin-preserved
loop-begin-preserved c =
    let done = c.args.done.now in
    let b = c.loop-begin.begin in
    let n = c.position_trade_count.result in
    let x = c.index-done-begin.result in
    let k : Stretch done b n x =
    stretch done b n x c.loop-begin-test.true c.index-done-begin.is c.requires.order c.requires.apart c.position_trade_count.ensures.same
    c.position_trade_count.ensures.next in
    let run : List TradeRow = seen x ∷ map seen (take n (drop (b + 1) done)) in
    let held : List HoldingRow = map abstract_holding_row c.loop-begin.held.items in
    let rows : map (holding_row_in_position_of_trade (seen x)) (map abstract_lot c.lots.result.now) ≡ holding_rows_left_by_trades (seen x) run =
    rows_are (seen x) run _ c.in_ok-position.position c.lots.result.now c.lots.ensures.lots c.lots.ensures.position c.in_ok-position.ensures.shares
    (deals_are (take (b + 1 + n - b) (drop b done)) run k.run) in
    let added : map abstract_holding_row c.append_lots.new.held.items ≡ held ++ holding_rows_left_by_trades (seen x) run =
    c.in_ok-append_lots.ensures ∙ ap (λ (ms : List HoldingRow). held ++ ms) rows in
    record {
      within = omega (arith, c.position_trade_count.ensures.within, length-take (length done - (b + 1)) (drop (b + 1) done), length-drop (b + 1) done, c.loop-begin-test.true);
      left = λ more l.
          let next : AreLotsLeftByTrades (map seen (drop b done)) (holding_rows_left_by_trades (seen x) run ++ more) =
          subst (λ (rs : List TradeRow). AreLotsLeftByTrades rs (holding_rows_left_by_trades (seen x) run ++ more)) (sym k.is)
          (position (seen x) (map seen (take n (drop (b + 1) done))) (map seen (drop (b + 1 + n) done)) more k.same k.behind l) in
          subst (AreLotsLeftByTrades (map seen done))
          (sym (append_assoc held (holding_rows_left_by_trades (seen x) run) more) ∙ ap (λ (ms : List HoldingRow). ms ++ more) (sym added))
          (c.loop-begin.invariant.left (holding_rows_left_by_trades (seen x) run ++ more) next);
    }

pub returns : goal.returns
returns c =
    let done = c.args.done.now in
    let held : List HoldingRow = map abstract_holding_row c.loop-begin.held.items in
    let none : map seen (drop c.loop-begin.begin done) ≡ [] = ap (map seen) (drop_all c.loop-begin.begin done c.loop-begin-test.false) in
    subst (AreLotsLeftByTrades (map seen done)) (append-nil held) (c.loop-begin.invariant.left [] (subst (λ (rs : List TradeRow). AreLotsLeftByTrades rs []) (sym none) nothing))
