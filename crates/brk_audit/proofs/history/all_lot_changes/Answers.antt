use Rattle.std.proofs.Common.{arith, ◌≡◌, ◌+◌, ◌-◌, ◌++◌, List, [], ◌∷◌, length, drop, take, map, sym, ap, ◌∙◌, subst, append-nil}
use Rattle.std.proofs.lemmas.List.{append_assoc, drop_all, length-drop, length-take}
use Rattle.brk_lots.specs.Chains.{abstract_deal_touch, lot_changes_of_deals}
use Rattle.brk_lots.specs.Deals.{AreDistinctAscendingDeals}
use Rattle.brk_model.specs.Shares.{Deal}
use Rattle.brk_model.specs.Tables.{HoldingHistoryRow, TradeRow}
use Rattle.brk_audit.specs.Positions.{AreLotChangesOfTrades, moves, deal_of_completed_row, untouched}
use Rattle.brk_audit.proofs.Stretches.{Stretch, deals_are, seen, stretch}
use Rattle.brk_audit.proofs.history.all_lot_changes.Goals as goal

pub append_lot_changes-requires-clause-deals : goal.append_lot_changes-requires-clause-deals
append_lot_changes-requires-clause-deals c =
    let done = c.args.done.now in
    let b = c.loop-begin.begin in
    let n = c.position_trade_count.result in
    let x = c.index-done-begin.result in
    let k : Stretch done b n x =
    stretch done b n x c.loop-begin-test.true c.index-done-begin.is c.requires.order c.requires.apart c.position_trade_count.ensures.same
    c.position_trade_count.ensures.next in
    subst AreDistinctAscendingDeals (sym (deals_are (take (b + 1 + n - b) (drop b done)) _ k.run)) k.deals

pub loop-begin-preserved : goal.loop-begin-preserved
loop-begin-preserved c =
    let done = c.args.done.now in
    let b = c.loop-begin.begin in
    let n = c.position_trade_count.result in
    let x = c.index-done-begin.result in
    let k : Stretch done b n x =
    stretch done b n x c.loop-begin-test.true c.index-done-begin.is c.requires.order c.requires.apart c.position_trade_count.ensures.same
    c.position_trade_count.ensures.next in
    let run : List TradeRow = seen x ∷ map seen (take n (drop (b + 1) done)) in
    let held : List HoldingHistoryRow = map abstract_deal_touch c.loop-begin.rows.items in
    let made : List HoldingHistoryRow = lot_changes_of_deals (map deal_of_completed_row run) [] in
    let added : map abstract_deal_touch c.append_lot_changes.new.rows.items ≡ held ++ made =
    c.in_ok-append_lot_changes.ensures.added ∙ ap (λ (ds : List Deal). held ++ lot_changes_of_deals ds []) (deals_are (take (b + 1 + n - b) (drop b done)) run k.run) in
    record {
      within = omega (arith, c.position_trade_count.ensures.within, length-take (length done - (b + 1)) (drop (b + 1) done), length-drop (b + 1) done, c.loop-begin-test.true);
      left = λ more l.
          let next : AreLotChangesOfTrades (map seen (drop b done)) (made ++ more) =
          subst (λ (rs : List TradeRow). AreLotChangesOfTrades rs (made ++ more)) (sym k.is)
          (moves (seen x) (map seen (take n (drop (b + 1) done))) (map seen (drop (b + 1 + n) done)) more k.same k.behind l) in
          subst (AreLotChangesOfTrades (map seen done)) (sym (append_assoc held made more) ∙ ap (λ (ms : List HoldingHistoryRow). ms ++ more) (sym added))
          (c.loop-begin.invariant.left (made ++ more) next);
    }

pub returns : goal.returns
returns c =
    let done = c.args.done.now in
    let held : List HoldingHistoryRow = map abstract_deal_touch c.loop-begin.rows.items in
    let none : map seen (drop c.loop-begin.begin done) ≡ [] = ap (map seen) (drop_all c.loop-begin.begin done c.loop-begin-test.false) in
    subst (AreLotChangesOfTrades (map seen done)) (append-nil held) (c.loop-begin.invariant.left [] (subst (λ (rs : List TradeRow). AreLotChangesOfTrades rs []) (sym none) untouched))
