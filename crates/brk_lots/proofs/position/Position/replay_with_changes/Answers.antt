use Rattle.std.proofs.Common.{arith, ◌≡◌, ◌+◌, ◌++◌, List, ◌∷◌, drop, map, ap, ◌∙◌, sym}
use Rattle.std.proofs.lemmas.List.{append_assoc, drop_more}
use Rattle.brk_model.specs.Shares.{Share}
use Rattle.brk_model.specs.Tables.{HoldingHistoryRow}
use Rattle.brk_lots.specs.Chains.{lot_changes_of_deal, abstract_deal_touch, lot_changes_of_deals}
use Rattle.brk_lots.specs.declared.deal.Deal.{Deal}
use Rattle.brk_lots.specs.Lots.{shares_of_lots, abstract_deal}
use Rattle.brk_lots.proofs.Deals.{older_after}
use Rattle.brk_lots.proofs.position.Position.replay_with_changes.Goals as goal

pub apply_deal-requires : goal.apply_deal-requires
apply_deal-requires c =
    let deals = c.args.deals.now in
    let i = c.loop-deal.deal-index in
    let d : Deal = c.deal-item.result in
    let e : drop i deals ≡ d ∷ drop (i + 1) deals = drop_more deals i d (omega arith) ∙ ap (λ (x : Deal). x ∷ drop (i + 1) deals) (sym c.deal-item.is) in
    let h = rw e at c.loop-deal.invariant.older in
    h.0

pub loop-deal-preserved : goal.loop-deal-preserved
loop-deal-preserved c =
    let deals = c.args.deals.now in
    let i = c.loop-deal.deal-index in
    let d : Deal = c.deal-item.result in
    let e : drop i deals ≡ d ∷ drop (i + 1) deals = drop_more deals i d (omega arith) ∙ ap (λ (x : Deal). x ∷ drop (i + 1) deals) (sym c.deal-item.is) in
    let h = rw e at c.loop-deal.invariant.older in
    let a = rw e at c.loop-deal.invariant.deals in
    let s = rw e at c.loop-deal.invariant.shares in
    let was = rw e at c.loop-deal.invariant.rows in
    let t = c.in_ok-apply_deal.ensures.shares in
    let d' = abstract_deal d in
    let us = shares_of_lots c.loop-deal.position in
    let rest = map abstract_deal (drop (i + 1) deals) in
    record {
      rows = ap (λ (rs : List HoldingHistoryRow). rs ++ lot_changes_of_deals rest (shares_of_lots c.apply_deal.new.self)) c.in_ok-apply_deal.ensures.rows
          ∙ append_assoc (map abstract_deal_touch c.loop-deal.rows.items) (lot_changes_of_deal d' us) (lot_changes_of_deals rest (shares_of_lots c.apply_deal.new.self))
          ∙ ap (λ (vs : List Share). map abstract_deal_touch c.loop-deal.rows.items ++ (lot_changes_of_deal d' us ++ lot_changes_of_deals rest vs)) t
          ∙ was;
      deals = a.1;
      older = rw t (older_after d' rest us a.0 h.1);
      shares = rw t s;
    }
