use Rattle.std.proofs.Common.{◌≡◌, ◌++◌, [], drop, map}
use Rattle.std.specs.Prelude.{fold}
use Rattle.std.specs.List.{AllByRecursion}
use Rattle.brk_model.specs.Shares.{replay, shares_after_deal}
use Rattle.brk_lots.specs.Chains.{abstract_deal_touch, lot_changes_of_deals}
use Rattle.brk_lots.specs.Deals.{AreDistinctAscendingDeals}
use Rattle.brk_lots.specs.Lots.{shares_of_lots, abstract_deal}
use Rattle.brk_lots.proofs.Deals.{IsOlder}
use Rattle.brk_lots.proofs.position.Position.replay_with_changes.Given as goal

-- the deals that are left lead from the position so far to that after all
abbrev pub invariant-loop-deal : goal.invariant-loop-deal
invariant-loop-deal l =
    let rest = map abstract_deal (drop l.deal-index l.deals) in
    record {
      deals : AreDistinctAscendingDeals rest;
      older : AllByRecursion (λ d. AllByRecursion (IsOlder d) (shares_of_lots l.position)) rest;
      shares : fold shares_after_deal (shares_of_lots l.position) rest ≡ replay (map abstract_deal l.deals);
      rows : map abstract_deal_touch l.rows.items ++ lot_changes_of_deals rest (shares_of_lots l.position) ≡ map abstract_deal_touch l.fn.rows.items
          ++ lot_changes_of_deals (map abstract_deal l.deals) [];
    }
