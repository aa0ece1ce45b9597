use Rattle.std.proofs.Common.{◌≡◌, ◌+◌, ◌*◌, ◌≤◌, ◌++◌, ℕ, List, drop, length}
use Rattle.brk_model.specs.Limits.{greatest_price}
use Rattle.brk_lots.specs.declared.lot.Lot.{Lot}
use Rattle.brk_lots.specs.declared.lot.Touch.{Touch}
use Rattle.brk_lots.specs.Position.{IsPositionInAnyOrder}
use Rattle.brk_lots.specs.Walks.{closed_share_count, touches_of_first_shares, cost_of_first_shares}
use Rattle.brk_lots.proofs.walk.close_lots_with_cost.Given as goal

-- what was done so far and what is to be done with the lots that are left are what the whole walk
-- does
abbrev pub invariant-loop-left : goal.invariant-loop-left
invariant-loop-left g l =
    record {
      leads : g.L.LotSource.leads l.fn.source l.source;
      taken : (touched : List Touch) × g.R.TouchReceiver.holds l.rows touched × (g.L.LotSource.asked l.source ≤ g.L.LotSource.asked l.fn.source + length touched)
          × (g.L.LotSource.reads_faithfully l.source → (all : List Lot) → g.L.LotSource.remaining l.fn.source all → IsPositionInAnyOrder all
          → (rest : List Lot) × g.L.LotSource.remaining l.source rest × IsPositionInAnyOrder rest
          × (l.left + closed_share_count l.side l.fn.qty all ≡ l.fn.qty + closed_share_count l.side l.left rest)
          × (touched ++ touches_of_first_shares (closed_share_count l.side l.left rest) rest ≡ touches_of_first_shares (closed_share_count l.side l.fn.qty all) all)
          × (l.cost + cost_of_first_shares (closed_share_count l.side l.left rest) rest ≡ cost_of_first_shares (closed_share_count l.side l.fn.qty all) all));
      short : l.left ≤ l.fn.qty;
      few : g.L.LotSource.asked l.source + l.left ≤ g.L.LotSource.asked l.fn.source + l.fn.qty;
      bound : l.cost + l.left * greatest_price ≤ l.fn.qty * greatest_price;
      faulted : g.L.LotSource.faulted l.source ≡ g.L.LotSource.faulted l.fn.source;
      given : g.L.LotSource.reads_faithfully l.source → (all : List Lot) → g.L.LotSource.remaining l.fn.source all → (n : ℕ) × g.L.LotSource.remaining l.source (drop n all);
    }

abbrev pub decreases-loop-left : goal.decreases-loop-left
decreases-loop-left g l = l.left
