use Rattle.std.proofs.Common.{arith, ◌≡◌, ◌-◌, ℕ, replicate, ap, ◌∙◌}
use Rattle.brk_model.specs.Shares.{Deal, Share, lots_of_shares}
use Rattle.brk_lots.specs.Lots.{list_reversed_if_lifo}
use Rattle.brk_lots.specs.Walks.{closed_share_count}
use Rattle.brk_lots.proofs.Closed.{touched_are, values_are}
use Rattle.brk_lots.proofs.Ends.{walk_end}
use Rattle.brk_lots.proofs.Upon.{lots_closed}
use Rattle.brk_lots.proofs.closing.close_lots.Goals as goal

pub returns-clause-closed : goal.returns-clause-closed
returns-clause-closed g c ls lifo given fresh =
    let d : Deal = record { trade = c.args.trade; side = c.args.side; qty = c.args.qty; price = c.args.price; stamp = c.args.stamp; is_lifo = lifo } in
    let walk = list_reversed_if_lifo lifo ls in
    let k : ℕ = closed_share_count d.side d.qty walk in
    let u : Share = record { side = d.side; trade = d.trade; price = d.price; stamp = d.stamp } in
    let all = c.in_ok-taken.ensures.taken in
    let taken = all.3 walk given.0 (walk_end lifo ls given.1) in
    let left : c.in_ok-taken.taken.left ≡ d.qty - k = omega (arith, taken.left) in
    record {
      lots = lots_closed d ls _ _ given.1 fresh (all.1 ∙ taken.rows) (c.opened_lot.ensures ∙ ap (λ n. lots_of_shares (replicate n u)) left);
      values = taken.values ∙ values_are d ls given.1;
    }

pub returns-in_err-taken-clause-requests_at_most_touched : goal.returns-in_err-taken-clause-requests_at_most_touched
returns-in_err-taken-clause-requests_at_most_touched g c ls lifo given fresh =
    let d : Deal = record { trade = c.args.trade; side = c.args.side; qty = c.args.qty; price = c.args.price; stamp = c.args.stamp; is_lifo = lifo } in
    omega (arith, c.close_lots_with_values.ensures.requests_at_most_touched (list_reversed_if_lifo lifo ls) given.0 (walk_end lifo ls given.1), touched_are d ls given.1 fresh)

pub returns-clause-requests_at_most_touched : goal.returns-clause-requests_at_most_touched
returns-clause-requests_at_most_touched g c ls lifo given fresh =
    let d : Deal = record { trade = c.args.trade; side = c.args.side; qty = c.args.qty; price = c.args.price; stamp = c.args.stamp; is_lifo = lifo } in
    omega (arith, c.close_lots_with_values.ensures.requests_at_most_touched (list_reversed_if_lifo lifo ls) given.0 (walk_end lifo ls given.1), touched_are d ls given.1 fresh)
