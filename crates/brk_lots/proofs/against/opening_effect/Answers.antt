use Rattle.std.proofs.Common.{rules, arith, ◌≡◌, ◌-◌, [], replicate, sym, ap, ◌∙◌}
use Rattle.brk_model.specs.Shares.{Deal, Share, lots_of_shares}
use Rattle.brk_lots.specs.Lots.{list_reversed_if_lifo}
use Rattle.brk_lots.specs.Walks.{closed_share_count, touches_of_first_shares}
use Rattle.brk_lots.proofs.Unmet.{none_met_from}
use Rattle.brk_lots.proofs.Upon.{lots_closed}
use Rattle.brk_lots.proofs.Walks.{touches_none}
use Rattle.brk_lots.proofs.against.opening_effect.Goals as goal

pub returns-clause-closed : goal.returns-clause-closed
returns-clause-closed c ls lifo w fresh e =
    let d : Deal = record { trade = c.args.trade; side = c.args.side; qty = c.args.qty; price = c.args.price; stamp = c.args.stamp; is_lifo = lifo } in
    let walk = list_reversed_if_lifo lifo ls in
    let u : Share = record { side = d.side; trade = d.trade; price = d.price; stamp = d.stamp } in
    let none : closed_share_count d.side d.qty walk ≡ 0 = none_met_from lifo d.side d.qty ls w e in
    let left : c.get.result ≡ d.qty - closed_share_count d.side d.qty walk = omega (arith, none, c.get.ensures.value) in
    let rows : touches_of_first_shares (closed_share_count d.side d.qty walk) walk ≡ [] = ap (λ n. touches_of_first_shares n walk) none ∙ touches_none walk in
    record {
      lots = lots_closed d ls _ _ w fresh (search rules ∙ sym rows) (c.opened_lot.ensures ∙ ap (λ n. lots_of_shares (replicate n u)) left);
      values = c.zero_values.ensures.values d ls w e;
    }
