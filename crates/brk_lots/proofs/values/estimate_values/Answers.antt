use Rattle.std.proofs.Common.{arith, ◌∙◌}
use Rattle.brk_model.specs.Shares.{Deal}
use Rattle.brk_lots.specs.Lots.{list_reversed_if_lifo}
use Rattle.brk_lots.proofs.Ends.{walk_end}
use Rattle.brk_lots.proofs.Closed.{values_are, touched_are}
use Rattle.brk_lots.proofs.values.estimate_values.Goals as goal

pub returns-clause-values : goal.returns-clause-values
returns-clause-values g c ls trade stamp lifo given =
    let d : Deal = record { trade = trade; side = c.args.side; qty = c.args.qty; price = c.args.price; stamp = stamp; is_lifo = lifo } in
    (c.in_ok-taken.ensures.taken.3 (list_reversed_if_lifo lifo ls) given.0 (walk_end lifo ls given.1)).values ∙ values_are d ls given.1

pub returns-in_err-taken-clause-requests_at_most_touched : goal.returns-in_err-taken-clause-requests_at_most_touched
returns-in_err-taken-clause-requests_at_most_touched g c ls trade stamp lifo given fresh =
    let d : Deal = record { trade = trade; side = c.args.side; qty = c.args.qty; price = c.args.price; stamp = stamp; is_lifo = lifo } in
    omega (arith, c.close_lots_with_values.ensures.requests_at_most_touched (list_reversed_if_lifo lifo ls) given.0 (walk_end lifo ls given.1), touched_are d ls given.1 fresh)

pub returns-clause-requests_at_most_touched : goal.returns-clause-requests_at_most_touched
returns-clause-requests_at_most_touched g c ls trade stamp lifo given fresh =
    let d : Deal = record { trade = trade; side = c.args.side; qty = c.args.qty; price = c.args.price; stamp = stamp; is_lifo = lifo } in
    omega (arith, c.close_lots_with_values.ensures.requests_at_most_touched (list_reversed_if_lifo lifo ls) given.0 (walk_end lifo ls given.1), touched_are d ls given.1 fresh)
