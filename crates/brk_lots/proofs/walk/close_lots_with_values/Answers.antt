use Rattle.std.proofs.Common.{arith, ap, ◌≡◌, ◌-◌, ◌*◌, ◌∙◌}
use Rattle.brk_lots.specs.ClosedValues.{closing_values_by_side}
use Rattle.brk_lots.specs.Walks.{closed_share_count}
use Rattle.brk_lots.proofs.walk.close_lots_with_values.Goals as goal

pub returns-in_err-walked-clause-requests_at_most_touched : goal.returns-in_err-walked-clause-requests_at_most_touched
returns-in_err-walked-clause-requests_at_most_touched g c = c.close_lots_with_cost.ensures.requests_at_most_touched

pub returns-clause-requests_at_most_touched : goal.returns-clause-requests_at_most_touched
returns-clause-requests_at_most_touched g c = c.close_lots_with_cost.ensures.requests_at_most_touched

pub returns-clause-taken : goal.returns-clause-taken
returns-clause-taken g c =
    let all = c.in_ok-walked.ensures.taken in
    let walked = c.in_ok-walked.walked in (
      all.0,
      all.1,
      all.2,
      λ ls given w.
          let r = all.3 ls given w in
          let count = closed_share_count c.args.side c.args.qty ls in
          let closed : c.get.result - walked.left ≡ count = omega (arith, c.get.ensures.value, r.left) in
          record {
            left = r.left;
            rows = r.rows;
            values = c.share_values.ensures ∙ ap (λ n. closing_values_by_side c.args.side (n * c.args.price) walked.cost) closed
                ∙ ap (λ n. closing_values_by_side c.args.side (count * c.args.price) n) r.shares;
          },
    )
