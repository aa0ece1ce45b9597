use Rattle.std.proofs.Common.{◌≡◌, sym, ◌∙◌}
use Rattle.std.specs.List.Sorted.{IsPermutation}
use Rattle.std.proofs.lemmas.List.Sorted.{IsPermutation-trans, IsPermutation-sym, sum_by-IsPermutation}
use Rattle.brk_lots.specs.Order.{IsOneSidedAndAscending}
use Rattle.brk_lots.proofs.Order.{Distinct, climbs_of, distinct_of, position_of, ascends_of, differ_of, distinct_by, distinct_moved, one_order}
use Rattle.brk_lots.proofs.position_checks.is_position.Goals as goal

pub returns-then-not-is_one_sided_ascending-clause-position : goal.returns-then-not-is_one_sided_ascending-clause-position
returns-then-not-is_one_sided_ascending-clause-position c =
    (λ t. let f : _ ≡ _ = t in cc, λ p. let y = c.is_one_sided_ascending.ensures.1 (climbs_of c.args.lots.now p) in sym c.if-not-is_one_sided_ascending.true ∙ y)

pub returns-clause-lots : goal.returns-clause-lots
returns-clause-lots c =
    let lots = c.args.lots.now in
    let moved = c.sort_by_trades.new.lots in
    let back = c.sort_by_stamps.new.lots in
    let climbs : IsOneSidedAndAscending lots = c.is_one_sided_ascending.ensures.0 c.if-not-is_one_sided_ascending.false in
    let same : IsPermutation lots back = IsPermutation-trans lots moved back c.sort_by_trades.ensures.permutation c.sort_by_stamps.ensures.permutation in
    one_order lots back climbs (ascends_of (λ l. l.stamp) back c.sort_by_stamps.ensures.order) (λ f. sum_by-IsPermutation f lots back same)

pub returns-clause-position : goal.returns-clause-position
returns-clause-position c =
    let lots = c.args.lots.now in
    let moved = c.sort_by_trades.new.lots in
    let climbs : IsOneSidedAndAscending lots = c.is_one_sided_ascending.ensures.0 c.if-not-is_one_sided_ascending.false in (
      λ t.
          let there : Distinct moved = distinct_by moved (ascends_of (λ l. l.trade) moved c.sort_by_trades.ensures.order) (c.neighbours_differ_in_trade-distinct.ensures.0 t) in
          position_of lots climbs (distinct_moved moved lots (IsPermutation-sym lots moved c.sort_by_trades.ensures.permutation) there),
      λ p. c.neighbours_differ_in_trade-distinct.ensures.1 (differ_of moved (distinct_moved lots moved c.sort_by_trades.ensures.permutation (distinct_of lots p))),
    )
