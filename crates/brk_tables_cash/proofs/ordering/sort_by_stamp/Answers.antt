use Rattle.std.proofs.Common.{◌∙◌, ap, rules}
use Rattle.brk_model.specs.Lists.{sort_by_key}
use Rattle.brk_tables_cash.proofs.InOrder.{in_turn}
use Rattle.brk_tables_cash.proofs.ordering.sort_by_stamp.Goals as goal

pub returns : goal.returns
returns c =
    record {
      order = in_turn (λ r. r.stamp) _ _ c.in_ok-sort_by_key.ensures.sorted c.in_ok-sort_by_key.ensures.stable (λ a r f k. search rules)
          ∙ ap (sort_by_key (λ r. r.stamp)) (search rules);
    }
