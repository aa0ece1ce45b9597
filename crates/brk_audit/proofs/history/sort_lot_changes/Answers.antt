use Rattle.std.proofs.Common.{rules}
use Rattle.std.proofs.lemmas.Fn.{always_returns_same}
use Rattle.brk_lots.specs.Chains.{abstract_deal_touch}
use Rattle.brk_model.specs.Keys.{holding_history_key, is_row_key_less}
use Rattle.brk_audit.proofs.Places.{key_order}
use Rattle.brk_audit.proofs.history.sort_lot_changes.Goals as goal

pub returns-clause-order : goal.returns-clause-order
returns-clause-order c =
    c.sort_unstable_by.ensures.sorted (λ one other. is_row_key_less holding_history_key (abstract_deal_touch one) (abstract_deal_touch other))
    (key_order (λ row. holding_history_key (abstract_deal_touch row)))
    (always_returns_same _ _ _ (λ a r q k. search rules))
