use Rattle.std.proofs.Common.{rules}
use Rattle.std.proofs.lemmas.Fn.{always_returns_same}
use Rattle.brk_audit.specs.Positions.{is_before_by_position}
use Rattle.brk_audit.proofs.Places.{place_order}
use Rattle.brk_ref.specs.Rows.{abstract_trade_row}
use Rattle.brk_audit.proofs.positions.sort_by_position.Goals as goal

pub returns-clause-order : goal.returns-clause-order
returns-clause-order c =
    c.sort_unstable_by.ensures.sorted (λ one other. is_before_by_position (abstract_trade_row one.now) (abstract_trade_row other.now)) (place_order (λ row. abstract_trade_row row.now))
    (always_returns_same _ _ _ (λ a r q k. search rules))
