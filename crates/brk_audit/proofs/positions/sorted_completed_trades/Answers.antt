use Rattle.std.proofs.Common.{List, map, subst}
use Rattle.std.specs.List.Sorted.{IsPermutation}
use Rattle.std.proofs.lemmas.List.Sorted.{IsPermutation-map}
use Rattle.brk_ref.specs.Rows.{abstract_trade_row}
use Rattle.brk_model.specs.Tables.{TradeRow}
use Rattle.brk_audit.proofs.positions.sorted_completed_trades.Goals as goal

pub returns-clause-done : goal.returns-clause-done
returns-clause-done c =
    let sorted = c.sort_by_position.new.done.items in
    subst (λ (rs : List TradeRow). IsPermutation rs (map (λ row. abstract_trade_row row.now) sorted)) c.in_ok-done.ensures
    (IsPermutation-map (λ row. abstract_trade_row row.now) c.in_ok-done.done.items sorted c.sort_by_position.ensures.permutation)
