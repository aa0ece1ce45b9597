use Rattle.std.proofs.Common.{[], ◌∷◌}
use Rattle.std.specs.Prelude.{decimal}
use Rattle.brk_money.specs.Kinds.{trade_status_code}
use Rattle.brk_model.specs.Rows.{estimate_fields, reply_fields}
use Rattle.brk_trade_plans.specs.Replies.{abstract_estimate}
use Rattle.brk_desk_commands.proofs.Joined.{added}
use Rattle.brk_desk_commands.proofs.line.ordered_line.Goals as goal

pub returns : goal.returns
unfolding reply_fields
returns c =
    added 44 (decimal c.args.ordered.now.stamp) (decimal c.args.ordered.now.trade ∷ trade_status_code c.args.ordered.now.status ∷ [])
    (estimate_fields (abstract_estimate c.args.ordered.now.estimate)) _ _ c.in_ok-line.ensures c.in_ok-append_estimate.ensures
