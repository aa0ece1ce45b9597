use Rattle.std.proofs.Common.{[]}
use Rattle.std.specs.Prelude.{drop}
use Rattle.brk_model.specs.Rows.{estimate_fields, nonnegative_cents_text, reply_fields}
use Rattle.brk_trade_plans.specs.Replies.{abstract_estimate}
use Rattle.brk_desk_commands.proofs.Joined.{added}
use Rattle.brk_desk_commands.proofs.line.estimated_line.Goals as goal

pub returns : goal.returns
unfolding reply_fields
returns c =
    added 44 (nonnegative_cents_text c.args.figures.now.price) [] (drop 1 (estimate_fields (abstract_estimate c.args.figures.now))) _ _
    c.in_ok-line.ensures c.in_ok-append_estimate_after_price.ensures
