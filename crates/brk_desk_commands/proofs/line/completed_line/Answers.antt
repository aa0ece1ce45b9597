use Rattle.std.proofs.Common.{[], ◌∷◌, ◌++◌, ◌∙◌, ap}
use Rattle.std.specs.List.{join_with_byte}
use Rattle.std.specs.Prelude.{decimal, drop, take}
use Rattle.brk_money.specs.Spelling.{Text}
use Rattle.brk_model.specs.Rows.{completion_fields, reply_fields}
use Rattle.brk_trade_plans.specs.Replies.{abstract_completion}
use Rattle.brk_desk_commands.proofs.Joined.{added}
use Rattle.brk_desk_commands.proofs.line.completed_line.Goals as goal

pub returns : goal.returns
unfolding reply_fields
returns c =
    let n = abstract_completion c.args.completed.now in
    let stamp = decimal c.args.completed.now.stamp in
    let due_day : Text = c.as_str.result.now in
    added 44 stamp (take 4 (completion_fields n)) (drop 4 (completion_fields n)) _ _
    (added 44 stamp (take 3 (completion_fields n)) (due_day ∷ []) _ _
    (added 44 stamp [] (take 3 (completion_fields n)) _ _ c.in_ok-line.ensures c.in_ok-append_amounts.ensures) c.in_ok-append_day.ensures
    ∙ ap (λ (text : Text). join_with_byte 44 (stamp ∷ take 3 (completion_fields n) ++ text ∷ [])) (c.as_str.ensures.value ∙ c.in_ok-due_day.ensures))
    c.in_ok-append_closing_with_balance.ensures
