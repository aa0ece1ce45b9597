use Rattle.std.proofs.Common.{ap, sym, subst, ◌++◌, ◌∙◌}
use Rattle.std.specs.Str.{IsUtf8}
use Rattle.brk_money.specs.Spelling.{Text, day_text}
use Rattle.brk_desk_commands.proofs.Days.{day_is_text}
use Rattle.brk_desk_commands.proofs.line.day_text.Goals as goal

pub unwrap-text-requires : goal.unwrap-text-requires
unwrap-text-requires c =
    let written = c.in_ok-append_day.ensures.ok ∙ ap (λ (bytes : Text). bytes ++ day_text c.args.day) c.new-bytes.ensures.items in
    c.from_utf8.ensures.succeeds (subst IsUtf8 (sym written) (day_is_text c.args.day c.get-days.ensures.high))
