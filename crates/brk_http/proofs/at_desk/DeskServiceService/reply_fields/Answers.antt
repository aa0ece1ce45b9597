use Rattle.std.proofs.Common.{ap, ◌∙◌}
use Rattle.std.proofs.lemmas.Result.{IfOk-weaker}
use Rattle.brk_trade_plans.specs.Replies.{abstract_reply}
use Rattle.brk_model_http.specs.Routes.{split_at_byte}
use Rattle.brk_http.proofs.Commas.{fields_cut}
use Rattle.brk_http.proofs.at_desk.DeskServiceService.reply_fields.Goals as goal

pub returns : goal.returns
returns g c =
    IfOk-weaker c.comma_fields.result _ _
    (λ fields h. h ∙ ap (split_at_byte 44) (c.as_str.ensures.value ∙ c.in_ok-line.ensures) ∙ fields_cut (abstract_reply c.args.reply.now))
    c.comma_fields.ensures
