use Rattle.std.proofs.Common.{◌∙◌, ap}
use Rattle.std.proofs.lemmas.Result.{IfOk-weaker}
use Rattle.brk_http_engine.specs.Lines.{first_head_lines}
use Rattle.brk_http_engine.proofs.ReplyLemmas.{digits_and_phrase, head_text}
use Rattle.brk_http_engine.proofs.replying.first_head_lines.Goals as goal

pub returns : goal.returns
returns c =
    let status = digits_and_phrase c.args.code _ _ c.as_str.ensures c.status_phrase.ensures in
    IfOk-weaker c.format.result _ _ (λ s e. e ∙ head_text _ _ c.args.len ∙ ap (λ status. first_head_lines status c.args.len) status) c.format.ensures.ok
