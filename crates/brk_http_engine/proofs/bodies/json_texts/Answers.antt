use Rattle.std.proofs.Common.{◌∙◌, ap, string_bytes}
use Rattle.serde_json.specs.Data.{string}
use Rattle.serde_json.specs.View.{view}
use Rattle.brk_http_engine.proofs.OneMore.{one_more_mapped_twice, view_of_string}
use Rattle.brk_http_engine.proofs.bodies.json_texts.Goals as goal

pub loop-text-preserved : goal.loop-text-preserved
loop-text-preserved c =
    one_more_mapped_twice view string string_bytes c.args.texts.now c.loop-text.text-index c.text-item.result c.loop-text.list.items c.push.new.self.items _
    c.loop-text-test.true c.in_ok-push.ensures.items c.loop-text.invariant
    (view_of_string c.in_ok-from_str.field-0 ∙ ap string (c.in_ok-from_str.ensures.ok ∙ c.as_str.ensures.value ∙ ap string_bytes c.text-item.is))
