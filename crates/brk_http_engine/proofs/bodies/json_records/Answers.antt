use Rattle.std.proofs.Common.{◌∙◌, ap, map, string_bytes}
use Rattle.serde_json.specs.View.{view}
use Rattle.brk_model_http.specs.Bodies.{json_array_of_texts}
use Rattle.brk_http_engine.specs.Codes.{bytes_of_texts}
use Rattle.brk_http_engine.proofs.OneMore.{one_more_mapped_twice}
use Rattle.brk_http_engine.proofs.bodies.json_records.Goals as goal

pub loop-record-preserved : goal.loop-record-preserved
loop-record-preserved c =
    one_more_mapped_twice view json_array_of_texts bytes_of_texts c.args.records.now c.loop-record.record-index c.record-item.result c.loop-record.list.items c.push.new.self.items _
    c.loop-record-test.true c.in_ok-push.ensures.items c.loop-record.invariant
    (c.in_ok-json_texts.ensures ∙ ap (λ texts. json_array_of_texts (map string_bytes texts)) c.deref.ensures.value
    ∙ ap (λ r. json_array_of_texts (bytes_of_texts r)) c.record-item.is)
