use Rattle.std.proofs.Common.{◌≡◌, codes, map, ◌∙◌, ap, false, refl}
use Rattle.std.proofs.lemmas.Result.{IfOk-weaker}
use Rattle.serde_json.specs.Data.{array, object, member, no_members}
use Rattle.serde_json.specs.View.{view, items_of}
use Rattle.serde_json.specs.Written.{has_float, compact_text}
use Rattle.brk_model_http.specs.Bodies.{json_array_of_texts, json_records_object}
use Rattle.brk_http_engine.specs.Codes.{bytes_of_texts}
use Rattle.brk_http_engine.proofs.BodyLemmas.{records_plain}
use Rattle.brk_http_engine.proofs.bodies.json_view.Goals as goal

pub returns : goal.returns
unfolding json_records_object
returns c =
    let is : view c.in_ok-told.told ≡ object (member (codes "view") (array (items_of (map json_array_of_texts (map bytes_of_texts c.args.records.now)))) no_members) =
    c.in_ok-told.ensures ∙ ap (λ d. object (member (codes "view") d no_members)) c.in_ok-list.ensures in
    let plain : has_float (view c.in_ok-told.told) ≡ false = ap has_float is ∙ rw (records_plain (map bytes_of_texts c.args.records.now)) refl in
    IfOk-weaker c.to_string.result _ _ (λ s h. h plain ∙ ap compact_text is) c.to_string.ensures.text
