use Rattle.std.proofs.Common.{◌≡◌, map, string_bytes, ◌∙◌, ap, false, refl}
use Rattle.std.proofs.lemmas.Result.{IfOk-weaker}
use Rattle.serde_json.specs.Data.{object, member, no_members}
use Rattle.serde_json.specs.View.{view}
use Rattle.serde_json.specs.Written.{has_float, compact_text}
use Rattle.brk_model_http.specs.Bodies.{json_array_of_texts, json_texts_object}
use Rattle.brk_http_engine.specs.Words.{member_name_text}
use Rattle.brk_http_engine.proofs.BodyLemmas.{list_plain}
use Rattle.brk_http_engine.proofs.bodies.texts_object.Goals as goal

pub returns : goal.returns
unfolding json_texts_object
returns c =
    let is : view c.in_ok-told.told ≡ object (member (member_name_text c.args.word) (json_array_of_texts (map string_bytes c.args.texts.now)) no_members) =
    c.in_ok-told.ensures ∙ ap (λ d. object (member (member_name_text c.args.word) d no_members)) c.in_ok-list.ensures in
    let plain : has_float (view c.in_ok-told.told) ≡ false = ap has_float is ∙ rw (list_plain (map string_bytes c.args.texts.now)) refl in
    IfOk-weaker c.to_string.result _ _ (λ s h. h plain ∙ ap compact_text is) c.to_string.ensures.text
