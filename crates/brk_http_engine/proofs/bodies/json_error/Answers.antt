use Rattle.std.proofs.Common.{◌≡◌, codes, ◌∙◌, ap, false}
use Rattle.std.proofs.lemmas.Result.{IfOk-weaker}
use Rattle.serde_json.specs.Data.{object, member, no_members, string}
use Rattle.serde_json.specs.View.{view}
use Rattle.serde_json.specs.Written.{has_float, compact_text}
use Rattle.brk_model_http.specs.Bodies.{json_error_object}
use Rattle.brk_http_engine.proofs.bodies.json_error.Goals as goal

pub returns : goal.returns
unfolding json_error_object
returns c =
    let is : view c.in_ok-told.told ≡ object (member (codes "error") (string c.args.words.now) no_members) =
    c.in_ok-told.ensures ∙ ap (λ d. object (member (codes "error") d no_members)) c.in_ok-text.ensures in
    let plain : has_float (view c.in_ok-told.told) ≡ false = ap has_float is in
    IfOk-weaker c.to_string.result _ _ (λ s h. h plain ∙ ap compact_text is) c.to_string.ensures.text
