use Rattle.std.proofs.Common.{sym}
use Rattle.serde_json.specs.View.{view}
use Rattle.brk_http_engine.proofs.BodyLemmas.{list_read, no_array, not_utf8}
use Rattle.brk_http_engine.proofs.bodies.texts_of_body.Goals as goal

pub returns-in_default : goal.returns-in_default
returns-in_default c = sym (not_utf8 c.args.body.now c.in_default.ensures.cases.0)

pub returns-in-Some : goal.returns-in-Some
returns-in-Some c =
    list_read c.args.body.now c.in-Ok.text.now c.in-Ok-from_str.value c.in-Some.values.now.items c.texts_of_values.result c.in-Ok.ensures.cases.0 c.in-Ok.ensures.cases.1 c.in-Ok-from_str.ensures.ok
    c.in-Some.ensures (rw c.deref.ensures.value at c.texts_of_values.ensures.found) (rw c.deref.ensures.value at c.texts_of_values.ensures.none)

pub returns : goal.returns
returns c = no_array c.args.body.now c.in-Ok.text.now (view c.in-Ok-from_str.value) c.in-Ok.ensures.cases.0 c.in-Ok.ensures.cases.1 c.in-Ok-from_str.ensures.ok c.in-None.ensures
