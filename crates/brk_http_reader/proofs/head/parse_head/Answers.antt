use Rattle.std.proofs.Common.{◌≤◌, length, take, drop, ap, sym, ◌∙◌, arith}
use Rattle.std.proofs.lemmas.List.{length-map, length-take}
use Rattle.httparse.specs.Spans.{header_bytes, name_and_value}
use Rattle.brk_model_http.specs.Fields.{body_length_of_fields}
use Rattle.brk_http_reader.proofs.head.parse_head.Goals as goal

pub returns-in-Ok-Complete-clause-head : goal.returns-in-Ok-Complete-clause-head
returns-in-Ok-Complete-clause-head c =
    let found = c.in-Ok-Complete.found in
    let w = rw c.in-Ok-Complete.field-0-is at c.in-Ok-Complete.ensures.complete in
    let fields = w.1.fields in
    let few : length w.0.fields ≤ 100 =
    omega (
      arith,
      sym (length-map w.0.fields name_and_value) ∙ sym (ap length fields) ∙ length-map (take found.headers c.parse_request.new.headers) (header_bytes c.args.front.now)
          ∙ length-take found.headers c.parse_request.new.headers,
    ) in (
      w.0,
      drop found.len c.args.front.now,
      record {
        reads = w.1.reads;
        few = few;
        method = w.1.method;
        target = w.1.path;
        len = c.field_facts-fields.ensures.len ∙ ap body_length_of_fields fields;
        closes = c.is_either_true.ensures ∙ cc (w.1.version, c.field_facts-fields.ensures.closes, fields);
      },
    )
