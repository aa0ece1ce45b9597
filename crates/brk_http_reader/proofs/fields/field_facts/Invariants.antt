use Rattle.std.proofs.Common.{◌≡◌, ◌≤◌, map, take, IfOk}
use Rattle.httparse.specs.Spans.{header_bytes}
use Rattle.brk_model_http.specs.Fields.{most_body_bytes}
use Rattle.brk_http_reader.proofs.FieldLemmas.{facts_of_fields}
use Rattle.brk_http_reader.proofs.fields.field_facts.Given as goal

abbrev pub invariant-loop-header : goal.invariant-loop-header
invariant-loop-header l = (l.seen ≡ facts_of_fields (map (header_bytes l.front) (take l.header-index l.headers))) × IfOk l.seen.len (λ n. n ≤ most_body_bytes)
