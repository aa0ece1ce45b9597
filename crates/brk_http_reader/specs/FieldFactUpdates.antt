-- The facts of the fields of a head that were read so far.
use Rattle.std.specs.Prelude.{codes, ◌&&◌, ◌||◌, if◌then◌else◌, Err}
use Rattle.brk_model_http.specs.Fields.{HeadField, is_equal_ignoring_case, body_length_of_value}
use Rattle.brk_model_http.specs.declared.problem.RequestProblem.TheVariants.{BadRequest}
use Rattle.brk_http_reader.specs.declared.fields.FieldFactsSoFar.{FieldFactsSoFar}

-- The facts `s` of the head fields read so far, with one more field `p`, a name and a value:
-- whether there is a `Transfer-Encoding` (`chunked`), a `Connection: close` (`closes`) and a
-- `Content-Length` (`any_length`), and the body length in bytes, or its problem (`len`): at a
-- `Content-Length` its parsed value, or `BadRequest` if it is the second; otherwise as in `s`. The
-- case of ASCII letters in names and in `close` is ignored.
abbrev pub facts_with_field : FieldFactsSoFar → HeadField → FieldFactsSoFar
facts_with_field s p = record {
  chunked = s.chunked || is_equal_ignoring_case p.0 (codes "transfer-encoding");
  closes = s.closes || (is_equal_ignoring_case p.0 (codes "connection") && is_equal_ignoring_case p.1 (codes "close"));
  any_length = s.any_length || is_equal_ignoring_case p.0 (codes "content-length");
  len = if is_equal_ignoring_case p.0 (codes "content-length") then (if s.any_length then Err BadRequest else body_length_of_value p.1) else s.len;
}
