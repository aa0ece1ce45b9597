-- The relation between the parts of a head that the program parsed and the specified head.
use Rattle.std.specs.Prelude.{◌≡◌, ◌≤◌, ℕ, List, map, length, ◌==◌, ◌||◌}
use Rattle.httparse.specs.Grammar.{RequestHead, ReadsRequest}
use Rattle.httparse.specs.Spans.{span_bytes, name_and_value}
use Rattle.brk_model_http.specs.Fields.{body_length_of_fields, has_connection_close}
use Rattle.brk_model_http.specs.Found.{most_head_fields}
use Rattle.brk_http_reader.specs.declared.head.HeadFacts.{HeadFacts}

-- `front` is the head `h`, of at most `most_head_fields` fields, then `rest`. `facts` locates its
-- method and target in `front`; `facts.len` is the body length in bytes by its fields, or their
-- problem; `facts.closes` is true if and only if `h` is of version 1.0 or asks to close.
pub record FactsDescribeHead (front : List ℕ) (facts : HeadFacts) (h : RequestHead) (rest : List ℕ) : Type 0 where
  pub reads : ReadsRequest front h rest
  pub few : length h.fields ≤ most_head_fields
  pub method : span_bytes front facts.method ≡ h.method
  pub target : span_bytes front facts.target ≡ h.target
  pub len : facts.len ≡ body_length_of_fields (map name_and_value h.fields)
  pub closes : facts.closes ≡ ((h.minor == 0) || has_connection_close (map name_and_value h.fields))
