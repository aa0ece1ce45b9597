-- The definitions of the model of HTTP that the prover unfolds to compute the examples.
use Rattle.std.specs.Prelude.{⊤}
use Rattle.serde_json.proofs.OnLiterals.{serde_json_on_literals}
use Rattle.httparse.proofs.OnLiterals.{httparse_on_literals}
use Rattle.brk_model_examples.proofs.OnLiterals.{model_on_literals}
use Rattle.brk_model_http.specs.Heads.{head_length, head_end}
use Rattle.brk_model_http.specs.Bodies.{texts_of_body, json_texts_object, json_records_object, json_error_object}
use Rattle.brk_model_http.specs.Routes.{split_at_byte, route_of_target}
use Rattle.brk_model_http.specs.Replies.{reply_bytes}
use Rattle.brk_model_http.specs.Asked.{demand_of_request}

-- Proof-only: to unfold it is to unfold all definitions that the examples compute.
unfoldable pub web_on_literals : ⊤
unfolding serde_json_on_literals httparse_on_literals model_on_literals head_length head_end texts_of_body json_texts_object json_records_object
    json_error_object split_at_byte route_of_target reply_bytes demand_of_request
web_on_literals = tt
