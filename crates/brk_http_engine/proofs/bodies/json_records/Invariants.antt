use Rattle.std.proofs.Common.{◌≡◌, map, take}
use Rattle.serde_json.specs.View.{view}
use Rattle.brk_model_http.specs.Bodies.{json_array_of_texts}
use Rattle.brk_http_engine.specs.Codes.{bytes_of_texts}
use Rattle.brk_http_engine.proofs.bodies.json_records.Given as goal

abbrev pub invariant-loop-record : goal.invariant-loop-record
invariant-loop-record l = map view l.list.items ≡ map json_array_of_texts (map bytes_of_texts (take l.record-index l.records))
