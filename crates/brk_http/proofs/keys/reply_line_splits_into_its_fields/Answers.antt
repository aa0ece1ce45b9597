use Rattle.std.proofs.Common.{ap, codes}
use Rattle.brk_model_http.specs.Bodies.{json_texts_object}
use Rattle.brk_http.proofs.Commas.{fields_cut}
use Rattle.brk_http.proofs.keys.reply_line_splits_into_its_fields.Goals as goal

pub returns-clause-fields : goal.returns-clause-fields
returns-clause-fields c = fields_cut

pub returns-clause-retry_body : goal.returns-clause-retry_body
returns-clause-retry_body c = λ reply. ap (json_texts_object (codes "again")) (fields_cut reply)
