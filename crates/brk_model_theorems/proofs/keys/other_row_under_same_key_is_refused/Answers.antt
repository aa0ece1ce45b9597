use Rattle.brk_model_theorems.proofs.KeyLaws.{changed}
use Rattle.brk_model_theorems.proofs.keys.other_row_under_same_key_is_refused.Goals as goal

pub returns : goal.returns
returns c = λ row later other. changed row.base row.now later row.command other row.key row.reply row.after row.accepted
