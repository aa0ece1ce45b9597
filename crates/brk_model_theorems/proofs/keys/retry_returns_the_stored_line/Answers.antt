use Rattle.brk_model_theorems.proofs.KeyLaws.{again}
use Rattle.brk_model_theorems.proofs.keys.retry_returns_the_stored_line.Goals as goal

pub returns : goal.returns
returns c = λ row later. again row.base row.now later row.command row.key row.reply row.after row.accepted
