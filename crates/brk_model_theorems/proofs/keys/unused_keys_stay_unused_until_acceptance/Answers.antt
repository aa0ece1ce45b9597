use Rattle.brk_model_theorems.proofs.FreeLaws.{keeps-none, was-free, stays-free, acts}
use Rattle.brk_model_theorems.proofs.keys.unused_keys_stay_unused_until_acceptance.Goals as goal

pub returns-clause-stores_nothing : goal.returns-clause-stores_nothing
returns-clause-stores_nothing c = λ row. keeps-none row.base row.now row.command row.key row.refusal row.after row.refused

pub returns-clause-key_was_unused : goal.returns-clause-key_was_unused
returns-clause-key_was_unused c = λ row. was-free row.base row.now row.command row.key row.refusal row.after row.refused

pub returns-clause-key_stays_unused : goal.returns-clause-key_stays_unused
returns-clause-key_stays_unused c = λ base later key unused run. stays-free key run.0 run.1 base later unused run.2 run.3

pub returns-clause-is_accepted_later : goal.returns-clause-is_accepted_later
returns-clause-is_accepted_later c = λ base key now command unused reply booked. acts base now command key reply booked unused
