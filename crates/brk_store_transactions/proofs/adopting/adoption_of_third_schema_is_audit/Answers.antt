use Rattle.brk_store_transactions.proofs.Taking.{third_audited}
use Rattle.brk_store_transactions.proofs.adopting.adoption_of_third_schema_is_audit.Goals as goal

pub returns : goal.returns
returns g c = λ old new result t adopted holds. third_audited g.S.Store old new result adopted t holds
