use Rattle.brk_money.proofs.Plain.{cents_injective}
use Rattle.brk_money.proofs.cents.amounts_have_distinct_texts.Goals as goal

pub returns : goal.returns
returns c = cents_injective
