use Rattle.brk_view_theorems.proofs.Commissions.{broker_as_told}
use Rattle.brk_view_theorems.proofs.brokers.printed_commissions_match_broker_totals.Goals as goal

pub returns : goal.returns
returns c = broker_as_told
