use Rattle.brk_store_transactions.proofs.Taking.{one_answer, one_answer_by}
use Rattle.brk_store_transactions.proofs.adopting.audit_results_are_unique.Goals as goal

pub returns : goal.returns
returns c = record { of_database = one_answer; by_schema = one_answer_by }
