use Rattle.std.proofs.Common.{◌∙◌}
use Rattle.brk_store_index.proofs.Ranking.{ok_so}
use Rattle.brk_store_index.proofs.terms.Terms.customer.Goals as goal

pub returns : goal.returns
returns c = ok_so _ _ c.customer.result (λ found is t are. is ∙ are.customer_rows c.args.id) c.customer.ensures
