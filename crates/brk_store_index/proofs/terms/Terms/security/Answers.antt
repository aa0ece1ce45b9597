use Rattle.std.proofs.Common.{◌∙◌}
use Rattle.brk_store_index.proofs.Ranking.{ok_so}
use Rattle.brk_store_index.proofs.terms.Terms.security.Goals as goal

pub returns : goal.returns
returns c = ok_so _ _ c.security.result (λ found is t are. is ∙ are.security_rows c.args.symbol.now) c.security.ensures
