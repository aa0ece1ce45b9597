use Rattle.brk_model.specs.Lists.{contains_number}
use Rattle.brk_view_rows.proofs.Shown.{lookup_shown}
use Rattle.brk_view_rows.proofs.lookups.lookup_ids.Goals as goal

pub returns-clause-view : goal.returns-clause-view
returns-clause-view c = λ t ids e. lookup_shown t (λ row. contains_number row.id ids) c.args.trades.items e
