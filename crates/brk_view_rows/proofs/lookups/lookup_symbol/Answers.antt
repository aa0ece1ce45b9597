use Rattle.std.specs.Prelude.{◌&&◌, bytes_eq}
use Rattle.brk_model.specs.LookupView.{row_stamp_is_between}
use Rattle.brk_view_rows.proofs.Shown.{lookup_shown}
use Rattle.brk_view_rows.proofs.lookups.lookup_symbol.Goals as goal

pub returns-clause-view : goal.returns-clause-view
returns-clause-view c = λ t symbol first last e. lookup_shown t (λ row. bytes_eq row.symbol symbol && row_stamp_is_between first last row) c.args.trades.items e
