use Rattle.std.proofs.Common.{◌∙◌, ◌++◌, ap, map, refl}
use Rattle.brk_ref.specs.Rows.{abstract_trade_row}
use Rattle.brk_view_rows.specs.Recent.{recent_status_record, recent_trade_record}
use Rattle.brk_view_rows.proofs.Shown.{recent_shown}
use Rattle.brk_view_rows.proofs.recents.recent.Goals as goal

pub returns-clause-view : goal.returns-clause-view
returns-clause-view c = λ t account e f.
    ap (λ rows. map recent_trade_record (map abstract_trade_row c.args.trades.items) ++ map recent_status_record rows) c.in_ok-history.ensures.order
    ∙ recent_shown t account c.args.trades.items c.args.history.items e f

pub returns-clause-value : goal.returns-clause-value
returns-clause-value c = (c.in_ok-history.history, refl, c.in_ok-history.ensures.order)
