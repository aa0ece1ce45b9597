use Rattle.std.proofs.Common.{◌≡◌, Some, find, option_map}
use Rattle.std.specs.Prelude.{bytes_eq}
use Rattle.brk_ref.specs.Rows.{abstract_trade_row}
use Rattle.brk_model.specs.Tables.{SecurityRow, Tables}
use Rattle.brk_ref.specs.Records.{abstract_security_row}
use Rattle.brk_store_reads.proofs.Retelling.{retold}
use Rattle.brk_view_rows.specs.Status.{rows_of_trade_status, trade_row_with_security}
use Rattle.brk_desk_queries.proofs.StatusViews.{carried_in}
use Rattle.brk_desk_queries.proofs.statuses.trade_with_security.Goals as goal

pub returns-in-Some : goal.returns-in-Some
returns-in-Some g c =
    let trade = c.args.trade in
    let security = c.in-Some.security in
    retold g.S.Store c.args.store.now c.security.new.self (Some security) (record { trade = trade; security = security })
    (λ o (t : Tables). option_map abstract_security_row o ≡ find (λ (r : SecurityRow). bytes_eq r.symbol trade.symbol) t.securities)
    (λ status (t : Tables). rows_of_trade_status status ≡ trade_row_with_security t (abstract_trade_row trade))
    (λ t e. carried_in trade security t e)
    (rw c.in-Some.is at c.in_ok-security.ensures.read)
