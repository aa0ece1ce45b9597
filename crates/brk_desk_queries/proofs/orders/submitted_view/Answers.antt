use Rattle.std.proofs.Common.{◌≡◌, Ok, filter, map}
use Rattle.brk_money.specs.Kinds.{is_same_trade_status}
use Rattle.brk_money.specs.declared.status.Status.TheVariants.{Submitted}
use Rattle.brk_model.specs.Queries.{SubmittedTrades}
use Rattle.brk_model.specs.Tables.{Tables, TradeRow}
use Rattle.brk_ref.specs.Rows.{abstract_trade_row}
use Rattle.brk_store_reads.proofs.Retelling.{retold}
use Rattle.brk_desk_queries.specs.QueryResults.{AnswersQueryAsModel}
use Rattle.brk_desk_queries.proofs.OrderViews.{submitted_shown}
use Rattle.brk_desk_queries.proofs.orders.submitted_view.Goals as goal

pub returns-in-Ok : goal.returns-in-Ok
returns-in-Ok g c =
    let rows = c.in_ok-rows.rows in
    let view = c.in-Ok.view in
    retold g.S.Store c.args.store.now c.submitted_trades.new.self rows (Ok view)
    (λ all (t : Tables). map abstract_trade_row all.items ≡ filter (λ (r : TradeRow). is_same_trade_status r.status Submitted) t.trades) (AnswersQueryAsModel SubmittedTrades)
    (submitted_shown rows.items _ c.in-Ok.ensures.value.0 view c.deref.ensures.value c.in-Ok.ensures.value.1 c.in-Ok.ensures.view)
    c.in_ok-rows.ensures.read
