-- The view of submitted trades, from the rows read, is the model's.
use Rattle.std.proofs.Common.{◌≡◌, ◌∙◌, List, Ok, sym, ap, filter, map}
use Rattle.std.specs.Global.{Vec}
use Rattle.brk_money.specs.Kinds.{is_same_trade_status}
use Rattle.brk_money.specs.declared.status.Status.TheVariants.{Submitted}
use Rattle.brk_model.specs.Ask.{view_of_base, ask, checks_of_query}
use Rattle.brk_model.specs.Queries.{SubmittedTrades}
use Rattle.brk_model.specs.Sheets.{tables_sorted_by_key}
use Rattle.brk_model.specs.StatusView.{submitted_trades_view}
use Rattle.brk_model.specs.Tables.{Tables, tables_of_base}
use Rattle.brk_model.specs.Views.{view_of_tables}
use Rattle.brk_ref.specs.Rows.{abstract_trade_row}
use Rattle.brk_ref.specs.declared.trade_row.TradeRow.{TradeRow}
use Rattle.brk_view_rows.specs.Views.{records_of_view, has_submitted_status}
use Rattle.brk_view_rows.specs.declared.view.SubmittedTrade.{SubmittedTrade}
use Rattle.brk_view_rows.specs.declared.view.View.{View}
use Rattle.brk_view_rows.specs.declared.view.View.TheVariants as views
use Rattle.brk_desk_queries.specs.QueryResults.{AnswersQueryAsModel}
use Rattle.brk_desk_queries.proofs.Tested.{carried_as}

-- the submitted rows that were read show what is at the market
pub submitted_shown : (rows given : List TradeRow) (trades : Vec SubmittedTrade) (view : View) → given ≡ rows → view ≡ views.Submitted trades
    → ((t : Tables) → map abstract_trade_row given ≡ filter has_submitted_status (tables_sorted_by_key t).trades → records_of_view view ≡ submitted_trades_view t)
    → (t : Tables) → map abstract_trade_row rows ≡ filter (λ r. is_same_trade_status r.status Submitted) t.trades → AnswersQueryAsModel SubmittedTrades (Ok view) t
unfolding ask checks_of_query view_of_base view_of_tables
submitted_shown rows given trades view e shown view_is t read = (
  λ base books sound s. ap Ok (sym (view_is (tables_of_base base) (ap (map abstract_trade_row) e ∙ read ∙ ap (λ x. filter has_submitted_status x.trades) s))),
  λ base books sound s. carried_as SubmittedTrades view (views.Submitted trades) t shown tt,
)
