-- The view of each query over the tables.
use Rattle.std.specs.Prelude.{◌&&◌, ◌==◌, Option, Some, None, bytes_eq}
use Rattle.brk_model.specs.Lists.{contains_number}
use Rattle.brk_model.specs.Tables.{Tables}
use Rattle.brk_model.specs.Queries.{View, Query, PositionOf, PositionOfTaxId, RecentOf, StatusOf, SubmittedTrades, EstimateOf, TradesWith, TradesOfAccount}
use Rattle.brk_model.specs.Queries.{TradesOfSymbol, LotsTouched, VolumeOf}
use Rattle.brk_model.specs.PositionView.{customer_position_view, recent_trades_view}
use Rattle.brk_model.specs.StatusView.{trade_status_view, submitted_trades_view}
use Rattle.brk_model.specs.LookupView.{trade_lookup_view, row_stamp_is_between, touched_lots_of_oldest_trade}
use Rattle.brk_model.specs.VolumeView.{broker_volume_view}

-- The view of the query over the tables `tables`; none if the query asks for an estimate.
unfoldable pub view_of_tables : Tables → Query → Option View
view_of_tables tables (PositionOf customer) = Some (customer_position_view tables (λ c. c.id == customer))
view_of_tables tables (PositionOfTaxId tax_id) = Some (customer_position_view tables (λ c. bytes_eq c.tax_id tax_id))
view_of_tables tables (RecentOf account) = Some (recent_trades_view tables account)
view_of_tables tables (StatusOf account) = Some (trade_status_view tables account)
view_of_tables tables SubmittedTrades = Some (submitted_trades_view tables)
view_of_tables tables (EstimateOf order) = None
view_of_tables tables (TradesWith ids) = Some (trade_lookup_view tables (λ t. contains_number t.id ids))
view_of_tables tables (TradesOfAccount account first last) = Some (trade_lookup_view tables (λ t. (t.account == account) && row_stamp_is_between first last t))
view_of_tables tables (TradesOfSymbol symbol first last) = Some (trade_lookup_view tables (λ t. bytes_eq t.symbol symbol && row_stamp_is_between first last t))
view_of_tables tables (LotsTouched account first) = Some (touched_lots_of_oldest_trade tables account first)
view_of_tables tables (VolumeOf sector names) = Some (broker_volume_view tables sector names)
