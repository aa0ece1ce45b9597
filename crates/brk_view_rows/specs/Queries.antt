-- The model's query of each typed query.
use Rattle.brk_model.specs.Queries as model
use Rattle.brk_ref_orders.specs.Records.{abstract_order}
use Rattle.brk_view_rows.specs.declared.query.Query.{Query}
use Rattle.brk_view_rows.specs.declared.query.Query.TheVariants.{Position, PositionOfTaxId, Recent, Status, Submitted, Estimate}
use Rattle.brk_view_rows.specs.declared.query.Query.TheVariants.{Trades, AccountTrades, SymbolTrades, Lots, Volume}

-- The model's query that a typed query represents: of the corresponding kind, with its values.
abbrev pub abstract_query : Query → model.Query
abstract_query (Position customer) = model.PositionOf customer
abstract_query (PositionOfTaxId tax_id) = model.PositionOfTaxId tax_id
abstract_query (Recent account) = model.RecentOf account
abstract_query (Status account) = model.StatusOf account
abstract_query Submitted = model.SubmittedTrades
abstract_query (Estimate order) = model.EstimateOf (abstract_order order)
abstract_query (Trades named) = model.TradesWith named.trades
abstract_query (AccountTrades account span) = model.TradesOfAccount account span.first span.last
abstract_query (SymbolTrades symbol span) = model.TradesOfSymbol symbol span.first span.last
abstract_query (Lots account first) = model.LotsTouched account first
abstract_query (Volume sector names) = model.VolumeOf sector names
