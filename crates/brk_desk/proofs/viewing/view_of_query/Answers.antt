use Rattle.brk_desk.proofs.viewing.view_of_query.Goals as goal

pub returns-in-Position : goal.returns-in-Position
returns-in-Position g c = rw c.in-Position.is c.customer_view.ensures

pub returns-in-PositionOfTaxId : goal.returns-in-PositionOfTaxId
returns-in-PositionOfTaxId g c = rw c.in-PositionOfTaxId.is c.customer_by_tax_id_view.ensures

pub returns-in-Recent : goal.returns-in-Recent
returns-in-Recent g c = rw c.in-Recent.is c.recent_view.ensures

pub returns-in-Status : goal.returns-in-Status
returns-in-Status g c = rw c.in-Status.is c.status_view.ensures

pub returns-in-Submitted : goal.returns-in-Submitted
returns-in-Submitted g c = rw c.in-Submitted.is c.submitted_view.ensures

pub returns-in-Estimate : goal.returns-in-Estimate
returns-in-Estimate g c = rw c.in-Estimate.is c.estimate_view.ensures

pub returns-in-Trades : goal.returns-in-Trades
returns-in-Trades g c = rw c.in-Trades.is c.trades_view.ensures

pub returns-in-AccountTrades : goal.returns-in-AccountTrades
returns-in-AccountTrades g c = rw c.in-AccountTrades.is c.account_trades_view.ensures

pub returns-in-SymbolTrades : goal.returns-in-SymbolTrades
returns-in-SymbolTrades g c = rw c.in-SymbolTrades.is c.symbol_trades_view.ensures

pub returns-in-Lots : goal.returns-in-Lots
returns-in-Lots g c = rw c.in-Lots.is c.touched_lots_view.ensures

pub returns-in-Volume : goal.returns-in-Volume
returns-in-Volume g c = rw c.in-Volume.is c.volume_view.ensures
