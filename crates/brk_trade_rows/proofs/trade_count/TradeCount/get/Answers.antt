use Rattle.brk_trade_rows.proofs.trade_count.TradeCount.get.Goals as goal

pub returns-clause-value : goal.returns-clause-value
returns-clause-value c = c.self.view_is
