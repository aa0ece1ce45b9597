use Rattle.brk_explain.proofs.explaining.write_explanation.Goals as goal

pub returns-in-Trade : goal.returns-in-Trade
returns-in-Trade g c = record { explained = rw c.in-Trade.is c.write_trade.ensures.told }

pub returns-in-Account : goal.returns-in-Account
returns-in-Account g c = record { explained = rw c.in-Account.is c.write_account.ensures.told }

pub returns-in-Holding : goal.returns-in-Holding
returns-in-Holding g c = record { explained = rw c.in-Holding.is c.write_holding.ensures.told }

pub returns-in-Broker : goal.returns-in-Broker
returns-in-Broker g c = record { explained = rw c.in-Broker.is c.write_broker.ensures.told }
