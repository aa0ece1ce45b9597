-- The abstract value of a request for an explanation.
use Rattle.brk_model_explain.specs.Explain.{ExplainRequest, TradeOf, AccountOf, HoldingOf, BrokerOf}
use Rattle.brk_explain.specs.declared.parse.ExplainRequest as asked
use Rattle.brk_explain.specs.declared.parse.ExplainRequest.TheVariants as form

-- The model's request for an explanation that the program's request represents.
abbrev pub abstract_explain_request : asked.ExplainRequest → ExplainRequest
abstract_explain_request (form.Trade id) = TradeOf id
abstract_explain_request (form.Account id) = AccountOf id
abstract_explain_request (form.Holding account symbol) = HoldingOf account symbol
abstract_explain_request (form.Broker id) = BrokerOf id
