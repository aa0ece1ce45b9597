-- The requests for explanations, their arguments, and the explanation of each.
use Rattle.std.specs.Prelude.{ℕ, List, [], ◌∷◌, Option, Some, None, Result, Ok, Err, codes}
use Rattle.brk_money.specs.Spelling.{Text}
use Rattle.brk_money.specs.declared.refusal.Refusal.{Refusal}
use Rattle.brk_money.specs.declared.refusal.Refusal.TheVariants.{BadText, NoAccount, NoBroker, NoSecurity, NoTrade}
use Rattle.brk_model.specs.Forms.{ReadResult, ◌⊛◌, read_id, read_symbol}
use Rattle.brk_model.specs.Parse.{NamedParser, parse_by_first_field, read_and_wrap}
use Rattle.brk_model.specs.Tables.{Tables, AccountRow}
use Rattle.brk_model.specs.Joins.{account_row_with_id, security_row_with_symbol, trade_row_with_id}
use Rattle.brk_model_explain.specs.Trades.{details_of_trade}
use Rattle.brk_model_explain.specs.TradeLines.{trade_explanation_lines}
use Rattle.brk_model_explain.specs.AccountLines.{account_explanation_lines}
use Rattle.brk_model_explain.specs.HoldingLines.{holding_explanation_lines}
use Rattle.brk_model_explain.specs.BrokerLines.{broker_row_with_id, broker_explanation_lines}

-- A request for an explanation of a trade, an account, a holding in a symbol, or a broker, by ids.
pub data ExplainRequest : Type 0 where
  TradeOf : (trade : ℕ) → ExplainRequest
  AccountOf : (account : ℕ) → ExplainRequest
  HoldingOf : (account : ℕ) → (symbol : Text) → ExplainRequest
  BrokerOf : (broker : ℕ) → ExplainRequest

-- The id that exactly one argument parses as, otherwise the refusal `BadText`.
abbrev pub read_single_id : List Text → ReadResult ℕ
read_single_id (id ∷ []) = read_id id
read_single_id _ = Err BadText

-- The request for a holding from exactly two arguments (account, symbol), or the refusal `BadText`.
abbrev pub read_holding_request : List Text → ReadResult ExplainRequest
read_holding_request (account ∷ symbol ∷ []) = Ok (λ a s. HoldingOf a s) ⊛ read_id account ⊛ read_symbol symbol
read_holding_request _ = Err BadText

-- The parsers of the requests, each with its kind: `trade`, `account`, `holding` or `broker`.
abbrev pub explain_request_parsers : List (NamedParser ExplainRequest)
explain_request_parsers =
    (codes "trade", read_and_wrap TradeOf read_single_id)
    ∷ (codes "account", read_and_wrap AccountOf read_single_id)
    ∷ (codes "holding", read_holding_request)
    ∷ (codes "broker", read_and_wrap BrokerOf read_single_id)
    ∷ []

-- The request that the arguments `words` parse as, the first of which names its kind; otherwise
-- `BadText`, also if the kind is unknown or takes fewer or more arguments.
unfoldable pub read_explain_request : List Text → ReadResult ExplainRequest
read_explain_request words = parse_by_first_field explain_request_parsers words

-- The lines that `lines` returns for the row, or the refusal `refusal` if there is no row.
abbrev pub lines_or_refusal : {Row : Type 0} → Refusal → (Row → List Text) → Option Row → Result (List Text) Refusal
lines_or_refusal refusal lines None = Err refusal
lines_or_refusal refusal lines (Some row) = Ok (lines row)

-- The explanation of the holding of an account in the security `symbol`, or the refusal `NoAccount`
-- if there is no account, otherwise `NoSecurity` if there is no such security.
abbrev pub holding_lines_or_refusal : Tables → Text → Option AccountRow → Result (List Text) Refusal
holding_lines_or_refusal tables symbol None = Err NoAccount
holding_lines_or_refusal tables symbol (Some a) = lines_or_refusal NoSecurity (holding_explanation_lines tables a) (security_row_with_symbol tables symbol)

-- The lines of the requested explanation, or the refusal `NoTrade`, `NoAccount`, `NoSecurity` or
-- `NoBroker` of what does not exist; for a holding, `NoAccount` is checked first.
unfoldable pub explanation : Tables → ExplainRequest → Result (List Text) Refusal
explanation tables (TradeOf trade) = lines_or_refusal NoTrade (λ u. trade_explanation_lines (details_of_trade tables u)) (trade_row_with_id tables trade)
explanation tables (AccountOf account) = lines_or_refusal NoAccount (account_explanation_lines tables) (account_row_with_id tables account)
explanation tables (HoldingOf account symbol) = holding_lines_or_refusal tables symbol (account_row_with_id tables account)
explanation tables (BrokerOf broker) = lines_or_refusal NoBroker (broker_explanation_lines tables) (broker_row_with_id tables broker)
