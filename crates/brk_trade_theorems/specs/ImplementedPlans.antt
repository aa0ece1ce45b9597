-- The conclusions of the theorems on planned cancels, feeds and results.
use Rattle.std.specs.Prelude.{◌≡◌, ◌∷◌, ◌++◌, [], true, false, ℕ, Err, List, None, Option, Some}
use Rattle.std.specs.List.{Contains, list_any}
use Rattle.brk_money.specs.declared.refusal.Refusal.{Refusal}
use Rattle.brk_money.specs.declared.status.Status.{Status}
use Rattle.brk_lots.specs.Sources.{EqualsLots}
use Rattle.brk_lots.specs.declared.lot.Lot.{Lot}
use Rattle.brk_model.specs.Base.{Base}
use Rattle.brk_model.specs.Commands.{CancelTrade, CompleteTrade, FeedTicks}
use Rattle.brk_model.specs.Step.{step}
use Rattle.brk_model.specs.Tables.{Tables}
use Rattle.brk_model.specs.Tests.{first_refusal, refusal_of_command}
use Rattle.brk_ref_orders.specs.Records.{abstract_ticks}
use Rattle.brk_ref_orders.specs.declared.tick.Tick.{Tick}
use Rattle.brk_trade_plans.specs.Cancel.{IsCancelPlan, cancel_checks}
use Rattle.brk_trade_plans.specs.Feed.{SymbolState, IsFeedPlan, feed_checks, states_of_quotes, state_of_quote, is_state_of_symbol}
use Rattle.brk_trade_plans.specs.Reference.{later_stamp_check}
use Rattle.brk_trade_plans.specs.declared.plan.Plan.{Plan}
use Rattle.brk_trade_plans.specs.declared.quote.Quote.{Quote}
use Rattle.brk_trade.specs.Results.{CompletesExistingTrade, IsResultRefusal}
use Rattle.brk_trade.specs.declared.result_found.ResultPlanFacts.{ResultPlanFacts}
use Rattle.brk_trade_books.specs.TradeReads.{last_trade_row_of_symbol}
use Rattle.brk_trade_theorems.specs.Plans.{PlanImplementsCommand}
use Rattle.brk_trade_theorems.specs.TradePlans.{AreQuotesOfTicks, IsQuoteOfTick}

-- A cancel of the trade `id` with the status `found` (`None` if it does not exist), after the last
-- stamp `last` and at `now`: its checks and `later_stamp_check` refuse it exactly as the model does
-- over `base`, and each plan of it (`IsCancelPlan`) implements the command.
pub record CancelPlanImplementsCommand (base : Base) (id : ℕ) (found : Option Status) (last : Option ℕ) (now : ℕ) : Type 0 where
  -- The refusal of the first check that refuses, or `None` if none does, equals that of the model.
  pub first : first_refusal (cancel_checks found ++ later_stamp_check last now ∷ []) ≡ refusal_of_command base now (CancelTrade id)
  -- If a check refuses, the step of the model is this refusal.
  pub refused : (refusal : Refusal) → first_refusal (cancel_checks found ++ later_stamp_check last now ∷ []) ≡ Some refusal
      → step base now (CancelTrade id) ≡ Err refusal
  pub done : (plan : Plan) → IsCancelPlan id found last now plan → PlanImplementsCommand base now (CancelTrade id) plan

-- A feed of `ticks` with the quotes `quotes`, after the last stamp `last` and at `now`: its checks,
-- at any stamp, and `later_stamp_check` refuse it exactly as the model does over `base`, and each
-- plan of it (`IsFeedPlan`) implements the command.
pub record FeedPlanImplementsCommand (base : Base) (ticks : List Tick) (quotes : List SymbolState) (last : Option ℕ) (now : ℕ) : Type 0 where
  -- The refusal of the first check that refuses at any stamp, if any, equals that of the model.
  pub first : (stamp : ℕ) → first_refusal (feed_checks stamp ticks quotes ++ later_stamp_check last now ∷ [])
      ≡ refusal_of_command base now (FeedTicks (abstract_ticks ticks))
  -- If a check refuses, the step of the model is this refusal.
  pub refused : (stamp : ℕ) (refusal : Refusal) → first_refusal (feed_checks stamp ticks quotes ++ later_stamp_check last now ∷ []) ≡ Some refusal
      → step base now (FeedTicks (abstract_ticks ticks)) ≡ Err refusal
  pub done : (plan : Plan) → IsFeedPlan ticks quotes last now plan → PlanImplementsCommand base now (FeedTicks (abstract_ticks ticks)) plan

-- In the feed `all` over `t`, `quotes` are the quotes of `ticks` followed by `tick` if one has its
-- symbol, or if this symbol has no row of LAST_TRADE. Otherwise, if `tick` is one of `all`,
-- `quotes` followed by any quote of `tick` (`IsQuoteOfTick`) are.
pub record QuotesExtendToTick (t : Tables) (all ticks : List Tick) (tick : Tick) (quotes : List Quote) : Type 0 where
  -- If the tick's symbol has a quote, no further quote is needed.
  pub again : list_any (is_state_of_symbol tick.symbol) (states_of_quotes quotes) ≡ true
      → AreQuotesOfTicks t all (ticks ++ tick ∷ []) (states_of_quotes quotes)
  -- If the tick's symbol has no row of LAST_TRADE, no further quote is needed.
  pub not_listed : last_trade_row_of_symbol t tick.symbol ≡ None → AreQuotesOfTicks t all (ticks ++ tick ∷ []) (states_of_quotes quotes)
  -- If `tick` is one of `all` and its symbol has no quote, a quote of `tick` is added.
  pub read : (quote : Quote) → list_any (is_state_of_symbol tick.symbol) (states_of_quotes quotes) ≡ false
      → Contains all tick → IsQuoteOfTick t tick all (state_of_quote quote)
      → AreQuotesOfTicks t all (ticks ++ tick ∷ []) (states_of_quotes (quotes ++ quote ∷ []))

-- A result of the trade `id` at `price` cents, with the facts `found` (`None` without the trade)
-- and the lots `lots`, after the last stamp `last` and at `now`: each refusal (`IsResultRefusal`)
-- is the refusal of the model's step over `base`, and each plan of it implements the command.
pub record ResultPlanImplementsCommand (base : Base) (id price : ℕ) (found : Option ResultPlanFacts) (lots : List Lot) (last : Option ℕ)
    (now : ℕ) : Type 0 where
  pub refused : (refusal : Refusal) → IsResultRefusal found price (EqualsLots lots) last now refusal → step base now (CompleteTrade id price) ≡ Err refusal
  pub done : (plan : Plan) → CompletesExistingTrade found price (EqualsLots lots) last now plan
      → PlanImplementsCommand base now (CompleteTrade id price) plan
