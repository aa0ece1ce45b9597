-- Properties of whole runs of calls.
use Rattle.std.specs.Prelude.{◌+ℤ◌, ◌≡◌, ⊤, ℕ, true, List, [], ◌∷◌, Some, map}
use Rattle.brk_lots.specs.Books.{cost_basis_of_lots, purchase_value_minus_sale_value, realised_gain_sum}
use Rattle.brk_lots.specs.Lots.{abstract_lot}
use Rattle.brk_money.specs.Spelling.{Text}
use Rattle.brk_model.specs.Base.{Base, completed_trades, is_completed, trade_with_id}
use Rattle.brk_model.specs.Commands.{CompleteTrade, Done}
use Rattle.brk_model.specs.Derived.{deals_of_position, shares_of_position}
use Rattle.brk_model.specs.Joins.{trade_row_with_id}
use Rattle.brk_model.specs.Orders.{tax_on_deal}
use Rattle.brk_model.specs.Records.{Trade}
use Rattle.brk_model.specs.Results.{deal_of_result}
use Rattle.brk_model.specs.Run.{IsOutcomeOfCall, Call, Did, Do, Outcome, Run}
use Rattle.brk_model.specs.Shares.{lots_of_shares, replay}
use Rattle.brk_model.specs.Sheets.{sheets}
use Rattle.brk_model.specs.Tables.{Tables, TradeRow}
use Rattle.brk_model.specs.Tests.{stamp_of_next_command}
use Rattle.brk_trade_books.specs.Books.{BooksInvariant}
use Rattle.brk_trade_books.specs.Sums.{TableSumsMatchTheirRows}
use Rattle.brk_trade_books.specs.TradeReads.{lots_of_position}

-- The trade with the id `id` exists in the base, is completed, and has the tax `tax`, in cents.
pub record CompletedTradeHasTax (id tax : ℕ) (base : Base) : Type 0 where
  pub trade : Trade
  pub found : trade_with_id base id ≡ Some trade
  pub completed : is_completed trade ≡ true
  pub taxed : trade.tax ≡ tax

-- The row of the trade with the id `id` exists in the tables and has the tax `tax`, in cents.
pub record TradeRowHasTax (t : Tables) (id tax : ℕ) : Type 0 where
  pub row : TradeRow
  pub found : trade_row_with_id t id ≡ Some row
  pub taxed : row.tax ≡ tax

-- The tax, in cents, of `t` if completed at `now` for `price` cents: on the gain of exactly the
-- shares that it closes, at the rates of the base; 0 without a gain or without a taxable account.
abbrev pub tax_at_completion : Base → ℕ → ℕ → Trade → ℕ
tax_at_completion base now price t =
    tax_on_deal base t.account (deal_of_result (stamp_of_next_command base now) price t)
    (shares_of_position (completed_trades base) t.account t.symbol)

-- If the call is an accepted result at `now`, its trade exists in `base`, and its row in the tables
-- `later` has the tax of its completion from `base`. Vacuous for other calls and outcomes.
abbrev pub RecordsTaxOfResult : Tables → Base → ℕ → Call → Outcome → Type 0
RecordsTaxOfResult later base now (Do (CompleteTrade id price) key) (Did (Done reply)) =
    (t : Trade) × (trade_with_id base id ≡ Some t) × TradeRowHasTax later id (tax_at_completion base now price t)
RecordsTaxOfResult later base now call outcome = ⊤

-- Each outcome is possible for its call in the base that the earlier calls reach from `base`, and
-- `later` has the tax of each accepted result. Surplus calls or outcomes are not checked.
abbrev pub RecordsTaxesOfResults : Tables → Base → List (ℕ × Call) → List Outcome → Type 0
RecordsTaxesOfResults later base (call ∷ calls) (outcome ∷ outcomes) =
    RecordsTaxOfResult later base call.0 call.1 outcome
    × ((mid : Base) × IsOutcomeOfCall base call.0 call.1 outcome mid × RecordsTaxesOfResults later mid calls outcomes)
RecordsTaxesOfResults later base calls outcomes = ⊤

-- For each account and symbol, the lots in the tables of the base are those that remain if the
-- completed trades are replayed over single shares, in the order of their completion.
abbrev pub LotsAreReplayedShares : Base → Type 0
LotsAreReplayedShares base = (account : ℕ) (symbol : Text)
    → map abstract_lot (lots_of_position (sheets base) account symbol) ≡ lots_of_shares (replay (deals_of_position (completed_trades base) account symbol))

-- For each account and symbol, the cost of the open lots, in cents, is the realised gains plus the
-- value of the purchases minus the value of the sales.
abbrev pub LotCostsMatchDeals : Base → Type 0
LotCostsMatchDeals base = (account : ℕ) (symbol : Text)
    → cost_basis_of_lots (lots_of_position (sheets base) account symbol)
    ≡ realised_gain_sum (deals_of_position (completed_trades base) account symbol) []
    +ℤ purchase_value_minus_sale_value (deals_of_position (completed_trades base) account symbol)

-- The calls can have these outcomes and lead from `base` to `after`, which satisfies the books
-- invariant; sums match their rows, results have their taxes, lots and costs follow from trades.
pub record IsRunWithSumsAndTaxes (base : Base) (calls : List (ℕ × Call)) (outcomes : List Outcome) (after : Base) : Type 0 where
  pub run : Run base calls outcomes after
  pub order : BooksInvariant after
  pub sums : TableSumsMatchTheirRows (sheets after)
  pub taxes : RecordsTaxesOfResults (sheets after) base calls outcomes
  pub lots : LotsAreReplayedShares after
  pub costs : LotCostsMatchDeals after
