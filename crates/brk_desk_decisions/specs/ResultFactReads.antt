-- The facts in the tables that decide on a result.
use Rattle.std.specs.Prelude.{◌≡◌, ℕ, ◌+◌, ◌==◌, List, [], find, IfSome, Option, Some, None, option_map}
use Rattle.brk_lots.specs.Lots.{list_reversed_if_lifo}
use Rattle.brk_lots.specs.Sources.{EqualsLots}
use Rattle.brk_lots.specs.declared.lot.Lot.{Lot}
use Rattle.brk_model.specs.Joins.{trade_row_with_id}
use Rattle.brk_model.specs.Tables.{AccountRow, SecurityRow, Tables}
use Rattle.brk_ref.specs.Records.{abstract_account_row, abstract_broker_row, abstract_security_row}
use Rattle.brk_ref.specs.Rows.{abstract_trade_row}
use Rattle.brk_trade.specs.declared.result_found.Posting.{Posting}
use Rattle.brk_trade.specs.declared.result_found.ResultPlanFacts.{ResultPlanFacts}
use Rattle.brk_trade.specs.declared.result_found.TradedSecurity.{TradedSecurity}
use Rattle.brk_trade.specs.declared.result_found.TradeParties.{TradeParties}
use Rattle.brk_ref.specs.declared.trade_row.TradeRow.{TradeRow}
use Rattle.brk_trade_books.specs.Reads.{customer_tax_rate_sum}
use Rattle.brk_trade_theorems.specs.ResultPlans.{ResultFactsMatchTables}
use Rattle.brk_trade_books.specs.TradeReads.{commission_band_of_quantity, last_cash_row_number_or_zero, lots_of_position}

-- The facts `parties` of the account row `row` agree with the tables `t`: the row, the tier of its
-- customer and the sum of the customer's tax rates in hundred-thousandths, and the row of its
-- broker. The tier is specified only if the customer exists, and the broker only if it exists.
pub record PartyFactsMatchTables (t : Tables) (row : AccountRow) (parties : TradeParties) : Type 0 where
  pub account : abstract_account_row parties.account ≡ row
  pub tier : IfSome (find (λ r. r.id == row.customer) t.customers) (λ c. parties.tier ≡ c.tier)
  pub rates : parties.rates ≡ customer_tax_rate_sum t row.customer
  pub broker : IfSome (find (λ r. r.id == row.broker) t.brokers) (λ b. abstract_broker_row parties.broker ≡ b)

-- The facts `listed` of the traded security, whose row is `row`, agree with the tables `t`: the
-- row, and the commission rate, in hundredths of a percent, of the first band for the trade's
-- quantity and type, the security's exchange and the tier `tier`, or `None` if there is none.
pub record SecurityFactsMatchTables (t : Tables) (trade : TradeRow) (tier : ℕ) (row : SecurityRow) (listed : TradedSecurity) : Type 0 where
  pub security : abstract_security_row listed.security ≡ row
  pub rate : listed.rate ≡ option_map (λ b. b.rate) (commission_band_of_quantity t tier trade.kind row.exchange trade.qty)

-- The facts `posting` for a result's cash row agree with `t`: the first day of one-day settlement,
-- if set, and the next number: one more than that of the last row of CASH_MOVE, or 1 if none.
pub record PostingFactsMatchTables (t : Tables) (posting : Posting) : Type 0 where
  pub rule : posting.rule ≡ t.rule
  pub next : posting.next ≡ last_cash_row_number_or_zero t + 1

-- The facts `found` for the decision on a result are of `trade` and agree with the tables `t`.
pub record AreResultFactsOfTrade (t : Tables) (trade : TradeRow) (found : ResultPlanFacts) : Type 0 where
  pub own : found.trade ≡ trade
  pub read : ResultFactsMatchTables t found

-- The facts for the decision on a result are of the trade with the id `id` and agree with the
-- tables `t`; `None` if and only if this trade does not exist.
pub record AreResultFactsOfTradeWithId (t : Tables) (id : ℕ) (found : Option ResultPlanFacts) : Type 0 where
  pub trade : trade_row_with_id t id ≡ option_map (λ f. abstract_trade_row f.trade) found
  pub read : IfSome found (λ f. AreResultFactsOfTrade t f.trade f)

-- The lots of the position of the trade in the facts, the oldest first, or the newest first if the
-- trade closes these first (`is_lifo`). Without facts, as the trade does not exist, no lots.
abbrev pub AreLotsOfTradedPosition : Tables → Option ResultPlanFacts → List Lot → Type 0
AreLotsOfTradedPosition t None = EqualsLots []
AreLotsOfTradedPosition t (Some f) = EqualsLots (list_reversed_if_lifo f.trade.is_lifo (lots_of_position t f.trade.account f.trade.symbol))
