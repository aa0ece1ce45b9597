-- The facts that are read from the tables before a result is planned.
use Rattle.std.specs.Prelude.{◌≡◌, ◌≤◌, ◌<◌, ◌+◌, ℕ, ◌==◌, List, find, take, IfSome, Option, None, option_map}
use Rattle.brk_lots.specs.declared.lot.Lot.{Lot}
use Rattle.brk_model.specs.Base.{Base}
use Rattle.brk_model.specs.Joins.{account_row_with_id, security_row_with_symbol, trade_row_with_id}
use Rattle.brk_model.specs.Sheets.{sheets}
use Rattle.brk_model.specs.Tables.{Tables}
use Rattle.brk_model.specs.Tests.{first_refusal}
use Rattle.brk_money.specs.Moments.{greatest_stamp}
use Rattle.brk_trade.specs.Outcomes.{checks_before_reading_lots}
use Rattle.brk_ref.specs.Records.{abstract_account_row, abstract_broker_row, abstract_security_row}
use Rattle.brk_ref.specs.Rows.{abstract_summary_row, abstract_trade_row}
use Rattle.brk_trade.specs.declared.result_found.ResultPlanFacts.{ResultPlanFacts}
use Rattle.brk_ref.specs.declared.trade_row.TradeRow.{TradeRow}
use Rattle.brk_trade_books.specs.Books.{BooksInvariant}
use Rattle.brk_trade_books.specs.OrderReads.{PositionLotsSatisfy, CustomerOfAccountSatisfies}
use Rattle.brk_trade_books.specs.Reads.{customer_tax_rate_sum}
use Rattle.brk_trade_books.specs.TradeReads.{commission_band_of_quantity, last_cash_row_number_or_zero, summary_row_of_position}

-- ---- facts

-- The first `n` checks of the result pass, in this order: the trade is submitted, a commission rate
-- applies, and the shares that the account then holds are within the limit of a holding summary.
abbrev pub PassesFirstResultChecks : ℕ → ResultPlanFacts → Type 0
PassesFirstResultChecks n found = first_refusal (take n (checks_before_reading_lots found)) ≡ None

-- The facts `found` about a trade's result are true of the tables: commission rate, rows of
-- summary, account, broker and security, the customer's tax rate sum, first day of one-day
-- settlement, next cash row. A clause is vacuous if a check that it names fails, since its fact is
-- not read then; `rate`, `account`, `rates`, `broker`, `security` also if a row that they read is
-- missing.
pub record ResultFactsMatchTables (t : Tables) (found : ResultPlanFacts) : Type 0 where
  -- The rate of the band of quantity, customer's tier, type and exchange; `None` if none applies.
  pub rate : PassesFirstResultChecks 1 found
      → CustomerOfAccountSatisfies t found.trade.account (λ c. IfSome (security_row_with_symbol t found.trade.symbol) (λ s.
      found.listed.rate ≡ option_map (λ b. b.rate) (commission_band_of_quantity t c.tier found.trade.kind s.exchange found.trade.qty)))
  -- The summary is the account's holding summary in the symbol, or `None` if there is none.
  pub summary : PassesFirstResultChecks 2 found
      → option_map abstract_summary_row found.summary ≡ summary_row_of_position t found.trade.account found.trade.symbol
  pub account : PassesFirstResultChecks 3 found
      → IfSome (account_row_with_id t found.trade.account) (λ a. abstract_account_row found.parties.account ≡ a)
  -- The tax rates are the sum of the rates of the taxes that the customer pays.
  pub rates : PassesFirstResultChecks 3 found → IfSome (account_row_with_id t found.trade.account) (λ a. found.parties.rates ≡ customer_tax_rate_sum t a.customer)
  -- The row has the id of the account's broker.
  pub broker : PassesFirstResultChecks 3 found
      → IfSome (account_row_with_id t found.trade.account) (λ a. IfSome (find (λ r. r.id == a.broker) t.brokers) (λ b.
      abstract_broker_row found.parties.broker ≡ b))
  pub security : PassesFirstResultChecks 3 found → IfSome (security_row_with_symbol t found.trade.symbol) (λ s. abstract_security_row found.listed.security ≡ s)
  -- The first day of one-day settlement, and the number after the last cash row's, 1 without one.
  pub rule : PassesFirstResultChecks 3 found → found.posting.rule ≡ t.rule
  pub next : PassesFirstResultChecks 3 found → found.posting.next ≡ last_cash_row_number_or_zero t + 1

-- ---- lots

-- The lots of the trade's account in its symbol satisfy `given`, newest first if LIFO, or oldest.
abbrev pub TradePositionLotsSatisfy : Tables → TradeRow → (List Lot → Type 0) → Type 0
TradePositionLotsSatisfy t trade given = PositionLotsSatisfy t trade.account trade.symbol trade.is_lifo given

-- ---- a result

-- The precondition of planning the result of the trade `id`: the base satisfies the books
-- invariant, the trade with its facts (`found` is `None` if it does not exist) and the last stamp
-- are read from its tables, and `now` is within the range of stamps. If the trade exists, its
-- quantity is above 0, and, if it is submitted, its position's lots satisfy `given`.
pub record PlanResultPrecondition (base : Base) (id : ℕ) (found : Option ResultPlanFacts) (given : List Lot → Type 0) (last : Option ℕ) (now : ℕ) : Type 0 where
  pub books : BooksInvariant base
  pub trade_read : trade_row_with_id (sheets base) id ≡ option_map (λ f. abstract_trade_row f.trade) found
  pub looked_up : IfSome found (ResultFactsMatchTables (sheets base))
  pub lots_read : IfSome found (λ f. PassesFirstResultChecks 1 f → TradePositionLotsSatisfy (sheets base) f.trade given)
  pub some_shares : IfSome found (λ f. 0 < f.trade.qty)
  pub last_read : last ≡ (sheets base).last
  pub moment : now ≤ greatest_stamp
