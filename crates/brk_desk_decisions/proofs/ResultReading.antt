-- The parties, the security, the summary and the posting of a trade make the facts of its result.
use Rattle.std.proofs.Common.{◌≡◌, ◌==◌, ◌∙◌, ℕ, Option, Some, None, ap, find, option_map, refl, subst, sym}
use Rattle.std.specs.Prelude.{IfSome}
use Rattle.brk_model.specs.Joins.{account_row_with_id, security_row_with_symbol, trade_row_with_id}
use Rattle.brk_model.specs.Records.{Customer}
use Rattle.brk_model.specs.Tables.{AccountRow, BrokerRow, SecurityRow, Tables}
use Rattle.brk_ref.specs.declared.account.AccountRow as ref
use Rattle.brk_ref.specs.declared.broker.BrokerRow as broker_row
use Rattle.brk_ref.specs.declared.customer.Customer as customer
use Rattle.brk_ref.specs.Records.{abstract_account_row, abstract_broker_row, abstract_security_row}
use Rattle.brk_ref.specs.Rows.{abstract_summary_row, abstract_trade_row}
use Rattle.brk_trade.specs.declared.result_found.Posting.{Posting}
use Rattle.brk_trade.specs.declared.result_found.ResultPlanFacts.{ResultPlanFacts}
use Rattle.brk_trade.specs.declared.result_found.TradedSecurity.{TradedSecurity}
use Rattle.brk_trade.specs.declared.result_found.TradeParties.{TradeParties}
use Rattle.brk_ref.specs.declared.summary_row.SummaryRow as summary
use Rattle.brk_ref.specs.declared.trade_row.TradeRow.{TradeRow}
use Rattle.brk_trade_books.specs.Reads.{customer_tax_rate_sum}
use Rattle.brk_trade_books.specs.TradeReads.{commission_band_of_quantity, summary_row_of_position}
use Rattle.brk_store_required.specs.Required.{IsBrokerWithId, IsCustomerWithId}
use Rattle.brk_desk_decisions.specs.ResultFactReads.{PartyFactsMatchTables, AreResultFactsOfTradeWithId, AreResultFactsOfTrade, SecurityFactsMatchTables, PostingFactsMatchTables}

-- what holds of what is there leads to what holds of it
if_there : {X : Type 0} (o : Option X) (P Q : X → Type 0) → ((x : X) → P x → Q x) → IfSome o P → IfSome o Q
if_there None P Q f p = tt
if_there (Some x) P Q f p = f x p

-- The row of an account with its customer's tier, the sum of the customer's tax rates, and the row
-- of its broker.
abbrev pub parties_of_rows : ref.AccountRow → customer.Customer → ℕ → broker_row.BrokerRow → TradeParties
parties_of_rows row customer rates broker = record {
  account = row;
  broker = broker;
  tier = customer.tier;
  rates = rates;
}

pub parties_known : (t : Tables) (row : ref.AccountRow) (customer : customer.Customer) (rates : ℕ) (broker : broker_row.BrokerRow) → IsCustomerWithId t row.account.customer customer
    → rates ≡ customer_tax_rate_sum t row.account.customer → IsBrokerWithId t row.account.broker broker
    → PartyFactsMatchTables t (abstract_account_row row) (parties_of_rows row customer rates broker)
parties_known t row customer rates broker k e n = record {
  account = refl;
  tier = subst (λ x. IfSome x (λ (c : Customer). customer.tier ≡ c.tier)) (sym k) refl;
  rates = e;
  broker = subst (λ x. IfSome x (λ (b : BrokerRow). abstract_broker_row broker ≡ b)) (sym n) refl;
}

-- The facts for the decision on a result: the trade, its parties, its security, its summary, and the
-- facts of its posting.
abbrev pub result_facts_with : TradeRow → TradeParties → TradedSecurity → Option summary.SummaryRow → Posting → ResultPlanFacts
result_facts_with trade parties listed summary posting = record {
  trade = trade;
  parties = parties;
  summary = summary;
  listed = listed;
  posting = posting;
}

module _ (t : Tables) (trade : TradeRow) (parties : TradeParties) (listed : TradedSecurity) (held : Option summary.SummaryRow) where
  -- If the account of the trade exists, the facts of its parties equal those of the tables. Vacuous
  -- otherwise.
  abbrev pub PartyFactsMatchIfAccountExists : Type 0
  PartyFactsMatchIfAccountExists = IfSome (account_row_with_id t trade.account) (λ a. PartyFactsMatchTables t a parties)

  -- If the security of the trade exists, its facts equal those of the tables. Vacuous otherwise.
  abbrev pub SecurityFactsMatchIfSecurityExists : Type 0
  SecurityFactsMatchIfSecurityExists = IfSome (security_row_with_symbol t trade.symbol) (λ s. SecurityFactsMatchTables t trade parties.tier s listed)

  of_owner : PartyFactsMatchIfAccountExists → (Q : AccountRow → Type 0) → ((a : AccountRow) → PartyFactsMatchTables t a parties → Q a) → IfSome (account_row_with_id t trade.account) Q
  of_owner k Q f = if_there (account_row_with_id t trade.account) (λ a. PartyFactsMatchTables t a parties) Q f k

  of_security : SecurityFactsMatchIfSecurityExists → (Q : SecurityRow → Type 0)
      → ((s : SecurityRow) → SecurityFactsMatchTables t trade parties.tier s listed → Q s) → IfSome (security_row_with_symbol t trade.symbol) Q
  of_security k Q f = if_there (security_row_with_symbol t trade.symbol) (λ s. SecurityFactsMatchTables t trade parties.tier s listed) Q f k

  -- If the security of the trade exists, its rate is that of the band for the customer's tier.
  -- Vacuous otherwise.
  abbrev RateMatchesForCustomer : Customer → Type 0
  RateMatchesForCustomer c = IfSome (security_row_with_symbol t trade.symbol) (λ s. listed.rate ≡ option_map (λ b. b.rate) (commission_band_of_quantity t c.tier trade.kind s.exchange trade.qty))

  rate_at : SecurityFactsMatchIfSecurityExists → (c : Customer) → parties.tier ≡ c.tier → RateMatchesForCustomer c
  rate_at k c e =
      of_security k (λ s. listed.rate ≡ option_map (λ b. b.rate) (commission_band_of_quantity t c.tier trade.kind s.exchange trade.qty))
      (λ s l. l.rate ∙ ap (λ tier. option_map (λ b. b.rate) (commission_band_of_quantity t tier trade.kind s.exchange trade.qty)) e)

  -- `held` is the summary of the trade's account and security, or `None` if there is none.
  abbrev pub SummaryMatches : Type 0
  SummaryMatches = option_map abstract_summary_row held ≡ summary_row_of_position t trade.account trade.symbol

  pub found_known : (posting : Posting) → PartyFactsMatchIfAccountExists → SecurityFactsMatchIfSecurityExists → SummaryMatches
      → PostingFactsMatchTables t posting → AreResultFactsOfTrade t trade (result_facts_with trade parties listed held posting)
  found_known posting owner security summary posted = record {
    own = refl;
    read = record {
      rate = λ p. of_owner owner (λ a. IfSome (find (λ r. r.id == a.customer) t.customers) RateMatchesForCustomer)
          (λ a k. if_there (find (λ r. r.id == a.customer) t.customers) (λ c. parties.tier ≡ c.tier) RateMatchesForCustomer (rate_at security) k.tier);
      summary = λ p. summary;
      account = λ p. of_owner owner (λ a. abstract_account_row parties.account ≡ a) (λ a k. k.account);
      rates = λ p. of_owner owner (λ a. parties.rates ≡ customer_tax_rate_sum t a.customer) (λ a k. k.rates);
      broker = λ p. of_owner owner (λ a. IfSome (find (λ r. r.id == a.broker) t.brokers) (λ b. abstract_broker_row parties.broker ≡ b)) (λ a k. k.broker);
      security = λ p. of_security security (λ s. abstract_security_row listed.security ≡ s) (λ s l. l.security);
      rule = λ p. posted.rule;
      next = λ p. posted.next;
    };
  }

-- of a trade that was found with its row
pub there : (t : Tables) (id : ℕ) (row : TradeRow) (found : ResultPlanFacts) → Some (abstract_trade_row row) ≡ trade_row_with_id t id
    → AreResultFactsOfTrade t row found → AreResultFactsOfTradeWithId t id (Some found)
there t id row found e k = record {
  trade = sym e ∙ ap (λ r. Some (abstract_trade_row r)) (sym k.own);
  read = subst (λ r. AreResultFactsOfTrade t r found) (sym k.own) k;
}
