-- A result is refused by the facts as in the base.
use Rattle.std.proofs.Common.{◌≡◌, ◌≤◌, ℕ, ◌+◌, ◌*◌, ◌==◌, ◌&&◌, Bool, true, false, not, cond, List, [], ◌∷◌, ◌++◌, refl, sym, subst, ◌∙◌, ap, length, ℤ, pos, ◌+ℤ◌, ◌-ℤ◌, Option, Some, None}
use Rattle.std.specs.Prelude.{is_some, is_none, nat_abs, nat_lt, option_map, unwrap_or, find, IfSome}
use Rattle.std.specs.Option.{option_map_or}
use Rattle.std.proofs.lemmas.Bool.{eqb-true}
use Rattle.brk_lots.specs.Values.{closing_values_of_deal}
use Rattle.brk_lots.specs.declared.closed_values.Values.{Values}
use Rattle.brk_model.specs.Base as base_spec
use Rattle.brk_model.specs.Base.{Base, commission_band_for_quantity, is_taxable_status, broker_id_of_account, broker_with_id, completed_trades}
use Rattle.brk_model.specs.Base.{customer_id_of_account, exchange_of_security, has_last_status, last_status_change, security_name, security_with_symbol}
use Rattle.brk_model.specs.Base.{is_withholding_status, tax_status_in_accounts, tier_of_account, trade_with_id}
use Rattle.brk_model.specs.Commands.{CompleteTrade}
use Rattle.brk_model.specs.Derived as derived
use Rattle.brk_model.specs.Derived.{balance_of_account, commission_total_of_broker, due_day_of_completion_stamp, postings_of_base, signed_proceeds}
use Rattle.brk_model.specs.Derived.{shares_of_position, holding_summary_quantity, trade_count_of_broker}
use Rattle.brk_model.specs.Joins.{account_row_with_id, security_row_with_symbol}
use Rattle.brk_model.specs.Limits.{greatest_amount, greatest_summary_quantity}
use Rattle.brk_model.specs.Records.{Account, Band, Broker, StatusChange, Security, Trade}
use Rattle.brk_model.specs.Results.{trade_after_completion, deal_of_result, base_after_result}
use Rattle.brk_model.specs.Shares.{realised_gain, signed_by_side}
use Rattle.brk_model.specs.Sheets.{sheets, tables_sorted_by_key}
use Rattle.brk_model.specs.Tables.{AccountRow, BrokerRow, SecurityRow, SummaryRow, TradeRow, broker_row, security_row, last_status_of_trade, tables_of_base_in_schema, trade_row}
use Rattle.brk_model.specs.Tests as model
use Rattle.brk_model.specs.Tests.{RefusalCheck, first_refusal, stamp_of_next_command, refusal_of_command, checks_of_command}
use Rattle.brk_money.specs.Amounts.{commission, tax}
use Rattle.brk_money.specs.Kinds.{is_same_trade_status, side_of_trade_type}
use Rattle.brk_money.specs.Moments.{greatest_day, greatest_stamp, stamp_after}
use Rattle.brk_money.specs.declared.refusal.Limit.TheVariants as limit
use Rattle.brk_money.specs.declared.refusal.Refusal.TheVariants.{ClockEnd, NoRate, NoTrade, Range, TooEarly, WrongStatus}
use Rattle.brk_money.specs.declared.status.Status.TheVariants.{Canceled, Submitted}
use Rattle.brk_money.specs.declared.tax_status.TaxStatus.{TaxStatus}
use Rattle.brk_money.specs.declared.tax_status.TaxStatus.TheVariants.{Untaxed}
use Rattle.brk_trade.specs.Outcomes.{settlement_amount_of_result, balance_after_result, commission_of_result, broker_commissions_after_result, due_day_check}
use Rattle.brk_trade.specs.Outcomes.{quantity_in_summary, result_checks, shares_held_after_trade, shares_held_before_trade, tax_of_result}
use Rattle.brk_ref.specs.Records.{abstract_account_row, abstract_broker_row, abstract_security_row}
use Rattle.brk_ref.specs.Rows.{abstract_summary_row, abstract_trade_row}
use Rattle.brk_ref.specs.declared.summary_row.SummaryRow as summary
use Rattle.brk_trade.specs.declared.result_found.ResultPlanFacts.{ResultPlanFacts}
use Rattle.brk_model.specs.Names.{AccountOfTradeExists, BrokerOfAccountExists, SecurityOfTradeExists}
use Rattle.brk_trade_books.specs.Books.{BooksInvariant}
use Rattle.brk_trade_books.specs.OrderReads.{CustomerOfAccountSatisfies}
use Rattle.brk_trade_books.specs.Reads.{customer_tax_rate_sum}
use Rattle.brk_trade_theorems.specs.ResultPlans.{ResultFactsMatchTables, PassesFirstResultChecks}
use Rattle.brk_trade_books.specs.TradeReads.{commission_band_of_quantity, summary_row_of_position}
use Rattle.brk_trade_books.proofs.Holding.{held_read}
use Rattle.brk_trade_books.proofs.Same.{find-All}
use Rattle.brk_trade_books.proofs.MoveReading.{reads_last_move}
use Rattle.brk_trade_books.proofs.Places.{FoundAt, find-at, some_of}
use Rattle.brk_trade_books.proofs.Reading.{is_none-map, reads_broker}
use Rattle.brk_trade_books.proofs.TermReading.{reads_rates, reads_security}
use Rattle.brk_trade_books.proofs.BandReading.{reads_band}
use Rattle.brk_trade_theorems.proofs.OrderFinding.{Alike, OwnerFound, of_account, of_customer, owner_found, same_first, tier_found}
use Rattle.brk_trade_theorems.proofs.Planning.{clock_read}
use Rattle.brk_trade_books.proofs.ResultKeeping.{Found, found_at}
use Rattle.brk_trade_books.proofs.ResultRows.{IsResult}
use Rattle.brk_trade_books.proofs.ResultSums.{balance_grows, balance_stays, commissions_grow, summary_grows}
use Rattle.brk_trade_books.proofs.Tested.{not_not}
use Rattle.brk_trade_theorems.proofs.TradePlanning.{stamp_read}

-- ---- a trade that was found

-- its row, and that what it names is there
pub record TradeFound (base : Base) (t : Trade) (found : ResultPlanFacts) : Type 0 where
  pub books : BooksInvariant base
  pub row : abstract_trade_row found.trade ≡ trade_row t
  pub read : ResultFactsMatchTables (sheets base) found
  pub owner : OwnerFound base t.account
  pub listed : Security
  pub listed_is : security_with_symbol base t.symbol ≡ Some listed

pub trade_found : (base : Base) (id : ℕ) (t : Trade) (found : ResultPlanFacts) → BooksInvariant base → trade_with_id base id ≡ Some t → abstract_trade_row found.trade ≡ trade_row t
    → ResultFactsMatchTables (sheets base) found → TradeFound base t found
trade_found base id t found books e row read =
    let s = some_of (security_with_symbol base t.symbol) (find-All (SecurityOfTradeExists base) (λ u. u.id == id) base.trades t books.securities e) in
    record {
      books = books;
      row = row;
      read = read;
      owner = owner_found base t.account books (find-All (AccountOfTradeExists base) (λ u. u.id == id) base.trades t books.accounts e);
      listed = s.0;
      listed_is = s.1;
    }

-- ---- what was found of it

pub passes_status : (found : ResultPlanFacts) → not (is_same_trade_status found.trade.status Submitted) ≡ false → PassesFirstResultChecks 1 found
passes_status found a = rw a refl

pub passes_rate : (found : ResultPlanFacts) → not (is_same_trade_status found.trade.status Submitted) ≡ false → is_none found.listed.rate ≡ false → PassesFirstResultChecks 2 found
passes_rate found a b = rw (a, b) refl

pub passes_summary : (found : ResultPlanFacts) → not (is_same_trade_status found.trade.status Submitted) ≡ false → is_none found.listed.rate ≡ false
    → nat_lt greatest_summary_quantity (nat_abs (shares_held_after_trade found)) ≡ false → PassesFirstResultChecks 3 found
passes_summary found a b c = rw (a, b, c) refl

rate_read : (base : Base) (t : Trade) (found : ResultPlanFacts) → TradeFound base t found → PassesFirstResultChecks 1 found
    → found.listed.rate ≡ option_map (λ b. b.rate) (commission_band_for_quantity base (tier_of_account base t.account) t.kind (exchange_of_security base t.symbol) t.qty)
rate_read base t found k p =
    let exchange : exchange_of_security base t.symbol ≡ k.listed.exchange = ap (λ x. option_map_or (λ s. s.exchange) x []) k.listed_is in
    let row : security_row_with_symbol (sheets base) t.symbol ≡ Some (security_row k.listed) = reads_security base t.symbol ∙ ap (option_map security_row) k.listed_is in
    let told = subst (λ (r : TradeRow). CustomerOfAccountSatisfies (sheets base) r.account (λ c. IfSome (security_row_with_symbol (sheets base) r.symbol) (λ s.
    found.listed.rate ≡ option_map (λ b. b.rate) (commission_band_of_quantity (sheets base) c.tier r.kind s.exchange r.qty)))) k.row (k.read.rate p) in
    subst (λ x. IfSome x (λ s. found.listed.rate ≡ option_map (λ b. b.rate) (commission_band_of_quantity (sheets base) k.owner.c.tier t.kind s.exchange t.qty))) row
    (of_customer base t.account
    (λ c. IfSome (security_row_with_symbol (sheets base) t.symbol)
    (λ s. found.listed.rate ≡ option_map (λ b. b.rate) (commission_band_of_quantity (sheets base) c.tier t.kind s.exchange t.qty))) k.owner told)
    ∙ ap (option_map (λ b. b.rate)) (reads_band base k.owner.c.tier t.kind k.listed.exchange t.qty k.books
    ∙ (λ i. commission_band_for_quantity base (sym (tier_found base t.account k.owner) i) t.kind (sym exchange i) t.qty))

-- the number in a summary, which is that of its row
number_in : (o : Option summary.SummaryRow) → option_map (λ (r : summary.SummaryRow). r.qty) o ≡ option_map (λ (r : SummaryRow). r.qty) (option_map abstract_summary_row o)
number_in None = refl
number_in (Some r) = refl

pub summary_found : (base : Base) (t : Trade) (found : ResultPlanFacts) → TradeFound base t found → PassesFirstResultChecks 2 found
    → quantity_in_summary found ≡ option_map (λ r. r.qty) (summary_row_of_position (sheets base) t.account t.symbol)
summary_found base t found k p =
    number_in found.summary
    ∙ ap (option_map (λ r. r.qty))
    (subst (λ (r : TradeRow). option_map abstract_summary_row found.summary ≡ summary_row_of_position (sheets base) r.account r.symbol) k.row (k.read.summary p))

pub held_found : (base : Base) (t : Trade) (found : ResultPlanFacts) → TradeFound base t found → PassesFirstResultChecks 2 found
    → shares_held_before_trade found ≡ holding_summary_quantity (completed_trades base) t.account t.symbol
held_found base t found k p =
    held_read base t.account t.symbol (quantity_in_summary found) k.books (ap is_some k.owner.there) (ap is_some k.listed_is) (summary_found base t found k p)

-- The columns of an account's row that a result takes.
pub record AccountTerms : Type 0 where
  pub broker : ℕ
  pub tax_status : TaxStatus
  pub balance : ℤ

-- The terms in the row of an account.
abbrev pub terms_of_row : AccountRow → AccountTerms
terms_of_row a = record { broker = a.broker; tax_status = a.tax_status; balance = a.balance }

-- an account, as the definitions have it
abbrev pub account_is : Base → Trade → AccountTerms
account_is base t = record {
  broker = broker_id_of_account base t.account;
  tax_status = tax_status_in_accounts base.accounts t.account;
  balance =
      balance_of_account base.accounts (postings_of_base base) t.account;
}

account_id : (base : Base) (account : ℕ) (f : OwnerFound base account) → f.a.id ≡ account
account_id base account f = let g : FoundAt Account (λ a. a.id == account) f.a base.accounts = find-at (λ a. a.id == account) base.accounts f.a f.there in eqb-true f.a.id account g.passes

pub account_found : (base : Base) (t : Trade) (found : ResultPlanFacts) → TradeFound base t found → PassesFirstResultChecks 3 found
    → terms_of_row (abstract_account_row found.parties.account) ≡ account_is base t
account_found base t found k p =
    ap terms_of_row (of_account base t.account (λ a. abstract_account_row found.parties.account ≡ a) k.owner
    (subst (λ (r : TradeRow). IfSome (account_row_with_id (sheets base) r.account) (λ a. abstract_account_row found.parties.account ≡ a)) k.row (k.read.account p)))
    ∙ (λ i. record {
      broker = sym (ap (λ x. option_map_or (λ a. a.broker) x 0) k.owner.there) i;
      tax_status = sym (ap (λ x. option_map_or (λ a. a.tax_status) x Untaxed) k.owner.there) i;
      balance = balance_of_account base.accounts (postings_of_base base) (account_id base t.account k.owner i);
    })

rates_found : (base : Base) (t : Trade) (found : ResultPlanFacts) → TradeFound base t found → PassesFirstResultChecks 3 found
    → found.parties.rates ≡ base_spec.tax_rate_sum_of_customer base (customer_id_of_account base t.account)
rates_found base t found k p =
    of_account base t.account (λ a. found.parties.rates ≡ customer_tax_rate_sum (sheets base) a.customer) k.owner
    (subst (λ (r : TradeRow). IfSome (account_row_with_id (sheets base) r.account) (λ a. found.parties.rates ≡ customer_tax_rate_sum (sheets base) a.customer)) k.row (k.read.rates p))
    ∙ reads_rates base k.owner.a.customer ∙ ap (base_spec.tax_rate_sum_of_customer base) (sym (ap (λ x. option_map_or (λ a. a.customer) x 0) k.owner.there))

pub broker_found : (base : Base) (t : Trade) (found : ResultPlanFacts) → TradeFound base t found → PassesFirstResultChecks 3 found
    → (found.parties.broker.trades ≡ pos (trade_count_of_broker base.accounts (completed_trades base) (broker_id_of_account base t.account)))
    × (found.parties.broker.commissions ≡ commission_total_of_broker base.accounts (completed_trades base) (broker_id_of_account base t.account))
broker_found base t found k p =
    let a : Account = k.owner.a in
    let named = some_of (broker_with_id base a.broker) (find-All (BrokerOfAccountExists base) (λ x. x.id == t.account) base.accounts a k.books.brokers k.owner.there) in
    let b : Broker = named.0 in
    let g : FoundAt Broker (λ b. b.id == a.broker) b base.brokers = find-at (λ b. b.id == a.broker) base.brokers b named.1 in
    let same : b.id ≡ broker_id_of_account base t.account = eqb-true b.id a.broker g.passes ∙ sym (ap (λ x. option_map_or (λ a. a.broker) x 0) k.owner.there) in
    let row = reads_broker base a.broker ∙ ap (option_map (broker_row base.accounts (completed_trades base))) named.1 in
    let told = subst (λ x. IfSome x (λ r. abstract_broker_row found.parties.broker ≡ r)) row
    (of_account base t.account (λ a. IfSome (find (λ r. r.id == a.broker) (sheets base).brokers) (λ r. abstract_broker_row found.parties.broker ≡ r)) k.owner
    (subst (λ (r : TradeRow). IfSome (account_row_with_id (sheets base) r.account) (λ a. IfSome (find (λ r. r.id == a.broker) (sheets base).brokers) (λ b.
    abstract_broker_row found.parties.broker ≡ b))) k.row (k.read.broker p))) in (
      ap (λ (r : BrokerRow). r.trades) told ∙ ap (λ id. pos (trade_count_of_broker base.accounts (completed_trades base) id)) same,
      ap (λ (r : BrokerRow). r.commissions) told ∙ ap (commission_total_of_broker base.accounts (completed_trades base)) same,
    )

pub security_found : (base : Base) (t : Trade) (found : ResultPlanFacts) → TradeFound base t found → PassesFirstResultChecks 3 found → found.listed.security.name ≡ security_name base t.symbol
security_found base t found k p =
    let row : security_row_with_symbol (sheets base) t.symbol ≡ Some (security_row k.listed) = reads_security base t.symbol ∙ ap (option_map security_row) k.listed_is in
    ap (λ (s : SecurityRow). s.name) (subst (λ x. IfSome x (λ s. abstract_security_row found.listed.security ≡ s)) row
    (subst (λ (r : TradeRow). IfSome (security_row_with_symbol (sheets base) r.symbol) (λ s. abstract_security_row found.listed.security ≡ s)) k.row (k.read.security p)))
    ∙ sym (ap (λ x. option_map_or (λ s. s.name) x []) k.listed_is)

pub rule_found : (base : Base) (t : Trade) (found : ResultPlanFacts) → TradeFound base t found → PassesFirstResultChecks 3 found → found.posting.rule ≡ base.rule
unfolding tables_of_base_in_schema tables_sorted_by_key
rule_found base t found k p = k.read.rule p

pub next_found : (base : Base) (t : Trade) (found : ResultPlanFacts) → TradeFound base t found → PassesFirstResultChecks 3 found → found.posting.next ≡ length (postings_of_base base) + 1
next_found base t found k p = k.read.next p ∙ ap (λ n. n + 1) (reads_last_move base)

-- ---- what follows from it

-- the values of the shares that the trade closes
abbrev pub result_values : Base → ℕ → ℕ → Trade → Values
result_values base stamp price t = closing_values_of_deal (deal_of_result stamp price t) (shares_of_position (completed_trades base) t.account t.symbol)

band_rate : (b : Option Band) (rate : Option ℕ) (qty price : ℕ) → rate ≡ option_map (λ b. b.rate) b → is_none rate ≡ false
    → commission (unwrap_or rate 0) qty price ≡ unwrap_or (option_map (λ b. commission b.rate qty price) b) 0
band_rate None rate qty price e h = let k : true ≡ false = sym (ap is_none e) ∙ h in absurd (cc)
band_rate (Some b) rate qty price e h = ap (λ r. commission (unwrap_or r 0) qty price) e

pub commission_read : (base : Base) (stamp price : ℕ) (t : Trade) (found : ResultPlanFacts) → TradeFound base t found → PassesFirstResultChecks 1 found → is_none found.listed.rate ≡ false
    → commission_of_result found price ≡ (trade_after_completion base stamp price t).commission
unfolding trade_after_completion
commission_read base stamp price t found k p h =
    ap (λ (r : TradeRow). commission (unwrap_or found.listed.rate 0) r.qty price) k.row
    ∙ band_rate (commission_band_for_quantity base (tier_of_account base t.account) t.kind (exchange_of_security base t.symbol) t.qty) found.listed.rate t.qty price (rate_read base t found k p) h

pub tax_read : (base : Base) (stamp price : ℕ) (t : Trade) (found : ResultPlanFacts) → TradeFound base t found → PassesFirstResultChecks 3 found
    → tax_of_result found (result_values base stamp price t) ≡ (trade_after_completion base stamp price t).tax
unfolding trade_after_completion
tax_read base stamp price t found k p =
    let g : ℤ = realised_gain (deal_of_result stamp price t) (shares_of_position (completed_trades base) t.account t.symbol) in
    λ i. cond (is_taxable_status (account_found base t found k p i).tax_status) (tax g (rates_found base t found k p i)) 0

pub amount_read : (base : Base) (stamp price : ℕ) (t : Trade) (found : ResultPlanFacts) → TradeFound base t found → PassesFirstResultChecks 3 found
    → is_none found.listed.rate ≡ false → PassesFirstResultChecks 1 found
    → settlement_amount_of_result found price (result_values base stamp price t) ≡ derived.settlement_amount base.accounts (trade_after_completion base stamp price t)
unfolding trade_after_completion
amount_read base stamp price t found k p h q =
    let c = commission_read base stamp price t found k q h in
    let x = tax_read base stamp price t found k p in
    let a = account_found base t found k p in
    λ i. let r : TradeRow = k.row i in
    signed_proceeds (side_of_trade_type r.kind) (r.qty * price) -ℤ pos (r.charge + c i + cond (is_withholding_status (a i).tax_status) (x i) 0)

pub balance_read : (base : Base) (stamp price : ℕ) (t : Trade) (xs ys : List Trade) (found : ResultPlanFacts) → TradeFound base t found → IsResult base stamp price t xs ys
    → PassesFirstResultChecks 3 found → is_none found.listed.rate ≡ false → PassesFirstResultChecks 1 found
    → balance_after_result found price (result_values base stamp price t) ≡ balance_of_account base.accounts (postings_of_base (base_after_result base stamp price t)) t.account
balance_read base stamp price t xs ys found k r p h q =
    (λ i. cond (k.row i).is_cash ((a i).balance +ℤ m i) (a i).balance) ∙ by_cash t.is_cash refl
  where
    a : terms_of_row (abstract_account_row found.parties.account) ≡ account_is base t
    a = account_found base t found k p

    m : settlement_amount_of_result found price (result_values base stamp price t) ≡ derived.settlement_amount base.accounts (trade_after_completion base stamp price t)
    m = amount_read base stamp price t found k p h q

    by_cash : (b : Bool) → t.is_cash ≡ b
        → cond t.is_cash (balance_of_account base.accounts (postings_of_base base) t.account +ℤ derived.settlement_amount base.accounts
        (trade_after_completion base stamp price t)) (balance_of_account base.accounts (postings_of_base base) t.account)
        ≡ balance_of_account base.accounts (postings_of_base (base_after_result base stamp price t)) t.account
    by_cash true e =
        ap (λ b. cond b (balance_of_account base.accounts (postings_of_base base) t.account +ℤ derived.settlement_amount base.accounts
        (trade_after_completion base stamp price t)) (balance_of_account base.accounts (postings_of_base base) t.account)) e
        ∙ sym (balance_grows base stamp price t xs ys r e)
    by_cash false e =
        ap (λ b. cond b (balance_of_account base.accounts (postings_of_base base) t.account +ℤ derived.settlement_amount base.accounts
        (trade_after_completion base stamp price t)) (balance_of_account base.accounts (postings_of_base base) t.account)) e
        ∙ sym (balance_stays base stamp price t xs ys r e)

pub summary_read : (base : Base) (stamp price : ℕ) (t : Trade) (xs ys : List Trade) (found : ResultPlanFacts) → TradeFound base t found
    → IsResult base stamp price t xs ys → PassesFirstResultChecks 2 found
    → shares_held_after_trade found ≡ holding_summary_quantity (completed_trades (base_after_result base stamp price t)) t.account t.symbol
summary_read base stamp price t xs ys found k r p =
    (λ i. held_found base t found k p i +ℤ signed_by_side (side_of_trade_type (k.row i).kind) (k.row i).qty) ∙ sym (summary_grows base stamp price t xs ys r)

pub commissions_read : (base : Base) (stamp price : ℕ) (t : Trade) (xs ys : List Trade) (found : ResultPlanFacts) → TradeFound base t found → IsResult base stamp price t xs ys
    → PassesFirstResultChecks 3 found → is_none found.listed.rate ≡ false → PassesFirstResultChecks 1 found
    → broker_commissions_after_result found price ≡ commission_total_of_broker base.accounts (completed_trades (base_after_result base stamp price t)) (broker_id_of_account base t.account)
commissions_read base stamp price t xs ys found k r p h q =
    (λ i. (broker_found base t found k p).1 i + commission_read base stamp price t found k q h i) ∙ sym (commissions_grow base stamp price t xs ys r)

-- ---- the refusal

pub mark_status : (o : Option StatusChange) → is_same_trade_status (option_map_or (λ m. m.status) o Canceled) Submitted ≡ option_map_or (λ m. is_same_trade_status m.status Submitted) o false
mark_status None = refl
mark_status (Some m) = refl

status_read : (t : Trade) (found : ResultPlanFacts) → abstract_trade_row found.trade ≡ trade_row t → not (is_same_trade_status found.trade.status Submitted) ≡ not (has_last_status Submitted t)
status_read t found row = ap (λ (r : TradeRow). not (is_same_trade_status r.status Submitted)) row ∙ ap not (mark_status (last_status_change t))

-- a stamp that is left, and the day of settlement
due_read : (base : Base) (last : Option ℕ) (now : ℕ) (o : Option ℕ) → BooksInvariant base → last ≡ (sheets base).last → now ≤ greatest_stamp → stamp_after last now ≡ o
    → first_refusal (due_day_check base.rule o ∷ [])
    ≡ first_refusal ((nat_lt greatest_day (due_day_of_completion_stamp base.rule (stamp_of_next_command base now)), ClockEnd)
    ∷ (nat_lt greatest_stamp (stamp_of_next_command base now), ClockEnd) ∷ (false, TooEarly) ∷ [])
due_read base last now None books l h e =
    let late : true ≡ nat_lt greatest_stamp (stamp_of_next_command base now) = sym (ap is_none e) ∙ clock_read base last now books l h in
    by_day (nat_lt greatest_day (due_day_of_completion_stamp base.rule (stamp_of_next_command base now)))
    ∙ ap (λ b. first_refusal ((nat_lt greatest_day (due_day_of_completion_stamp base.rule (stamp_of_next_command base now)), ClockEnd) ∷ (b, ClockEnd) ∷ [])) late
  where
    by_day : (b : Bool) → first_refusal ((true, ClockEnd) ∷ []) ≡ first_refusal ((b, ClockEnd) ∷ (true, ClockEnd) ∷ [])
    by_day true = refl
    by_day false = refl
due_read base last now (Some stamp) books l h e =
    let in_time : false ≡ nat_lt greatest_stamp (stamp_of_next_command base now) = sym (ap is_none e) ∙ clock_read base last now books l h in
    ap (λ s. first_refusal ((nat_lt greatest_day (due_day_of_completion_stamp base.rule s), ClockEnd) ∷ [])) (stamp_read base last now stamp l e)
    ∙ by_day (nat_lt greatest_day (due_day_of_completion_stamp base.rule (stamp_of_next_command base now)))
    ∙ ap (λ b. first_refusal ((nat_lt greatest_day (due_day_of_completion_stamp base.rule (stamp_of_next_command base now)), ClockEnd) ∷ (b, ClockEnd) ∷ [])) in_time
  where
    by_day : (b : Bool) → first_refusal ((b, ClockEnd) ∷ []) ≡ first_refusal ((b, ClockEnd) ∷ (false, ClockEnd) ∷ [])
    by_day true = refl
    by_day false = refl

all_alike : (base : Base) (now id price : ℕ) (t : Trade) (found : ResultPlanFacts) (last : Option ℕ) → TradeFound base t found → trade_with_id base id ≡ Some t
    → last ≡ (sheets base).last → now ≤ greatest_stamp
    → Alike (result_checks found price (result_values base (stamp_of_next_command base now) price t) (stamp_after last now))
    (model.checks_of_result base (base_after_result base (stamp_of_next_command base now) price t) (stamp_of_next_command base now) t
    ++ (nat_lt greatest_stamp (stamp_of_next_command base now), ClockEnd) ∷ (false, TooEarly) ∷ [])
all_alike base now id price t found last k e l h =
    subst (λ s. Alike ((not (is_same_trade_status found.trade.status Submitted), WrongStatus s) ∷ F) G) (ap (λ (r : TradeRow). r.status) (sym k.row))
    (same_first _ _ (WrongStatus (last_status_of_trade t)) _ _ (status_read t found k.row) (λ a.
    same_first _ _ NoRate _ _
    (ap is_none (rate_read base t found k (passes_status found a))
    ∙ is_none-map (λ b. b.rate) (commission_band_for_quantity base (tier_of_account base t.account) t.kind (exchange_of_security base t.symbol) t.qty))
    (λ b.
    let f : Found base now price t = found_at base now id price t k.books e (not_not (has_last_status Submitted t) (sym (status_read t found k.row) ∙ a)) in
    let one = passes_status found a in
    same_first _ _ (Range limit.Summary) _ _
    (ap (λ q. nat_lt greatest_summary_quantity (nat_abs q)) (summary_read base stamp price t f.front f.back found k f.result (passes_rate found a b))) (λ c.
    let three = passes_summary found a b c in
    same_first _ _ (Range limit.Balance) _ _
    (λ i. (k.row i).is_cash && nat_lt greatest_amount (nat_abs (balance_read base stamp price t f.front f.back found k f.result three b one i))) (λ d.
    same_first _ _ (Range limit.Broker) _ _
    (ap (λ n. nat_lt greatest_amount n) (commissions_read base stamp price t f.front f.back found k f.result three b one)) (λ g.
    record {
      first = ap (λ rule. first_refusal (due_day_check rule (stamp_after last now) ∷ [])) (rule_found base t found k three)
          ∙ due_read base last now (stamp_after last now) k.books l h refl;
    }))))))
  where
    stamp : ℕ
    stamp = stamp_of_next_command base now

    V : Values
    V = result_values base stamp price t

    F : List RefusalCheck
    F = (is_none found.listed.rate, NoRate) ∷ (nat_lt greatest_summary_quantity (nat_abs (shares_held_after_trade found)), Range limit.Summary)
        ∷ (found.trade.is_cash && nat_lt greatest_amount (nat_abs (balance_after_result found price V)), Range limit.Balance)
        ∷ (nat_lt greatest_amount (broker_commissions_after_result found price), Range limit.Broker) ∷ due_day_check found.posting.rule (stamp_after last now) ∷ []

    G : List RefusalCheck
    G = model.checks_of_result base (base_after_result base stamp price t) stamp t ++ (nat_lt greatest_stamp stamp, ClockEnd) ∷ (false, TooEarly) ∷ []

pub result_refusal : (base : Base) (now id price : ℕ) (t : Trade) (found : ResultPlanFacts) (last : Option ℕ) → TradeFound base t found → trade_with_id base id ≡ Some t
    → last ≡ (sheets base).last → now ≤ greatest_stamp
    → first_refusal (result_checks found price (result_values base (stamp_of_next_command base now) price t) (stamp_after last now)) ≡ refusal_of_command base now (CompleteTrade id price)
unfolding refusal_of_command checks_of_command
result_refusal base now id price t found last k e l h =
    (all_alike base now id price t found last k e l h).first
    ∙ sym (ap (λ o. first_refusal
    (option_map_or (λ t. model.checks_of_result base (base_after_result base (stamp_of_next_command base now) price t) (stamp_of_next_command base now) t) o
    ((true, NoTrade) ∷ [])
    ++ (nat_lt greatest_stamp (stamp_of_next_command base now), ClockEnd) ∷ (false, TooEarly) ∷ [])) e)

-- a result of no trade
pub nothing_refused : (base : Base) (now id price : ℕ) → trade_with_id base id ≡ None → refusal_of_command base now (CompleteTrade id price) ≡ Some NoTrade
unfolding refusal_of_command checks_of_command
nothing_refused base now id price e =
    ap (λ o. first_refusal
    (option_map_or (λ t. model.checks_of_result base (base_after_result base (stamp_of_next_command base now) price t) (stamp_of_next_command base now) t) o
    ((true, NoTrade) ∷ [])
    ++ (nat_lt greatest_stamp (stamp_of_next_command base now), ClockEnd) ∷ (false, TooEarly) ∷ [])) e
